-- The rows of the tables of adjustments of a world, and what a table as text says.
use Rattle.std.specs.Prelude.{◌≡◌, ◌≢◌, ℕ, ◌+◌, ◌≤◌, ◌<◌, ◌^◌, IsTrue, Bool, ℤ, pos, ◌*ℤ◌, ◌<ℤ◌, codes, List, [], ◌∷◌, ◌++◌, map, filter, length, All, Contains}
use Rattle.std.specs.Fmt.{signed_decimal}
use Rattle.std.specs.Int.RustNames.{unsigned_abs}
use Rattle.std.specs.Ordering.{int_eq}
use Rattle.pl_spec.specs.Dates.{IsDay}
use Rattle.pl_spec.specs.Limits.{most_adjustments, most_revisions}
use Rattle.pl_spec.specs.declared.AdjustmentKind.{AdjustmentKind}
use Rattle.pl_spec.specs.declared.AdjustmentKind.TheVariants.{Split, Merger, Dividend, Revision}
use Rattle.pl_spec.specs.declared.RawAdjust.{RawAdjust}
use Rattle.pl_spec.specs.World.{World, Adjustment, Change, Event, events_of}
use Rattle.pl_spec.specs.World.Change.{Scale, Overwrite}
use Rattle.pl_records.specs.Reading.{Record}
use Rattle.pl_records.specs.Records.{csv_records}
use Rattle.pl_adjust.specs.Walk.{is_part}
use Rattle.pl_bars.specs.Bars.{is_bar_cell}
use Rattle.pl_parts.specs.Texts.{is_kind, rows_in}
use Rattle.pl_pieces.specs.Held.{IsSidOf}

-- ---- tables

abbrev pub numerator : Change → ℕ
numerator (Scale f) = f.num
numerator (Overwrite _ _ _) = 0

abbrev pub denominator : Change → ℕ
denominator (Scale f) = f.den
denominator (Overwrite _ _ _) = 0

-- an adjustment as the row of that number, effective from the midnight of its day on
abbrev pub raw_of : ℕ → Adjustment → RawAdjust
raw_of n x =
    record {
      id = pos n;
      effective = x.event.day *ℤ pos 86400;
      num = pos (numerator x.event.change);
      den = pos (denominator x.event.change);
      sid = pos x.sid;
    }

abbrev pub raws_from : ℕ → List Adjustment → List RawAdjust
raws_from n [] = []
raws_from n (x ∷ xs) = raw_of n x ∷ raws_from (n + 1) xs

-- the rows of the table of a kind: those of all assets, with numbers from 1
abbrev pub table_rows : AdjustmentKind → World → List RawAdjust
table_rows kind w = raws_from 1 (rows_in kind w)

abbrev pub table_header : Record
table_header = codes "id" ∷ codes "effective_date" ∷ codes "num" ∷ codes "den" ∷ codes "sid" ∷ []

-- a row as five whole numbers
abbrev pub table_record : RawAdjust → Record
table_record r =
    signed_decimal r.id ∷ signed_decimal r.effective ∷ signed_decimal r.num ∷ signed_decimal r.den
    ∷ signed_decimal r.sid ∷ []

-- whole numbers, as a database has them
pub record IsWhole (r : RawAdjust) : Type 0 where
  pub id : unsigned_abs r.id < 2 ^ 63
  pub effective : unsigned_abs r.effective < 2 ^ 63
  pub num : unsigned_abs r.num < 2 ^ 63
  pub den : unsigned_abs r.den < 2 ^ 63
  pub sid : unsigned_abs r.sid < 2 ^ 63

-- the records of the text are a header and these rows
pub record IsTableOf (text : List ℕ) (rows : List RawAdjust) : Type 0 where
  pub records : csv_records text ≡ table_header ∷ map table_record rows
  pub whole : All IsWhole rows

-- ---- what tables and revisions files can hold

-- a ratio of parts from 1 to 10^9; a revision of the bar of an earlier session
abbrev pub IsChangeIn : List ℤ → ℤ → AdjustmentKind → Change → Type 0
IsChangeIn days day Revision (Overwrite bar_day _ value) =
    Contains days bar_day × (bar_day <ℤ day) × IsTrue (is_bar_cell value)
IsChangeIn days day Revision (Scale f) = ⊥
IsChangeIn days day kind (Scale f) = IsTrue (is_part (pos f.num)) × IsTrue (is_part (pos f.den))
IsChangeIn days day kind (Overwrite _ _ _) = ⊥

pub record IsEventIn (days : List ℤ) (e : Event) : Type 0 where
  pub day : IsDay e.day
  pub change : IsChangeIn days e.day e.kind e.change

abbrev pub on_day : ℤ → Event → Bool
on_day day e = int_eq e.day day

abbrev pub of_kind : AdjustmentKind → Event → Bool
of_kind kind e = is_kind kind e.kind

-- on each day splits come before mergers, these before dividends, and these before revisions
abbrev pub KindsInOrder : List Event → Type 0
KindsInOrder es = (day : ℤ) → filter (on_day day) es
    ≡ filter (of_kind Split) (filter (on_day day) es) ++ filter (of_kind Merger) (filter (on_day day) es)
    ++ filter (of_kind Dividend) (filter (on_day day) es)
    ++ filter (of_kind Revision) (filter (on_day day) es)

pub record AreAdjustmentsOf (w : World) : Type 0 where
  pub known : (a : ℕ) → events_of w a ≢ [] → IsSidOf w.assets a
  pub each : (a : ℕ) → All (IsEventIn w.days) (events_of w a)
  pub order : (a : ℕ) → KindsInOrder (events_of w a)
  pub few : length w.adjustments ≤ most_adjustments + most_revisions
