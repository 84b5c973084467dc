-- The order in which adjustments act.
use Rattle.std.specs.Prelude.{◌≡◌, ◌/◌, Bool, if◌then◌else◌, ℤ, pos, negsuc, ◌≤ℤ◌, List, [], ◌∷◌, ◌++◌, filter, map, AllPairs}
use Rattle.std.specs.List.{list_any}
use Rattle.std.specs.Int.RustNames.{int_le, unsigned_abs}
use Rattle.std.specs.Ordering.{int_eq}
use Rattle.pl_spec.specs.declared.AssetRow.{AssetRow}
use Rattle.pl_spec.specs.declared.RawAdjust.{RawAdjust}
use Rattle.pl_spec.specs.declared.AdjustmentKind.{AdjustmentKind}
use Rattle.pl_spec.specs.declared.AdjustmentKind.TheVariants.{Split, Merger, Dividend}
use Rattle.pl_spec.specs.World.{Adjustment}
use Rattle.pl_spec.specs.World.Change.{Scale}

abbrev pub acts_at : ℤ → Adjustment → Bool
acts_at day x = int_eq x.event.day day

-- The rows by day: the days rise, and on each day the rows stand as they stood.
pub record IsByDay (rows sorted : List Adjustment) : Type 0 where
  pub rising : AllPairs (λ x y. x.event.day ≤ℤ y.event.day) sorted
  pub same : (day : ℤ) → filter (acts_at day) sorted ≡ filter (acts_at day) rows

-- x before the first that isn't earlier
abbrev pub insert_by_day : Adjustment → List Adjustment → List Adjustment
insert_by_day x [] = x ∷ []
insert_by_day x (y ∷ ys) = if int_le x.event.day y.event.day then x ∷ y ∷ ys else y ∷ insert_by_day x ys

abbrev pub by_day : List Adjustment → List Adjustment
by_day [] = []
by_day (x ∷ xs) = insert_by_day x (by_day xs)

-- the day of a time in seconds, rounded down
abbrev pub day_of_time : ℤ → ℤ
day_of_time (pos t) = pos (t / 86400)
day_of_time (negsuc t) = negsuc (t / 86400)

abbrev pub adjustment_in : AdjustmentKind → RawAdjust → Adjustment
adjustment_in kind r =
    record {
      sid = unsigned_abs r.sid;
      event = record { kind = kind; day = day_of_time r.effective; change = Scale (record { num = unsigned_abs r.num; den = unsigned_abs r.den }) };
    }

-- a row of an unknown sid is left out
abbrev pub is_of : List AssetRow → RawAdjust → Bool
is_of assets r = list_any (λ a. int_eq (pos a.sid) r.sid) assets

abbrev pub of_table : List AssetRow → AdjustmentKind → List RawAdjust → List Adjustment
of_table assets kind rows = map (adjustment_in kind) (filter (is_of assets) rows)

-- splits act before mergers and these before dividends, each in the order of their table
abbrev pub adjustments_of : List AssetRow → List RawAdjust → List RawAdjust → List RawAdjust → List Adjustment
adjustments_of assets splits mergers dividends =
    by_day (of_table assets Split splits ++ of_table assets Merger mergers ++ of_table assets Dividend dividends)

-- with revisions, which act after the other adjustments of their day, each in the order of their file
abbrev pub with_revisions : List Adjustment → List Adjustment → List Adjustment
with_revisions adjustments revisions = by_day (adjustments ++ revisions)
