-- A ratio that is left out, with the bars before it restated.
use Rattle.std.specs.Prelude.{◌≡◌, ◌==◌, not, filter, slice_get, ℕ, suc, ◌<◌, if◌then◌else◌, ℤ, ◌<ℤ◌, ◌≤ℤ◌, List, ◌∷◌, ◌++◌, map, Option, Some, None}
use Rattle.std.specs.Int.RustNames.{int_lt}
use Rattle.pl_spec.specs.declared.AdjustmentKind.{AdjustmentKind}
use Rattle.pl_spec.specs.declared.AdjustmentKind.TheVariants.{Merger, Dividend}
use Rattle.pl_spec.specs.declared.Column.{Column}
use Rattle.pl_spec.specs.declared.Column.TheVariants.{OpenPrice, High, Low, Close, Volume}
use Rattle.pl_spec.specs.Rounding.{Fraction, scaled}
use Rattle.pl_spec.specs.World.{World, IsWorld, Bar, Change, Event, Adjustment, day_of, events_of, bar_cell}
use Rattle.pl_spec.specs.World.Change.{Scale, Overwrite}
use Rattle.pl_spec.specs.Window.{before, effects_in, seen_cell, bar_window}
use Rattle.pl_invariance.specs.Exact.{AllDivide}

-- What a split 1/2 makes of earlier bars: half the price, twice the volume. A merger and a dividend leave the
-- volume as it is.
abbrev pub ratio_for : Column → AdjustmentKind → Fraction → Option Fraction
ratio_for Volume Merger r = None
ratio_for Volume Dividend r = None
ratio_for Volume kind r = Some (record { num = r.den; den = r.num })
ratio_for c kind r = Some r

-- a cell times what an event multiplies it by, if by anything
abbrev pub times : Option Fraction → ℤ → ℤ
times None x = x
times (Some f) x = scaled f x

-- a correction that was known before the split is restated as its bar is
abbrev pub restated_change : AdjustmentKind → Fraction → Change → Change
restated_change kind ratio (Scale f) = Scale f
restated_change kind ratio (Overwrite day c x) = Overwrite day c (times (ratio_for c kind ratio) x)

abbrev pub restated_event : AdjustmentKind → Fraction → Event → Event
restated_event kind ratio e = record e { change = restated_change kind ratio e.change }

-- the cell of a bar of a day: of an earlier day than the split it is restated
abbrev pub restated_cell : AdjustmentKind → Fraction → ℤ → Column → Option ℤ → ℤ → ℤ
restated_cell kind ratio split c None x = x
restated_cell kind ratio split c (Some bar) x =
    if int_lt bar split then times (ratio_for c kind ratio) x else x

-- In the second world the event of asset a is left out, which multiplies by the ratio, and what it acts on is
-- restated: its bars of earlier days, and corrections that come before it.
pub record IsRestated (w v : World) (a : ℕ) (ratio : Fraction) (e : Event)
    (front back : List Event) : Type 0 where
  pub scales : e.change ≡ Scale ratio
  pub days : v.days ≡ w.days
  pub ours : events_of w a ≡ front ++ e ∷ back
  pub theirs : events_of v a ≡ map (restated_event e.kind ratio) front ++ back
  pub bars : (c : Column) (s : ℤ) → bar_cell v a c s
      ≡ restated_cell e.kind ratio e.day c (day_of w s) (bar_cell w a c s)

-- the world in which that is so
abbrev pub restated_bar : ℕ → AdjustmentKind → Fraction → ℤ → List ℤ → Bar → Bar
restated_bar a kind ratio split days b =
    let restate : Column → ℤ → ℤ = λ c x. restated_cell kind ratio split c (slice_get days b.session) x in
    if b.sid == a
    then record b {
      open_price = restate OpenPrice b.open_price;
      high = restate High b.high;
      low = restate Low b.low;
      close = restate Close b.close;
      volume = restate Volume b.volume;
    }
    else b

abbrev pub adjusted : ℕ → Event → Adjustment
adjusted a f = record { sid = a; event = f }

abbrev pub restated_world : World → ℕ → Fraction → Event → List Event → List Event → World
restated_world w a ratio e front back = record w {
  bars = map (restated_bar a e.kind ratio e.day w.days) w.bars;
  adjustments =
      filter (λ (x : Adjustment). not (x.sid == a)) w.adjustments
      ++ map (adjusted a) (map (restated_event e.kind ratio) front ++ back);
}

abbrev pub WorldsCanBeRestated : Type 0
WorldsCanBeRestated = (w : World) (a : ℕ) (ratio : Fraction) (e : Event) (front back : List Event)
    → e.change ≡ Scale ratio → events_of w a ≡ front ++ e ∷ back
    → IsRestated w (restated_world w a ratio e front back) a ratio e front back

-- nothing is rounded where the event acts on a bar before others that come before it
abbrev pub IsExactAt : World → ℕ → Fraction → Event → List Event → Column → ℤ → ℤ → Type 0
IsExactAt w a ratio e front c s day = (bar : ℤ) (f : Fraction) → day_of w s ≡ Some bar → bar <ℤ e.day
    → ratio_for c e.kind ratio ≡ Some f
    → AllDivide f (bar_cell w a c s) (effects_in c bar bar day front)

-- From the day of the event on, each cell is seen alike in both worlds, and so is each window of bars, where
-- nothing is rounded.
pub record SplitsMayBeRestated : Type 0 where
  pub cells : (w v : World) (a : ℕ) (ratio : Fraction) (e : Event) (front back : List Event) → IsWorld w
      → IsRestated w v a ratio e front back
      → (c : Column) (s d day : ℤ) → day_of w d ≡ Some day → e.day ≤ℤ day
      → IsExactAt w a ratio e front c s day
      → seen_cell v a c s d ≡ seen_cell w a c s d
  pub windows : (w v : World) (a : ℕ) (ratio : Fraction) (e : Event) (front back : List Event)
      → IsWorld w → IsRestated w v a ratio e front back
      → (c : Column) (size : ℕ) (d day : ℤ) → day_of w d ≡ Some day → e.day ≤ℤ day
      → ((n : ℕ) → n < size → IsExactAt w a ratio e front c (before d (suc n)) day)
      → bar_window v c size a d ≡ bar_window w c size a d
