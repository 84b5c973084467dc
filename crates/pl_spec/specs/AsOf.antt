-- What is known by a session: the world, and its parts, without what comes later.
use Rattle.std.specs.Prelude.{ℕ, suc, nat_lt, Bool, ℤ, List, filter, take}
use Rattle.std.specs.Int.RustNames.{int_le}
use Rattle.pl_spec.specs.declared.BarRow.{BarRow}
use Rattle.pl_spec.specs.World.{World, LabelRow}
use Rattle.pl_spec.specs.Numbers.{numbers_by}
use Rattle.pl_spec.specs.Parts.{ColumnLabel, ColumnAdjustment, ColumnNumber}
use Rattle.pl_spec.specs.Agree.{is_known}

-- ---- the parts

abbrev pub sessions_to : ℕ → List ℤ → List ℤ
sessions_to d days = take (suc d) days

abbrev pub labels_by : ℤ → List ColumnLabel → List ColumnLabel
labels_by day labels = filter (λ r. int_le r.start day) labels

abbrev pub bars_before : ℕ → List BarRow → List BarRow
bars_before d bars = filter (λ b. nat_lt b.session d) bars

abbrev pub adjustments_by : ℤ → List ColumnAdjustment → List ColumnAdjustment
adjustments_by day adjustments = filter (λ x. int_le x.event.day day) adjustments

abbrev pub column_numbers_by : ℤ → List ColumnNumber → List ColumnNumber
column_numbers_by day numbers = filter (λ r. int_le r.known day) numbers

-- ---- the world

abbrev pub has_started : ℤ → LabelRow → Bool
has_started day r = int_le r.start day

-- The world as of session d, whose day is the given one: its sessions up to d, the bars of sessions before d,
-- and the label rows, adjustments and numbers that count by that day. All assets are kept, and all texts, so
-- that each has its code.
abbrev pub as_of : World → ℕ → ℤ → World
as_of w d day =
    record {
      days = take (suc d) w.days;
      assets = w.assets;
      labels = filter (has_started day) w.labels;
      texts = w.texts;
      bars = filter (λ b. nat_lt b.session d) w.bars;
      adjustments = filter (λ x. is_known day x.event) w.adjustments;
      numbers = numbers_by day w.numbers;
    }
