-- The rows of three tables, one after the other, and the first fault among them.
use Rattle.std.specs.Prelude.{ℕ, suc, Bool, ◌&&◌, if◌then◌else◌, nat_le, ℤ, pos, negsuc, List, [], ◌∷◌, ◌++◌, map, Option, Some, None}
use Rattle.std.specs.Int.RustNames.{int_le}
use Rattle.std.specs.Option.{option_or}
use Rattle.pl_spec.specs.declared.AdjustmentKind.{AdjustmentKind}
use Rattle.pl_spec.specs.declared.AdjustmentKind.TheVariants.{Split, Merger, Dividend}
use Rattle.pl_spec.specs.declared.RawAdjust.{RawAdjust}
use Rattle.pl_spec.specs.Order.{day_of_time}
use Rattle.pl_outside.specs.declared.keeper.Table.{Table}
use Rattle.pl_spec.specs.Limits.{most_adjustments}
use Rattle.pl_outside.specs.declared.keeper.Table.TheVariants.{Splits, Mergers, Dividends}

-- what the rows of a table are
abbrev pub kind_of : Table → AdjustmentKind
kind_of Splits = Split
kind_of Mergers = Merger
kind_of Dividends = Dividend

-- a row and its table
pub record TableRow : Type 0 where
  pub table : Table
  pub row : RawAdjust

abbrev pub in_table : Table → List RawAdjust → List TableRow
in_table table rows = map (λ r. record { table = table; row = r }) rows

abbrev pub walk : List RawAdjust → List RawAdjust → List RawAdjust → List TableRow
walk splits mergers dividends =
    in_table Splits splits ++ in_table Mergers mergers ++ in_table Dividends dividends

pub data Fault : Type 0 where
  TooMany : Fault
  BadEffective BadRatio : (table : Table) (id : ℤ) → Fault

-- a time of a day from 1900-01-01 to 2199-12-31
abbrev pub is_effective : ℤ → Bool
is_effective time = int_le (negsuc 25566) (day_of_time time) && int_le (day_of_time time) (pos 84005)

-- from 1 to 10^9
abbrev pub is_part : ℤ → Bool
is_part n = int_le (pos 1) n && int_le n (pos 1000000000)

-- the first rule that a row breaks after n rows
unfoldable pub fault_at : ℕ → TableRow → Option Fault
fault_at n r =
    if nat_le most_adjustments n then Some TooMany
    else if is_effective r.row.effective then
    if is_part r.row.num && is_part r.row.den then None else Some (BadRatio r.table r.row.id)
    else Some (BadEffective r.table r.row.id)

-- the first fault of rows that stand after n rows
unfoldable pub first_fault : ℕ → List TableRow → Option Fault
first_fault n [] = None
first_fault n (r ∷ rs) = option_or (fault_at n r) (first_fault (suc n) rs)
