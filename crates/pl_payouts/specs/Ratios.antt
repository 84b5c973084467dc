-- The row of a payout, or why it has none.
use Rattle.std.specs.Prelude.{ℕ, zero, suc, ◌/◌, ◌%◌, ◌||◌, nat_lt, Bool, if◌then◌else◌, ℤ, pos, ◌-ℤ◌, ◌*ℤ◌, List, [], length, position, Option, Some, None, option_map, unwrap_or, Result, Ok, Err}
use Rattle.std.specs.Int.RustNames.{int_le, unsigned_abs}
use Rattle.std.specs.Ordering.{int_eq}
use Rattle.pl_spec.specs.Rounding.{Fraction, is_missing}
use Rattle.pl_spec.specs.World.{bar_cell}
use Rattle.pl_spec.specs.Parts.{world_of}
use Rattle.pl_spec.specs.declared.AssetRow.{AssetRow}
use Rattle.pl_spec.specs.declared.BarRow.{BarRow}
use Rattle.pl_spec.specs.declared.Column.TheVariants.{Close}
use Rattle.pl_spec.specs.declared.RawAdjust.{RawAdjust}
use Rattle.pl_payouts.specs.declared.Payout.{Payout}
use Rattle.pl_payouts.specs.declared.ratio.Skip.{Skip}
use Rattle.pl_payouts.specs.declared.ratio.Skip.TheVariants.{NoSession, NoClose, NotBelow, TooFine}

-- ---- the close before a day

-- the last of so many sessions, which are numbered from 0
abbrev pub last_of : ℕ → Option ℕ
last_of zero = None
last_of (suc n) = Some n

-- how many sessions stand before the first one of the day or a later day
abbrev pub sessions_before : List ℤ → ℤ → ℕ
sessions_before days ex = unwrap_or (position (λ d. int_le ex d) days) (length days)

-- the last of the sessions before the day
unfoldable pub last_before : List ℤ → ℤ → Option ℕ
last_before days ex = last_of (sessions_before days ex)

-- the raw close of an asset on a session
abbrev pub raw_close : List ℤ → List AssetRow → List BarRow → ℕ → ℕ → ℤ
raw_close days assets bars sid session =
    bar_cell (world_of days assets [] [] bars [] []) sid Close (pos session)

-- that of the last session before the ex day
unfoldable pub close_before : List ℤ → List AssetRow → List BarRow → Payout → Option ℤ
close_before days assets bars p = option_map (raw_close days assets bars p.sid) (last_before days p.ex)

-- ---- a fraction in lowest terms

-- Euclid's steps, of which the first number is a bound
unfoldable pub gcd_by : ℕ → ℕ → ℕ → ℕ
gcd_by zero a b = a
gcd_by (suc n) a zero = a
gcd_by (suc n) a (suc b) = gcd_by n (suc b) (a % suc b)

-- the greatest common divisor
abbrev pub gcd : ℕ → ℕ → ℕ
gcd a b = gcd_by b a b

unfoldable pub lowest : ℕ → ℕ → Fraction
lowest a b = record { num = a / gcd a b; den = b / gcd a b }

-- ---- the row

-- a part is more than a row of adjustments may have
abbrev pub is_too_fine : Fraction → Bool
is_too_fine f = nat_lt 1000000000 f.num || nat_lt 1000000000 f.den

abbrev pub effective_of : Payout → ℤ
effective_of p = p.ex *ℤ pos 86400

abbrev pub row_of : Payout → Fraction → RawAdjust
row_of p f =
    record { id = pos p.number; effective = effective_of p; num = pos f.num; den = pos f.den; sid = pos p.sid }

abbrev pub row_unless_fine : Payout → Fraction → Result RawAdjust Skip
row_unless_fine p f = if is_too_fine f then Err TooFine else Ok (row_of p f)

-- over a close
unfoldable pub ratio_over : Payout → ℤ → Result RawAdjust Skip
ratio_over p close =
    if is_missing close || int_eq close (pos 0) then Err NoClose
    else if int_le close p.amount then Err NotBelow
    else row_unless_fine p (lowest (unsigned_abs (close -ℤ p.amount)) (unsigned_abs close))

abbrev pub ratio_if : Payout → Option ℤ → Result RawAdjust Skip
ratio_if p None = Err NoSession
ratio_if p (Some close) = ratio_over p close

unfoldable pub ratio_in : List ℤ → List AssetRow → List BarRow → Payout → Result RawAdjust Skip
ratio_in days assets bars p = ratio_if p (close_before days assets bars p)
