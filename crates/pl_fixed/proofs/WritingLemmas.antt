-- What is written is read back.
use Rattle.std.proofs.Common.{◌≡◌, ℕ, ◌+◌, ◌*◌, ◌/◌, ◌%◌, ◌^◌, ◌<◌, ◌≤◌, Bool, true, false, List, [], ◌∷◌, ◌++◌, length, ℤ, pos, negsuc, unsigned_abs, refl, ◌∙◌, arith, nat_lt}
use Rattle.std.specs.Prelude.{int_lt}
use Rattle.std.specs.Fmt.{sign_text, decimal}
use Rattle.std.specs.Str.Parse.{digits_value}
use Rattle.std.proofs.lemmas.Nat.{div-add-mod', mod_below}
use Rattle.std.proofs.lemmas.Bool.Decides.{nat_tests}
use Rattle.std.proofs.lemmas.Fmt.{decimal_is_IsNumeral, length-decimal-le}
use Rattle.pl_spec.specs.Rounding.{LIMIT, MILLION, div_round}
use Rattle.pl_spec.specs.Dates.{digits}
use Rattle.pl_spec.specs.Decimals.{Decimal, IsDecimal, IsReadAs, point_text, signed, units_text}
use Rattle.pl_fixed.proofs.RoundingLemmas.{div_round-multiple, div_round-multiple_neg}
use Rattle.pl_fixed.proofs.DigitLemmas.{digits_value-append, length-digits, AllDigits-digits, digits_value-digits}

point_text-some : (ds : List ℕ) → 0 < length ds → point_text ds ≡ 46 ∷ ds
point_text-some [] h = absurd (omega arith)
point_text-some (d ∷ ds) h = refl

signed-abs : (v : ℤ) → signed (int_lt v (pos 0)) (unsigned_abs v) ≡ v
signed-abs (pos n) = let none : nat_lt n 0 ≡ false = grind (arith, nat_tests) in rw none
signed-abs (negsuc n) = refl

div_round-signed : (negative : Bool) (m b : ℕ) → 0 < b → div_round (signed negative (m * b)) b ≡ signed negative m
div_round-signed true m b p = div_round-multiple_neg m b p
div_round-signed false m b p = div_round-multiple m b p

-- the text of a number of millionths is read as that number
pub reads_back : (v : ℤ) → unsigned_abs v ≤ LIMIT
    → (d : Decimal) × IsDecimal d (sign_text (int_lt v (pos 0)) ++ units_text (unsigned_abs v)) × IsReadAs d v
reads_back v small =
    let n = unsigned_abs v in
    let q = n / MILLION in
    let r = n % MILLION in
    let parts = div-add-mod' n MILLION in
    let low : r < 10 ^ 6 = mod_below n MILLION (omega arith) in
    let d : Decimal = record { negative = int_lt v (pos 0); whole = decimal q; fraction = digits 6 r } in
    let whole = decimal_is_IsNumeral q (omega arith) in
    let point = point_text-some (digits 6 r) (rw (length-digits 6 r) (omega arith)) in
    let value : digits_value 10 (decimal q ++ digits 6 r) ≡ n =
    digits_value-append (decimal q) (digits 6 r) ∙ rw (length-digits 6 r, whole.1, digits_value-digits 6 r low) parts in
    let exact = div_round-signed (int_lt v (pos 0)) n MILLION (omega arith) in (
      d,
      record { whole = whole.0; fraction = AllDigits-digits 6 r; spelled = rw point },
      (rw (length-digits 6 r) (omega arith), small, rw (value, length-digits 6 r, exact, signed-abs v)),
    )

-- the sign and the digits before the point take 13 bytes at most
pub length-front-le : (v : ℤ) (n : ℕ) → n ≡ unsigned_abs v → unsigned_abs v ≤ LIMIT
    → length (sign_text (int_lt v (pos 0))) + length (decimal (n / MILLION)) ≤ 13
length-front-le v n e small =
    let sign : length (sign_text (int_lt v (pos 0))) ≤ 1 = sign_text_small (int_lt v (pos 0)) in
    let below : n / MILLION < 10 ^ 12 = omega arith in
    omega (arith, length-decimal-le 12 (n / MILLION) (omega arith) below (omega arith))
  where
    sign_text_small : (negative : Bool) → length (sign_text negative) ≤ 1
    sign_text_small true = omega arith
    sign_text_small false = omega arith
