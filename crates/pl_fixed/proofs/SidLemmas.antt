-- Numbers without zeros in front.
use Rattle.std.proofs.Common.{◌≡◌, ℕ, zero, suc, ◌<◌, ◌^◌, List, length, get_or, true, Option, Some, None, IfSome, refl, sym, ap, arith}
use Rattle.std.specs.Fmt.{decimal}
use Rattle.std.specs.Str.Parse.{AllDigits, digits_value}
use Rattle.std.proofs.lemmas.Fmt.{decimal_is_IsNumeral, decimal_digit, first_decimal, decimal-digits_value}
use Rattle.std.proofs.lemmas.Str.Parse.{numerals_by_value, tells_digits}
use Rattle.pl_spec.specs.Decimals.{sid_in}
use Rattle.pl_spec.proofs.SidsRead.{sid_in-decimal, decimal-sid_in}
use Rattle.pl_fixed.specs.Reading.{is_numeral}
use Rattle.pl_fixed.proofs.DigitLemmas.{is_numeral-from_digits}

pub is_numeral-decimal : (bs : List ℕ) (n : ℕ) → n < 2 ^ 32 → bs ≡ decimal n → is_numeral bs ≡ true
is_numeral-decimal bs n small e =
    let h = (decimal_is_IsNumeral n (omega arith)).0 in rw e (is_numeral-from_digits (decimal n) h.0 h.1)

pub digits_value-decimal_of : (bs : List ℕ) (n : ℕ) → n < 2 ^ 32 → bs ≡ decimal n → digits_value 10 bs ≡ n
digits_value-decimal_of bs n small e = rw e (decimal_is_IsNumeral n (omega arith)).1

-- a zero in front stands alone
pub leading_zero : (bs : List ℕ) (n : ℕ) → n < 2 ^ 32 → bs ≡ decimal n → get_or bs 0 0 ≡ 48 → length bs ≡ 1
leading_zero bs zero small e z = rw e (ap length (decimal_digit 0 (omega arith)))
leading_zero bs (suc n) small e z = absurd (omega (arith, first_decimal (suc n) (omega arith) (omega arith), rw e at z))

pub decimal-value_of : (bs : List ℕ) → AllDigits 10 bs → 0 < length bs → (get_or bs 0 0 ≡ 48 → length bs ≡ 1)
    → digits_value 10 bs < 2 ^ 64 → decimal (digits_value 10 bs) ≡ bs
decimal-value_of bs digits some lead small =
    decimal-digits_value (numerals_by_value (AllDigits 10) tells_digits) bs digits some lead small

-- what answers exactly the numbers whose text it is answers as the definition
pub as_sid_in : (text : List ℕ) (o : Option ℕ)
    → IfSome o (λ sid. (sid < 2 ^ 32) × (text ≡ decimal sid))
    → ((sid : ℕ) → sid < 2 ^ 32 → text ≡ decimal sid → o ≡ Some sid)
    → o ≡ sid_in text
as_sid_in text (Some sid) found only = sym (sid_in-decimal text sid found.0 found.1)
as_sid_in text None found only = here (sid_in text) refl
  where
    here : (p : Option ℕ) → sid_in text ≡ p → None ≡ p
    here None e = refl
    here (Some sid) e = let s = decimal-sid_in text sid e in only sid s.0 s.1
