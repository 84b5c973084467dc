-- Numbers of up to 10 ^ 17 without zeros in front, and the numbers of lines.
use Rattle.std.proofs.Common.{◌≡◌, ℕ, zero, suc, ◌<◌, ◌≤◌, ℤ, pos, negsuc, List, [], ◌∷◌, length, drop, get_or, Bool, true, false, Option, Some, None, IfSome, inl, refl, sym, ◌∙◌, ap, arith}
use Rattle.std.specs.Fmt.{signed_decimal}
use Rattle.std.specs.Int.RustNames.{unsigned_abs}
use Rattle.std.specs.Fmt.{decimal}
use Rattle.std.proofs.Common.{to_z, of_z, w64, ◌-ℤ◌}
use Rattle.std.proofs.lemmas.Int.{ints, to_z_pos}
use Rattle.std.specs.Str.Parse.{digits_value}
use Rattle.std.proofs.lemmas.Fmt.{decimal_is_IsNumeral, decimal_digit, first_decimal}
use Rattle.pl_spec.specs.Rounding.{LIMIT, MISSING, IsCell, is_missing}
use Rattle.pl_fixed.specs.Reading.{is_numeral}
use Rattle.pl_fixed.proofs.DigitLemmas.{is_numeral-from_digits}
use Rattle.pl_derivation.specs.Texts.{number_text, number_of_text}
use Rattle.pl_derivation.proofs.TextsRead.{small, number_back}
use Rattle.pl_derivation.proofs.TextsSaid.{number_said}

pub is_numeral-decimal : (bs : List ℕ) (n : ℕ) → n ≤ LIMIT → bs ≡ decimal n → is_numeral bs ≡ true
is_numeral-decimal bs n small e =
    let h = (decimal_is_IsNumeral n (omega arith)).0 in rw e (is_numeral-from_digits (decimal n) h.0 h.1)

pub digits_value-decimal_of : (bs : List ℕ) (n : ℕ) → n ≤ LIMIT → bs ≡ decimal n → digits_value 10 bs ≡ n
digits_value-decimal_of bs n small e = rw e (decimal_is_IsNumeral n (omega arith)).1

-- a zero in front stands alone
pub leading_zero : (bs : List ℕ) (n : ℕ) → n ≤ LIMIT → bs ≡ decimal n → get_or bs 0 0 ≡ 48 → length bs ≡ 1
leading_zero bs zero small e z = rw e (ap length (decimal_digit 0 (omega arith)))
leading_zero bs (suc n) small e z = absurd (omega (arith, first_decimal (suc n) (omega arith) (omega arith), rw e at z))

-- what answers exactly the cells whose text it is answers as the definition
pub as_number : (text : List ℕ) (o : Option ℤ)
    → IfSome o (λ x. IsCell x × (text ≡ number_text x))
    → ((x : ℤ) → IsCell x → text ≡ number_text x → o ≡ Some x)
    → o ≡ number_of_text text
as_number text (Some x) found only = sym (ap number_of_text found.1 ∙ number_back x found.0)
as_number text None found only = here (number_of_text text) refl
  where
    here : (p : Option ℤ) → number_of_text text ≡ p → None ≡ p
    here None e = refl
    here (Some x) e = let s = number_said text x e in only x s.1 s.0

-- ---- signs

-- one text is of one number
pub one_number : (text : List ℕ) (x y : ℤ) → IsCell x → IsCell y → text ≡ number_text x → text ≡ number_text y → Some x ≡ Some y
one_number text x y h i e f = sym (ap number_of_text e ∙ number_back x h) ∙ (ap number_of_text f ∙ number_back y i)

abbrev IsNegative : List ℕ → ℤ → Type 0
IsNegative digits x = (n : ℕ) × (suc n ≤ LIMIT) × (x ≡ negsuc n) × (digits ≡ decimal (suc n))

abbrev IsPositive : List ℕ → ℤ → Type 0
IsPositive text x = (n : ℕ) × (n ≤ LIMIT) × (x ≡ pos n) × (text ≡ decimal n)

no_minus : (n : ℕ) → n ≤ LIMIT → get_or (decimal n) 0 0 ≡ 45 → ⊥
no_minus zero l e = let zeros : decimal 0 ≡ 48 ∷ [] = decimal_digit 0 (omega arith) in let at : ◌≡◌ {A = ℕ} 48 45 = rw zeros at e in omega arith
no_minus (suc n) l e = let high = first_decimal (suc n) (omega arith) (omega arith) in omega arith

pub minus_said : (digits : List ℕ) (x : ℤ) → 0 < length digits → IsCell x → 45 ∷ digits ≡ number_text x → IsNegative digits x
minus_said digits x some h e = here (is_missing x) refl x refl h
  where
    here : (b : Bool) → is_missing x ≡ b → (y : ℤ) → x ≡ y → IsCell x → IsNegative digits x
    here true m y s h = let short : 45 ∷ digits ≡ 45 ∷ [] = e ∙ rw m refl in let none : length digits ≡ 0 = ap (λ t. length (drop 1 t)) short in absurd (omega arith)
    here false m (pos n) s h =
        let l : unsigned_abs x ≤ LIMIT = small x h m in
        let few : n ≤ LIMIT = rw s at l in
        let shown : 45 ∷ digits ≡ signed_decimal x = e ∙ rw m refl in
        let text : 45 ∷ digits ≡ decimal n = rw s at shown in
        absurd (no_minus n few (ap (λ t. get_or t 0 0) (sym text)))
    here false m (negsuc n) s h =
        let l : unsigned_abs x ≤ LIMIT = small x h m in
        let few : suc n ≤ LIMIT = rw s at l in
        let shown : 45 ∷ digits ≡ signed_decimal x = e ∙ rw m refl in
        let text : 45 ∷ digits ≡ 45 ∷ decimal (suc n) = rw s at shown in
        let same : digits ≡ decimal (suc n) = ap (drop 1) text in
        (n, few, s, same)

pub plain_said : (text : List ℕ) (x : ℤ) → (get_or text 0 0 ≡ 45 → ⊥) → IsCell x → text ≡ number_text x → IsPositive text x
plain_said text x other h e = here (is_missing x) refl x refl h
  where
    here : (b : Bool) → is_missing x ≡ b → (y : ℤ) → x ≡ y → IsCell x → IsPositive text x
    here true m y s h = let shown : text ≡ 45 ∷ [] = e ∙ rw m refl in absurd (other (ap (λ t. get_or t 0 0) shown))
    here false m (pos n) s h =
        let l : unsigned_abs x ≤ LIMIT = small x h m in
        let few : n ≤ LIMIT = rw s at l in
        let shown : text ≡ signed_decimal x = e ∙ rw m refl in
        let is : text ≡ decimal n = rw s at shown in
        (n, few, s, is)
    here false m (negsuc n) s h =
        let shown : text ≡ signed_decimal x = e ∙ rw m refl in
        let is : text ≡ 45 ∷ decimal (suc n) = rw s at shown in
        absurd (other (ap (λ t. get_or t 0 0) is))

pub missing_said : (digits : List ℕ) (x : ℤ) → length digits ≡ 0 → IsCell x → 45 ∷ digits ≡ number_text x → Some MISSING ≡ Some x
missing_said [] x none h e = one_number (45 ∷ []) MISSING x (inl refl) h refl e
missing_said (d ∷ ds) x none h e = absurd (omega arith)

pub something_said : (text : List ℕ) (x : ℤ) → length text ≡ 0 → IsCell x → text ≡ number_text x → ⊥
something_said [] x none h e = here (plain_said [] x (λ z. omega arith) h e)
  where
    here : IsPositive [] x → ⊥
    here (n, l, i, text) =
        let some : 0 < length (decimal n) = (decimal_is_IsNumeral n (omega arith)).0.0 in
        let same : ◌≡◌ {A = ℕ} 0 (length (decimal n)) = ap length text in
        omega arith
something_said (c ∷ cs) x none h e = omega arith

pub one_answer : (o : Option ℕ) (m n : ℕ) → o ≡ Some m → o ≡ Some n → m ≡ n
one_answer o m n e f = let same : Some m ≡ Some n = sym e ∙ f in cc

pub negated : (size n : ℕ) (x : ℤ) → size ≡ suc n → suc n ≤ LIMIT → x ≡ negsuc n → Some (to_z w64 (of_z w64 (pos 0 -ℤ to_z w64 size))) ≡ Some x
negated size n x same few is =
    let wide : to_z w64 size ≡ pos size = to_z_pos w64 size (omega arith) in
    let turned : pos 0 -ℤ pos size ≡ x = omega (arith, ints) in
    let back : to_z w64 (of_z w64 x) ≡ x = omega (arith, ints) in
    rw (wide, turned, back) refl
