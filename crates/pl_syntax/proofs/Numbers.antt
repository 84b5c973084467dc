-- The text of a number is a decimal without a sign, and reading it gives its token.
use Rattle.std.proofs.Common.{◌≡◌, ℕ, ℤ, suc, ◌+◌, ◌<◌, Bool, true, false, cond, ◌||◌, List, [], ◌∷◌, ◌++◌, length, take, drop, append-nil, Result, Ok, Err, refl, sym, ap, ◌∙◌, arith, subst, ◌⊎◌, inl, inr}
use Rattle.std.specs.Prelude.{nat_lt}
use Rattle.std.specs.List.{list_all}
use Rattle.std.specs.Char.{digit_value}
use Rattle.std.specs.Str.Parse.{AllDigits}
use Rattle.std.specs.Int.RustNames.{unsigned_abs}
use Rattle.std.proofs.lemmas.Bool.Decides.{nat_tests}
use Rattle.std.proofs.Math.Seq.{take-append_seam, take-length}
use Rattle.std.proofs.lemmas.Bool.{and_parts}
use Rattle.pl_spec.specs.Rounding.{LIMIT}
use Rattle.pl_spec.specs.Decimals.{Decimal, IsDecimal, millionths}
use Rattle.pl_fixed.specs.Reading.{read, judged, in_range}
use Rattle.pl_fixed.specs.declared.decimal.DecimalFault.{DecimalFault}
use Rattle.pl_fixed.specs.declared.decimal.DecimalFault.TheVariants.{TooManyDigits, TooLarge}
use Rattle.pl_fixed.proofs.ReadingLemmas.{read-spelled}
use Rattle.pl_grammar.specs.Tree as t
use Rattle.pl_grammar.specs.Tree.{Token}
use Rattle.pl_syntax.specs.declared.front.Form.{Form}
use Rattle.pl_syntax.specs.declared.front.Form.TheVariants.{Word, Number, Text, One, Two}
use Rattle.pl_spec.specs.Names.{is_digit}
use Rattle.pl_syntax.specs.Tokens.{Front, a_word, a_whole, a_decimal, a_text, a_pair, a_sign, decimal_token}

-- digits

digit_below : (c : ℕ) → is_digit c ≡ true → digit_value c < 10
digit_below c h = grind (arith, nat_tests)

pub all_digits : (ds : List ℕ) → list_all is_digit ds ≡ true → AllDigits 10 ds
all_digits [] h = tt
all_digits (c ∷ cs) h = let p = and_parts (is_digit c) (list_all is_digit cs) h in (digit_below c p.0, all_digits cs p.1)

-- the decimal of a number's text
abbrev pub decimal_of : ℕ → List ℕ → Decimal
decimal_of whole xs = record { negative = false; whole = take whole xs; fraction = drop (whole + 1) xs }

pub past : (xs : List ℕ) → drop (length xs + 1) xs ≡ []
past [] = refl
past (x ∷ xs) = ap (λ n. drop n (x ∷ xs)) (let e : suc (length xs) + 1 ≡ suc (length xs + 1) = omega arith in e) ∙ past xs

pub behind : (xs ys : List ℕ) (b : ℕ) → drop (length xs + 1) (xs ++ (b ∷ ys)) ≡ ys
behind [] ys b = refl
behind (x ∷ xs) ys b = ap (λ n. drop n (x ∷ (xs ++ (b ∷ ys)))) (let e : suc (length xs) + 1 ≡ suc (length xs + 1) = omega arith in e) ∙ behind xs ys b

is_decimal : (whole fraction xs : List ℕ) (n : ℕ) → take n xs ≡ whole → drop (n + 1) xs ≡ fraction → IsDecimal (record { negative = false; whole = whole; fraction = fraction }) xs → IsDecimal (decimal_of n xs) xs
is_decimal whole fraction xs n e f h =
    subst (λ z. IsDecimal (record { negative = false; whole = z; fraction = drop (n + 1) xs }) xs) (sym e) (subst (λ z. IsDecimal (record { negative = false; whole = whole; fraction = z }) xs) (sym f) h)

number_whole : (a b n k : ℕ) → Number a b ≡ Number n k → a ≡ n
number_whole a b n k h = cc

-- a number's text is such a decimal
pub literal : {xs rest : List ℕ} {f : Form} → Front xs rest f → (n k : ℕ) → f ≡ Number n k → IsDecimal (decimal_of n xs) xs
literal (a_word c cs h s few z) n k e = absurd (no_word (suc (length cs)) n k e)
  where
    no_word : (a n k : ℕ) → Word a ≡ Number n k → ⊥
    no_word a n k e = cc
literal (a_text cs h) n k e = absurd (no_text (length cs + 2) n k e)
  where
    no_text : (a n k : ℕ) → Text a ≡ Number n k → ⊥
    no_text a n k e = cc
literal (a_pair c h) n k e = absurd (no_pair c n k e)
  where
    no_pair : (a n k : ℕ) → Two a ≡ Number n k → ⊥
    no_pair a n k e = cc
literal (a_sign c h s) n k e = absurd (no_sign c n k e)
  where
    no_sign : (a n k : ℕ) → One a ≡ Number n k → ⊥
    no_sign a n k e = cc
literal (a_whole c cs h all s) n k e =
    subst (λ z. IsDecimal (decimal_of z (c ∷ cs)) (c ∷ cs)) (number_whole (suc (length cs)) 0 n k e)
    (is_decimal (c ∷ cs) [] (c ∷ cs) (suc (length cs)) (take-length (c ∷ cs)) (past (c ∷ cs))
    (record { whole = (omega arith, (digit_below c h, all_digits cs all)); fraction = tt; spelled = sym (no_more (c ∷ cs)) }))
  where
    no_more : (xs : List ℕ) → [] ++ (xs ++ []) ≡ xs
    no_more xs = simp (append-nil) refl
literal (a_decimal c cs f fs h all g more s) n k e =
    let xs : List ℕ = c ∷ (cs ++ (46 ∷ (f ∷ fs))) in
    subst (λ z. IsDecimal (decimal_of z xs) xs) (number_whole (suc (length cs)) (suc (length fs)) n k e)
    (is_decimal (c ∷ cs) (f ∷ fs) xs (suc (length cs)) (take-append_seam (c ∷ cs) (46 ∷ (f ∷ fs))) (behind (c ∷ cs) (f ∷ fs) 46)
    (record { whole = (omega arith, (digit_below c h, all_digits cs all)); fraction = (digit_below f g, all_digits fs more); spelled = refl }))

-- what reading answers, as a token
abbrev pub read_token : Result ℤ DecimalFault → Token
read_token (Ok v) = t.Number v
read_token (Err e) = t.LargeNumber

pub judged_token : (d : Decimal) → read_token (judged d) ≡ decimal_token d
unfolding judged in_range
judged_token d = by_tests (nat_lt 18 (length d.fraction)) (nat_lt LIMIT (unsigned_abs (millionths d))) (millionths d)
  where
    by_tests : (a b : Bool) (v : ℤ) → read_token (cond a (Err TooManyDigits) (cond b (Err TooLarge) (Ok v))) ≡ cond (a || b) t.LargeNumber (t.Number v)
    by_tests true b v = refl
    by_tests false true v = refl
    by_tests false false v = refl

pub literal_token : (xs rest : List ℕ) (n k : ℕ) → Front xs rest (Number n k) → read_token (read xs) ≡ decimal_token (decimal_of n xs)
literal_token xs rest n k x = ap read_token (read-spelled (decimal_of n xs) xs (literal x n k refl)) ∙ judged_token (decimal_of n xs)

-- so it has a digit and is a decimal
pub judged_reads : (d : Decimal) (e : DecimalFault) → judged d ≡ Err e → (e ≡ TooManyDigits) ⊎ (e ≡ TooLarge)
unfolding judged in_range
judged_reads d e h = by_tests (nat_lt 18 (length d.fraction)) (nat_lt LIMIT (unsigned_abs (millionths d))) (millionths d) h
  where
    by_tests : (a b : Bool) (v : ℤ) → cond a (Err TooManyDigits) (cond b (Err TooLarge) (Ok v)) ≡ Err e → (e ≡ TooManyDigits) ⊎ (e ≡ TooLarge)
    by_tests true b v k = inl (cc)
    by_tests false true v k = inr (cc)
    by_tests false false v k = absurd (cc)

pub literal_fault : (xs rest : List ℕ) (n k : ℕ) (e : DecimalFault) → Front xs rest (Number n k) → read xs ≡ Err e → (e ≡ TooManyDigits) ⊎ (e ≡ TooLarge)
literal_fault xs rest n k e x h = judged_reads (decimal_of n xs) e (sym (read-spelled (decimal_of n xs) xs (literal x n k refl)) ∙ h)
