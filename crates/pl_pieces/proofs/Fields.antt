-- What numbers, days, cells and names are written as calls for no quotes, and is read back.
use Rattle.std.proofs.Common.{◌≡◌, ℕ, ◌+◌, ◌<◌, ◌≤◌, ◌^◌, ◌/◌, ◌%◌, ◌==◌, if◌then◌else◌, Bool, true, false, List, [], ◌∷◌, ◌++◌, length, get_or, Some, ℤ, pos, refl, arith, inl, inr}
use Rattle.std.specs.List.{list_any, list_all}
use Rattle.std.specs.Fmt.{decimal, sign_text}
use Rattle.std.specs.Int.RustNames.{int_lt, unsigned_abs}
use Rattle.std.specs.Char.{is_ascii_digit}
use Rattle.std.specs.Str.Parse.{AllDigits}
use Rattle.std.proofs.lemmas.Bool.{and_parts, or_parts}
use Rattle.std.proofs.lemmas.Bool.Decides.{nat_tests}
use Rattle.std.proofs.lemmas.Fmt.{decimal_is_IsNumeral}
use Rattle.csv.specs.Writing.{default_writer, needs_byte}
use Rattle.pl_spec.specs.Dates.{IsDay, date_in, date_spelling, date_text, digits}
use Rattle.pl_spec.specs.Decimals.{cell_text, units_text}
use Rattle.pl_spec.specs.Names.{is_name, is_word_byte, starts_word}
use Rattle.pl_spec.specs.Rounding.{IsCell, LIMIT, MILLION, is_missing}
use Rattle.pl_spec.proofs.DatesRead.{date_in-IsDate}
use Rattle.pl_spec.proofs.DatesWritten.{IsDate-date_text}
use Rattle.pl_fixed.proofs.DigitLemmas.{AllDigits-digits, test-AllDigits}
use Rattle.pl_pieces.proofs.Csv.{Plain}

-- ---- bytes

abbrev marked : ℕ → Bool
marked b = needs_byte default_writer b

pub plain-cons : (b : ℕ) (bs : List ℕ) → marked b ≡ false → Plain bs → Plain (b ∷ bs)
plain-cons b bs e h = rw e h

pub plain-append : (xs ys : List ℕ) → Plain xs → Plain ys → Plain (xs ++ ys)
plain-append [] ys h i = i
plain-append (x ∷ xs) ys h i = let parts = or_parts (marked x) (list_any marked xs) h in plain-cons x (xs ++ ys) parts.0 (plain-append xs ys parts.1 i)

digit-plain : (b : ℕ) → is_ascii_digit b ≡ true → marked b ≡ false
digit-plain b e = grind (arith, nat_tests)

digits-tested : (ds : List ℕ) → list_all is_ascii_digit ds ≡ true → Plain ds
digits-tested [] h = refl
digits-tested (d ∷ ds) h = let parts = and_parts (is_ascii_digit d) (list_all is_ascii_digit ds) h in plain-cons d ds (digit-plain d parts.0) (digits-tested ds parts.1)

digits-plain : (ds : List ℕ) → AllDigits 10 ds → Plain ds
digits-plain ds h = digits-tested ds (test-AllDigits ds h)

-- ---- numbers

pub sid-plain : (sid : ℕ) → sid < 2 ^ 64 → Plain (decimal sid)
sid-plain sid small = digits-plain (decimal sid) (decimal_is_IsNumeral sid small).0.1

-- ---- days

spelling-plain : (y m d : ℕ) → Plain (date_spelling y m d)
unfolding digits
spelling-plain y m d =
    let back : Plain (digits 2 m ++ 45 ∷ digits 2 d) = plain-append (digits 2 m) (45 ∷ digits 2 d) (digits-plain (digits 2 m) (AllDigits-digits 2 m)) (digits-plain (digits 2 d) (AllDigits-digits 2 d)) in
    plain-append (digits 4 y) (45 ∷ (digits 2 m ++ 45 ∷ digits 2 d)) (digits-plain (digits 4 y) (AllDigits-digits 4 y)) back

pub date-plain : (day : ℤ) → IsDay day → Plain (date_text day)
date-plain day h = let is = IsDate-date_text day h in rw is.spelled (spelling-plain is.year is.month is.date)

-- it begins with a digit, and is not empty
spelling-starts : (y m d : ℕ) (rest : List ℕ) → (get_or (date_spelling y m d ++ rest) 0 0 == 0xEF) ≡ false
unfolding digits
spelling-starts y m d rest = let small : 48 + y / 10 / 10 / 10 % 10 < 0xEF = omega arith in grind (arith, nat_tests)

pub date-starts : (day : ℤ) → IsDay day → (rest : List ℕ) → (get_or (date_text day ++ rest) 0 0 == 0xEF) ≡ false
date-starts day h rest = let is = IsDate-date_text day h in rw is.spelled (spelling-starts is.year is.month is.date rest)

spelling-some : (y m d : ℕ) → (length (date_spelling y m d) == 0) ≡ false
unfolding digits
spelling-some y m d = refl

pub date-some : (day : ℤ) → IsDay day → (length (date_text day) == 0) ≡ false
date-some day h = let is = IsDate-date_text day h in rw is.spelled (spelling-some is.year is.month is.date)

pub date-read : (day : ℤ) → IsDay day → date_in (date_text day) ≡ Some day
date-read day h = date_in-IsDate (date_text day) day (IsDate-date_text day h)

-- ---- cells

units-plain : (n : ℕ) → n ≤ LIMIT → Plain (units_text n)
units-plain n h =
    plain-append (decimal (n / MILLION)) (46 ∷ digits 6 (n % MILLION)) (sid-plain (n / MILLION) (omega arith)) (digits-plain _ (AllDigits-digits 6 (n % MILLION)))

sign-plain : (t : Bool) → Plain (sign_text t)
sign-plain true = refl
sign-plain false = refl

pub cell-plain : (v : ℤ) → IsCell v → Plain (cell_text v)
unfolding cell_text
cell-plain v (inl m) = rw m refl
cell-plain v (inr small) = either (is_missing v) [] (sign_text (int_lt v (pos 0)) ++ units_text (unsigned_abs v)) refl
    (plain-append (sign_text (int_lt v (pos 0))) (units_text (unsigned_abs v)) (sign-plain (int_lt v (pos 0))) (units-plain (unsigned_abs v) small))
  where
    either : (t : Bool) (x y : List ℕ) → Plain x → Plain y → Plain (if t then x else y)
    either true x y h i = h
    either false x y h i = i

-- ---- names

word-plain : (b : ℕ) → is_word_byte b ≡ true → marked b ≡ false
word-plain b e = grind (arith, nat_tests)

start-plain : (b : ℕ) → starts_word b ≡ true → marked b ≡ false
start-plain b e = grind (arith, nat_tests)

words-plain : (bs : List ℕ) → list_all is_word_byte bs ≡ true → Plain bs
words-plain [] h = refl
words-plain (b ∷ bs) h = let parts = and_parts (is_word_byte b) (list_all is_word_byte bs) h in plain-cons b bs (word-plain b parts.0) (words-plain bs parts.1)

pub name-plain : (name : List ℕ) → is_name name ≡ true → Plain name
name-plain [] h = refl
name-plain (c ∷ cs) h =
    let parts = and_parts _ _ (and_parts _ _ h).0 in
    plain-cons c cs (start-plain c parts.0) (words-plain cs (and_parts _ _ parts.1).0)
