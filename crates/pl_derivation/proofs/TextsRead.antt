-- What was written of lines is read back.
use Rattle.std.proofs.Common.{◌≡◌, ℕ, zero, suc, ◌+◌, ◌<◌, ◌≤◌, ◌^◌, ◌==◌, Bool, true, false, not, ◌&&◌, ℤ, pos, negsuc, List, [], ◌∷◌, ◌++◌, length, map, Option, Some, None, option_to_list, IfSome, Ok, refl, sym, ◌∙◌, ap, arith, nat_le, nat_lt, bytes_eq, append_assoc, append-nil, codes, inl, inr}
use Rattle.std.specs.List.{flat_map, list_all, join_by}
use Rattle.std.specs.Fmt.{decimal, signed_decimal, digits as decimal_digits}
use Rattle.std.specs.Int.Digits.{digits_of}
use Rattle.std.specs.Str.Parse.{digits_value, signed_digits_value, starts_with_minus, without_leading_plus}
use Rattle.std.specs.Int.RustNames.{unsigned_abs}
use Rattle.std.proofs.lemmas.Bool.{true≢false, not-true, and_parts, eq-eqb}
use Rattle.std.proofs.lemmas.Bool.Decides.{nat_tests, Decides-int_eq}
use Rattle.std.proofs.lemmas.Slice.Eq.{bytes_eq-Decides}
use Rattle.std.proofs.lemmas.Fmt.{decimal_digit, decimal-digits_of, decimal_is_IsNumeral}
use Rattle.pl_spec.specs.Limits.{most_lines}
use Rattle.pl_spec.specs.declared.Column.{Column}
use Rattle.pl_spec.specs.declared.Column.TheVariants.{OpenPrice, High, Low, Close, Volume}
use Rattle.pl_spec.specs.Rounding.{LIMIT, MISSING, is_missing, IsCell}
use Rattle.pl_spec.specs.Dates.{IsDay, date_spelling, date_text, date_in}
use Rattle.pl_spec.specs.Decimals.{sid_in}
use Rattle.pl_spec.proofs.DatesRead.{date_spelling-bytes, date_in-IsDate}
use Rattle.pl_spec.proofs.DatesWritten.{IsDate-date_text}
use Rattle.pl_spec.proofs.SidsRead.{sid_in-decimal}
use Rattle.pl_derivation.specs.Lines.{Line}
use Rattle.pl_derivation.specs.Lines.Line.{SeenLine, ValueLine, SeenValueLine}
use Rattle.pl_derivation.specs.Texts.{number_text, fields_of, body_of, text_of, pieces, column_in, number_of_text, numbers_in, known_in, line_in_fields, line_in, lines_from, lines_in, AreCells, IsWritable, AreWritable}
use Rattle.pl_spec.proofs.Each.{Each, each_both, each_in_map, each_all, each_more}
use Rattle.pl_spec.specs.Names.{column_name}

-- ---- pieces

abbrev Without : ℕ → List ℕ → Type 0
Without b xs = Each (λ x. (x == b) ≡ false) xs

pieces_front : (b : ℕ) (f rest : List ℕ) → Without b f → pieces b (f ++ b ∷ rest) ≡ f ∷ pieces b rest
pieces_front b [] rest h = rw (eq-eqb b b refl) refl
pieces_front b (x ∷ xs) rest h = let other : (x == b) ≡ false = h.0 in rw (other, pieces_front b xs rest h.1) refl

pieces_one : (b : ℕ) (f : List ℕ) → Without b f → pieces b f ≡ f ∷ []
pieces_one b [] h = refl
pieces_one b (x ∷ xs) h = let other : (x == b) ≡ false = h.0 in rw (other, pieces_one b xs h.1) refl

abbrev pub behind : List (List ℕ) → List ℕ
behind fs = flat_map (λ y. (32 ∷ []) ++ y) fs

pieces_joined : (f : List ℕ) (fs : List (List ℕ)) → Without 32 f → Each (Without 32) fs → pieces 32 (f ++ behind fs) ≡ f ∷ fs
pieces_joined f [] h hs = rw (append-nil f) (pieces_one 32 f h)
pieces_joined f (g ∷ gs) h hs = pieces_front 32 f (g ++ behind gs) h ∙ ap (λ l. f ∷ l) (pieces_joined g gs hs.0 hs.1)

-- ---- bytes of fields

-- neither a space nor a line feed
abbrev Plain : List ℕ → Type 0
Plain f = Each (λ x. ((x == 32) ≡ false) × ((x == 10) ≡ false)) f

digit_plain : (d : ℕ) → ((48 + d == 32) ≡ false) × ((48 + d == 10) ≡ false)
digit_plain d = (grind (arith, nat_tests), grind (arith, nat_tests))

decimal_plain : (n : ℕ) → n < 2 ^ 64 → Plain (decimal n)
decimal_plain zero h = rw (decimal_digit 0 (omega arith)) ((refl, refl), tt)
decimal_plain (suc n) h = rw (decimal-digits_of (suc n) (omega arith) h) (each_in_map _ _ _ (each_all _ _ digit_plain))

spelling_plain : (y m d : ℕ) → Plain (date_spelling y m d)
spelling_plain y m d =
    rw (date_spelling-bytes y m d)
    (digit_plain _, (digit_plain _, (digit_plain _, (digit_plain _, ((refl, refl), (digit_plain _, (digit_plain _, ((refl, refl), (digit_plain _, (digit_plain _, tt))))))))))

date_plain : (day : ℤ) → IsDay day → Plain (date_text day)
date_plain day h =
    let date = IsDate-date_text day h in
    let spelled : date_text day ≡ date_spelling date.year date.month date.date = date.spelled in
    rw spelled (spelling_plain date.year date.month date.date)

pub small : (x : ℤ) → IsCell x → is_missing x ≡ false → unsigned_abs x ≤ LIMIT
small x (inl e) h = let yes : is_missing x ≡ true = (Decides-int_eq x MISSING).1 e in absurd (true≢false (sym yes ∙ h))
small x (inr l) h = l

signed_plain : (x : ℤ) → unsigned_abs x ≤ LIMIT → Plain (signed_decimal x)
signed_plain (pos n) l = decimal_plain n (omega arith)
signed_plain (negsuc n) l = ((refl, refl), decimal_plain (suc n) (omega arith))

number_plain : (x : ℤ) → IsCell x → Plain (number_text x)
number_plain x h = here (is_missing x) refl
  where
    here : (b : Bool) → is_missing x ≡ b → Plain (number_text x)
    here true e = rw e ((refl, refl), tt)
    here false e = rw e (signed_plain x (small x h e))

plain_byte : ℕ → Bool
plain_byte x = not (x == 32) && not (x == 10)

-- texts that are written out
literal_plain : (f : List ℕ) → list_all plain_byte f ≡ true → Plain f
unfolding plain_byte
literal_plain [] h = tt
literal_plain (x ∷ xs) h =
    let both = and_parts (not (x == 32) && not (x == 10)) (list_all (λ y. not (y == 32) && not (y == 10)) xs) h in
    let parts = and_parts (not (x == 32)) (not (x == 10)) both.0 in
    ((not-true (x == 32) parts.0, not-true (x == 10) parts.1), literal_plain xs both.1)

column_plain : (c : Column) → Plain (column_name c)
unfolding plain_byte
column_plain OpenPrice = literal_plain (codes "open") refl
column_plain High = literal_plain (codes "high") refl
column_plain Low = literal_plain (codes "low") refl
column_plain Close = literal_plain (codes "close") refl
column_plain Volume = literal_plain (codes "volume") refl

numbers_plain : (xs : List ℤ) → AreCells xs → Each Plain (map number_text xs)
numbers_plain xs h = each_in_map Plain number_text xs (each_more IsCell _ xs number_plain h)

sid_plain : (n : ℕ) → n < 2 ^ 32 → Plain (decimal n)
sid_plain n h = decimal_plain n (omega arith)

known_plain : (known : Option ℤ) → IfSome known IsDay → Each Plain (map date_text (option_to_list known))
known_plain None h = tt
known_plain (Some day) h = (date_plain day h, tt)

fields_plain : (l : Line) → IsWritable l → Each Plain (fields_of l)
unfolding plain_byte
fields_plain (SeenLine c a bar day cells) h =
    (literal_plain (codes "seen") refl, (column_plain c, (sid_plain a h.0, (date_plain bar h.1, (date_plain day h.2, numbers_plain cells h.4)))))
fields_plain (ValueLine t a day v known) h =
    (literal_plain (codes "value") refl, (sid_plain t h.0, (sid_plain a h.1, (date_plain day h.2, (number_plain v h.3, known_plain known h.4)))))
fields_plain (SeenValueLine t a own day v) h =
    (literal_plain (codes "seen-value") refl, (sid_plain t h.0, (sid_plain a h.1, (date_plain own h.2, (date_plain day h.3, (number_plain v h.4, tt))))))

-- ---- fields are read back

abbrev as_digits : List ℕ → List ℕ
as_digits ds = map (λ d. 48 + d) ds

digits_in : (n : ℕ) → n < 2 ^ 64 → (ds : List ℕ) × (decimal n ≡ as_digits ds)
digits_in zero h = (0 ∷ [], decimal_digit 0 (omega arith))
digits_in (suc n) h = (digits_of 10 (suc n), decimal-digits_of (suc n) (omega arith) h)

starts_plain : (ds : List ℕ) → starts_with_minus (as_digits ds) ≡ false
starts_plain [] = refl
starts_plain (d ∷ ds) = let t : (48 + d == 45) ≡ false = grind (arith, nat_tests) in rw t refl

unsigned_digits : (ds : List ℕ) → without_leading_plus (as_digits ds) ≡ as_digits ds
unsigned_digits [] = refl
unsigned_digits (d ∷ ds) = let u : (48 + d == 43) ≡ false = grind (arith, nat_tests) in rw u refl

signed_value : (x : ℤ) → unsigned_abs x ≤ LIMIT → signed_digits_value 10 (signed_decimal x) ≡ x
signed_value (pos n) l =
    let long : n < 2 ^ 64 = omega arith in
    let ds : (ds : List ℕ) × (decimal n ≡ as_digits ds) = digits_in n long in
    let starts : starts_with_minus (decimal n) ≡ false = rw ds.1 (starts_plain ds.0) in
    let whole : without_leading_plus (decimal n) ≡ decimal n = rw ds.1 (unsigned_digits ds.0) in
    let number : digits_value 10 (decimal n) ≡ n = (decimal_is_IsNumeral n long).1 in
    rw (starts, whole, number) refl
signed_value (negsuc n) l =
    let long : suc n < 2 ^ 64 = omega arith in
    let number : digits_value 10 (decimal (suc n)) ≡ suc n = (decimal_is_IsNumeral (suc n) long).1 in
    rw number refl

missing_back : number_of_text (45 ∷ []) ≡ Some MISSING
unfolding number_of_text decimal_digits
missing_back = refl

signed_back : (x : ℤ) → unsigned_abs x ≤ LIMIT → number_of_text (signed_decimal x) ≡ Some x
unfolding number_of_text
signed_back x l =
    let within : nat_le (unsigned_abs x) LIMIT ≡ true = grind (arith, nat_tests) in
    let same : bytes_eq (signed_decimal x) (signed_decimal x) ≡ true = (bytes_eq-Decides (signed_decimal x) (signed_decimal x)).1 refl in
    rw (signed_value x l, within, same) refl

pub number_back : (x : ℤ) → IsCell x → number_of_text (number_text x) ≡ Some x
number_back x h = here (is_missing x) refl
  where
    here : (b : Bool) → is_missing x ≡ b → number_of_text (number_text x) ≡ Some x
    here true e = let missing : x ≡ MISSING = (Decides-int_eq x MISSING).0 e in rw e (missing_back ∙ ap Some (sym missing))
    here false e = rw e (signed_back x (small x h e))

numbers_back : (xs : List ℤ) → AreCells xs → numbers_in (map number_text xs) ≡ Some xs
numbers_back [] h = refl
numbers_back (x ∷ xs) h = rw (number_back x h.0, numbers_back xs h.1) refl

column_back : (c : Column) → column_in (column_name c) ≡ Some c
column_back OpenPrice = refl
column_back c = refl

date_back : (day : ℤ) → IsDay day → date_in (date_text day) ≡ Some day
date_back day h = date_in-IsDate (date_text day) day (IsDate-date_text day h)

sid_back : (n : ℕ) → n < 2 ^ 32 → sid_in (decimal n) ≡ Some n
sid_back n h = sid_in-decimal (decimal n) n h refl

known_back : (known : Option ℤ) → IfSome known IsDay → known_in (map date_text (option_to_list known)) ≡ Some known
known_back None h = refl
known_back (Some day) h = rw (date_back day h) refl

fields_back : (l : Line) → IsWritable l → line_in_fields (fields_of l) ≡ Some l
fields_back (SeenLine c a bar day []) h = absurd (let some : 1 ≤ 0 = h.3 in omega arith)
fields_back (SeenLine c a bar day (x ∷ xs)) h =
    rw (column_back c, sid_back a h.0, date_back bar h.1, date_back day h.2, number_back x h.4.0, numbers_back xs h.4.1) refl
fields_back (ValueLine t a day v known) h = rw (sid_back t h.0, sid_back a h.1, date_back day h.2, number_back v h.3, known_back known h.4) refl
fields_back (SeenValueLine t a own day v) h = rw (sid_back t h.0, sid_back a h.1, date_back own h.2, date_back day h.3, number_back v h.4) refl

-- ---- lines are read back

body_cut : (fs : List (List ℕ)) → 1 ≤ length fs → Each Plain fs → pieces 32 (join_by (λ f. f) (32 ∷ []) fs) ≡ fs
body_cut [] some h = absurd (omega arith)
body_cut (f ∷ fs) some h = pieces_joined f fs (each_more _ _ f (λ x i. i.0) h.0) (each_more _ _ fs (λ g i. each_more _ _ g (λ x j. j.0) i) h.1)

some_fields : (l : Line) → 1 ≤ length (fields_of l)
some_fields (SeenLine c a bar day cells) = omega arith
some_fields (ValueLine t a day v known) = omega arith
some_fields (SeenValueLine t a own day v) = omega arith

pub line_back : (l : Line) → IsWritable l → line_in (body_of l) ≡ Some l
unfolding line_in
line_back l h = rw (body_cut (fields_of l) (some_fields l) (fields_plain l h)) (fields_back l h)

behind_plain : (fs : List (List ℕ)) → Each Plain fs → Without 10 (behind fs)
behind_plain [] h = tt
behind_plain (f ∷ fs) h = each_both _ ((32 ∷ []) ++ f) (behind fs) (refl, each_more _ _ f (λ x i. i.1) h.0) (behind_plain fs h.1)

joined_plain : (fs : List (List ℕ)) → Each Plain fs → Without 10 (join_by (λ f. f) (32 ∷ []) fs)
joined_plain [] h = tt
joined_plain (f ∷ fs) h = each_both _ f (behind fs) (each_more _ _ f (λ x i. i.1) h.0) (behind_plain fs h.1)

lines_cut : (lines : List Line) → AreWritable lines → pieces 10 (text_of lines) ≡ map body_of lines ++ [] ∷ []
unfolding text_of
lines_cut [] h = refl
lines_cut (l ∷ ls) h =
    let body = body_of l in
    rw (append_assoc (body_of l) (10 ∷ []) (flat_map (λ l. body_of l ++ 10 ∷ []) ls))
    (pieces_front 10 (body_of l) (flat_map (λ l. body_of l ++ 10 ∷ []) ls) (joined_plain (fields_of l) (fields_plain l h.0)) ∙ ap (λ ps. body_of l ∷ ps) (lines_cut ls h.1))

from_back : (n : ℕ) (ls : List Line) → AreWritable ls → n + length ls ≤ suc most_lines → lines_from n (map body_of ls ++ [] ∷ []) ≡ Ok ls
from_back n [] h few = refl
from_back n (l ∷ []) h few =
    let within : nat_lt most_lines n ≡ false = grind (arith, nat_tests) in
    rw (line_back l h.0, within) refl
from_back n (l ∷ m ∷ ls) h few =
    let within : nat_lt most_lines n ≡ false = grind (arith, nat_tests) in
    let rest : lines_from (suc n) (map body_of (m ∷ ls) ++ [] ∷ []) ≡ Ok (m ∷ ls) = from_back (suc n) (m ∷ ls) h.1 (omega arith) in
    rw (line_back l h.0, within, rest) refl

text_there : (l : Line) (ls : List Line) → bytes_eq (text_of (l ∷ ls)) [] ≡ false
unfolding text_of
text_there (SeenLine c a bar day cells) ls = refl
text_there (ValueLine t a day v known) ls = refl
text_there (SeenValueLine t a own day v) ls = refl

pub read : (lines : List Line) → AreWritable lines → 1 ≤ length lines → length lines ≤ most_lines → lines_in (text_of lines) ≡ Ok lines
unfolding lines_in
read [] ok some few = absurd (omega arith)
read (l ∷ ls) ok some few =
    let there : bytes_eq (text_of (l ∷ ls)) [] ≡ false = text_there l ls in
    rw (there, lines_cut (l ∷ ls) ok) (from_back 1 (l ∷ ls) ok (omega arith))
