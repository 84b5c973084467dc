-- What is read as a line is the text of that line, and of no other.
use Rattle.std.proofs.Common.{◌≡◌, ℕ, suc, ◌≤◌, ◌==◌, Bool, true, false, ◌&&◌, if◌then◌else◌, ℤ, List, [], ◌∷◌, length, map, Option, Some, None, option_map, option_to_list, IfSome, refl, sym, ◌∙◌, ap, arith, nat_le, bytes_eq, codes, inl, inr}
use Rattle.std.specs.List.{join_by}
use Rattle.std.specs.Option.{option_and_then}
use Rattle.std.specs.Fmt.{decimal, signed_decimal}
use Rattle.std.specs.Str.Parse.{signed_digits_value}
use Rattle.std.specs.Int.RustNames.{unsigned_abs}
use Rattle.std.proofs.lemmas.Bool.{and_parts, eqb-true}
use Rattle.std.proofs.lemmas.Bool.Decides.{nat_tests}
use Rattle.std.proofs.lemmas.Slice.Eq.{bytes_eq-Decides}
use Rattle.pl_spec.specs.declared.Column.{Column}
use Rattle.pl_spec.specs.declared.Column.TheVariants.{OpenPrice, High, Low, Close, Volume}
use Rattle.pl_spec.specs.Rounding.{LIMIT, MISSING, is_missing, IsCell}
use Rattle.pl_spec.specs.Dates.{IsDay, date_text, date_in}
use Rattle.pl_spec.specs.Decimals.{sid_in}
use Rattle.pl_spec.proofs.DatesRead.{IsDate-date_in}
use Rattle.pl_spec.proofs.DatesWritten.{date_text-IsDate, IsDay-IsDate}
use Rattle.pl_spec.proofs.SidsRead.{decimal-sid_in}
use Rattle.pl_spec.proofs.Within.{missing-far}
use Rattle.pl_spec.specs.Names.{column_name}
use Rattle.pl_derivation.specs.Lines.{Line}
use Rattle.pl_derivation.specs.Lines.Line.{SeenLine, ValueLine, SeenValueLine}
use Rattle.pl_derivation.specs.Texts.{number_text, fields_of, body_of, in_first, pieces, column_in, number_of_text, numbers_in, known_in, seen_line, seen_value_line, value_line, line_in_fields, line_in, AreCells, IsWritable}

-- ---- pieces put together again

pub some_piece : (b : ℕ) (xs : List ℕ) → 1 ≤ length (pieces b xs)
some_piece b [] = omega arith
some_piece b (x ∷ xs) = step (x == b) (pieces b xs)
  where
    step : (t : Bool) (ps : List (List ℕ)) → 1 ≤ length (if t then [] ∷ ps else in_first x ps)
    step true ps = omega arith
    step false [] = omega arith
    step false (p ∷ ps) = omega arith

together : (b : ℕ) (xs : List ℕ) → join_by (λ f. f) (b ∷ []) (pieces b xs) ≡ xs
together b [] = refl
together b (x ∷ xs) = step (x == b) refl (pieces b xs) (some_piece b xs) (together b xs)
  where
    step : (t : Bool) → (x == b) ≡ t → (ps : List (List ℕ)) → 1 ≤ length ps → join_by (λ f. f) (b ∷ []) ps ≡ xs
        → join_by (λ f. f) (b ∷ []) (if t then [] ∷ ps else in_first x ps) ≡ x ∷ xs
    step t e [] some h = absurd (omega arith)
    step true e (p ∷ ps) some h = let same : x ≡ b = eqb-true x b e in rw same (ap (λ l. b ∷ l) h)
    step false e (p ∷ ps) some h = ap (λ l. x ∷ l) h

-- ---- fields

pub then_some : {X Y : Type 0} (f : X → Option Y) (o : Option X) (y : Y) → option_and_then f o ≡ Some y → (x : X) × (o ≡ Some x) × (f x ≡ Some y)
then_some f None y h = absurd (let bad : None ≡ Some y = h in cc)
then_some f (Some x) y h = (x, refl, h)

pub map_some : {X Y : Type 0} (f : X → Y) (o : Option X) (y : Y) → option_map f o ≡ Some y → (x : X) × (o ≡ Some x) × (y ≡ f x)
map_some f None y h = absurd (let bad : None ≡ Some y = h in cc)
map_some f (Some x) y h = let same : Some (f x) ≡ Some y = h in (x, refl, cc)

same_text : (s t : List ℕ) → bytes_eq s t ≡ true → s ≡ t
same_text s t h = (bytes_eq-Decides s t).0 h

column_said : (text : List ℕ) (c : Column) → column_in text ≡ Some c → text ≡ column_name c
column_said text c h = one OpenPrice _ (one High _ (one Low _ (one Close _ (one Volume None (λ e. absurd (let bad : None ≡ Some c = e in cc)))))) h
  where
    one : (k : Column) (rest : Option Column) → (rest ≡ Some c → text ≡ column_name c) → (if bytes_eq text (column_name k) then Some k else rest) ≡ Some c → text ≡ column_name c
    one k rest other h = here (bytes_eq text (column_name k)) refl h
      where
        here : (b : Bool) → bytes_eq text (column_name k) ≡ b → (if b then Some k else rest) ≡ Some c → text ≡ column_name c
        here true e h = let same : Some k ≡ Some c = h in let is : k ≡ c = cc in same_text text (column_name k) e ∙ ap column_name is
        here false e h = other h

date_said : (text : List ℕ) (day : ℤ) → date_in text ≡ Some day → (text ≡ date_text day) × IsDay day
date_said text day h = let date = IsDate-date_in text day h in (date_text-IsDate text day date, IsDay-IsDate text day date)

pub number_said : (text : List ℕ) (x : ℤ) → number_of_text text ≡ Some x → (text ≡ number_text x) × IsCell x
unfolding number_of_text
number_said text x h = first (nat_le (unsigned_abs (signed_digits_value 10 text)) LIMIT && bytes_eq text (signed_decimal (signed_digits_value 10 text))) refl h
  where
    second : (b : Bool) → bytes_eq text (45 ∷ []) ≡ b → (if b then Some MISSING else None) ≡ Some x → (text ≡ number_text x) × IsCell x
    second true e h =
        let same : Some MISSING ≡ Some x = h in let is : MISSING ≡ x = cc in
        (same_text text (45 ∷ []) e ∙ ap number_text is, inl (sym is))
    second false e h = absurd (let bad : None ≡ Some x = h in cc)

    first : (b : Bool) → (nat_le (unsigned_abs (signed_digits_value 10 text)) LIMIT && bytes_eq text (signed_decimal (signed_digits_value 10 text))) ≡ b
        → (if b then Some (signed_digits_value 10 text) else if bytes_eq text (45 ∷ []) then Some MISSING else None) ≡ Some x → (text ≡ number_text x) × IsCell x
    first true e h =
        let same : Some (signed_digits_value 10 text) ≡ Some x = h in let is : signed_digits_value 10 text ≡ x = cc in
        let parts = and_parts (nat_le (unsigned_abs (signed_digits_value 10 text)) LIMIT) (bytes_eq text (signed_decimal (signed_digits_value 10 text))) e in
        let le : nat_le (unsigned_abs x) LIMIT ≡ true = rw is at parts.0 in
        let small : unsigned_abs x ≤ LIMIT = grind (arith, nat_tests) in
        let spelled : text ≡ signed_decimal x = rw is at (same_text text _ parts.1) in
        let present : is_missing x ≡ false = missing-far x small in
        (spelled ∙ rw present refl, inr small)
    first false e h = second (bytes_eq text (45 ∷ [])) refl h

numbers_said : (fs : List (List ℕ)) (xs : List ℤ) → numbers_in fs ≡ Some xs → (fs ≡ map number_text xs) × AreCells xs × (length xs ≡ length fs)
numbers_said [] xs h = let same : Some [] ≡ Some xs = h in let is : [] ≡ xs = cc in rw (sym is) (refl, tt, refl)
numbers_said (f ∷ fs) xs h =
    let head = then_some _ (number_of_text f) xs h in
    let tail = map_some (λ ys. head.0 ∷ ys) (numbers_in fs) xs head.2 in
    let one = number_said f head.0 head.1 in
    let rest = numbers_said fs tail.0 tail.1 in
    let is : xs ≡ head.0 ∷ tail.0 = tail.2 in
    let front : f ≡ number_text head.0 = one.0 in
    let back : fs ≡ map number_text tail.0 = rest.0 in
    rw is (ap (λ g. g ∷ fs) front ∙ ap (λ gs. number_text head.0 ∷ gs) back, (one.1, rest.1), ap suc rest.2)

-- ---- lines

seen_said : (fs : List (List ℕ)) (l : Line) → seen_line fs ≡ Some l → IsWritable l × (codes "seen" ∷ fs ≡ fields_of l)
seen_said (c ∷ a ∷ bar ∷ day ∷ x ∷ xs) l h =
    let column = then_some _ (column_in c) l h in
    let sid = then_some _ (sid_in a) l column.2 in
    let first = then_some _ (date_in bar) l sid.2 in
    let last = then_some _ (date_in day) l first.2 in
    let cells = map_some _ (numbers_in (x ∷ xs)) l last.2 in
    let is : l ≡ SeenLine column.0 sid.0 first.0 last.0 cells.0 = cells.2 in
    let number = decimal-sid_in a sid.0 sid.1 in
    let early = date_said bar first.0 first.1 in
    let late = date_said day last.0 last.1 in
    let all = numbers_said (x ∷ xs) cells.0 cells.1 in
    let long : length cells.0 ≡ suc (length xs) = all.2 in
    let some : 1 ≤ length cells.0 = omega arith in
    let named : c ≡ column_name column.0 = column_said c column.0 column.1 in
    let written : a ≡ decimal sid.0 = number.1 in
    let spelled : bar ≡ date_text first.0 = early.0 in
    let spelled_too : day ≡ date_text last.0 = late.0 in
    let rest : x ∷ xs ≡ map number_text cells.0 = all.0 in
    rw is (
      (number.0, early.1, late.1, some, all.1),
      ap (λ f. codes "seen" ∷ f ∷ a ∷ bar ∷ day ∷ x ∷ xs) named
          ∙ ap (λ f. codes "seen" ∷ column_name column.0 ∷ f ∷ bar ∷ day ∷ x ∷ xs) written
          ∙ ap (λ f. codes "seen" ∷ column_name column.0 ∷ decimal sid.0 ∷ f ∷ day ∷ x ∷ xs) spelled
          ∙ ap (λ f. codes "seen" ∷ column_name column.0 ∷ decimal sid.0 ∷ date_text first.0 ∷ f ∷ x ∷ xs) spelled_too
          ∙ ap (λ f. codes "seen" ∷ column_name column.0 ∷ decimal sid.0 ∷ date_text first.0 ∷ date_text last.0 ∷ f) rest,
    )
seen_said fs l h = absurd (let bad : None ≡ Some l = h in cc)

known_said : (fs : List (List ℕ)) (known : Option ℤ) → known_in fs ≡ Some known → (fs ≡ map date_text (option_to_list known)) × IfSome known IsDay
known_said [] known h = let same : Some None ≡ Some known = h in let is : None ≡ known = cc in rw (sym is) (refl, tt)
known_said (day ∷ []) known h =
    let at = map_some (λ d. Some d) (date_in day) known h in
    let is : known ≡ Some at.0 = at.2 in
    let said = date_said day at.0 at.1 in
    let spelled : day ≡ date_text at.0 = said.0 in
    rw is (ap (λ f. f ∷ []) spelled, said.1)
known_said (day ∷ f ∷ fs) known h = absurd (let bad : None ≡ Some known = h in cc)

value_said : (fs : List (List ℕ)) (l : Line) → value_line fs ≡ Some l → IsWritable l × (codes "value" ∷ fs ≡ fields_of l)
value_said (t ∷ a ∷ day ∷ v ∷ more) l h =
    let term = then_some _ (sid_in t) l h in
    let sid = then_some _ (sid_in a) l term.2 in
    let on = then_some _ (date_in day) l sid.2 in
    let value = then_some _ (number_of_text v) l on.2 in
    let known = map_some _ (known_in more) l value.2 in
    let is : l ≡ ValueLine term.0 sid.0 on.0 value.0 known.0 = known.2 in
    let first = decimal-sid_in t term.0 term.1 in
    let second = decimal-sid_in a sid.0 sid.1 in
    let third = date_said day on.0 on.1 in
    let fourth = number_said v value.0 value.1 in
    let fifth = known_said more known.0 known.1 in
    let e : t ≡ decimal term.0 = first.1 in
    let f : a ≡ decimal sid.0 = second.1 in
    let g : day ≡ date_text on.0 = third.0 in
    let i : v ≡ number_text value.0 = fourth.0 in
    let j : more ≡ map date_text (option_to_list known.0) = fifth.0 in
    rw is (
      (first.0, second.0, third.1, fourth.1, fifth.1),
      ap (λ x. codes "value" ∷ x ∷ a ∷ day ∷ v ∷ more) e
          ∙ ap (λ x. codes "value" ∷ decimal term.0 ∷ x ∷ day ∷ v ∷ more) f
          ∙ ap (λ x. codes "value" ∷ decimal term.0 ∷ decimal sid.0 ∷ x ∷ v ∷ more) g
          ∙ ap (λ x. codes "value" ∷ decimal term.0 ∷ decimal sid.0 ∷ date_text on.0 ∷ x ∷ more) i
          ∙ ap (λ x. codes "value" ∷ decimal term.0 ∷ decimal sid.0 ∷ date_text on.0 ∷ number_text value.0 ∷ x) j,
    )
value_said fs l h = absurd (let bad : None ≡ Some l = h in cc)

seen_value_said : (fs : List (List ℕ)) (l : Line) → seen_value_line fs ≡ Some l → IsWritable l × (codes "seen-value" ∷ fs ≡ fields_of l)
seen_value_said (t ∷ a ∷ own ∷ day ∷ v ∷ []) l h =
    let term = then_some _ (sid_in t) l h in
    let sid = then_some _ (sid_in a) l term.2 in
    let first = then_some _ (date_in own) l sid.2 in
    let last = then_some _ (date_in day) l first.2 in
    let value = map_some _ (number_of_text v) l last.2 in
    let is : l ≡ SeenValueLine term.0 sid.0 first.0 last.0 value.0 = value.2 in
    let one = decimal-sid_in t term.0 term.1 in
    let two = decimal-sid_in a sid.0 sid.1 in
    let three = date_said own first.0 first.1 in
    let four = date_said day last.0 last.1 in
    let five = number_said v value.0 value.1 in
    let e : t ≡ decimal term.0 = one.1 in
    let f : a ≡ decimal sid.0 = two.1 in
    let g : own ≡ date_text first.0 = three.0 in
    let i : day ≡ date_text last.0 = four.0 in
    let j : v ≡ number_text value.0 = five.0 in
    rw is (
      (one.0, two.0, three.1, four.1, five.1),
      ap (λ x. codes "seen-value" ∷ x ∷ a ∷ own ∷ day ∷ v ∷ []) e
          ∙ ap (λ x. codes "seen-value" ∷ decimal term.0 ∷ x ∷ own ∷ day ∷ v ∷ []) f
          ∙ ap (λ x. codes "seen-value" ∷ decimal term.0 ∷ decimal sid.0 ∷ x ∷ day ∷ v ∷ []) g
          ∙ ap (λ x. codes "seen-value" ∷ decimal term.0 ∷ decimal sid.0 ∷ date_text first.0 ∷ x ∷ v ∷ []) i
          ∙ ap (λ x. codes "seen-value" ∷ decimal term.0 ∷ decimal sid.0 ∷ date_text first.0 ∷ date_text last.0 ∷ x ∷ []) j,
    )
seen_value_said fs l h = absurd (let bad : None ≡ Some l = h in cc)

fields_said : (fs : List (List ℕ)) (l : Line) → line_in_fields fs ≡ Some l → IsWritable l × (fs ≡ fields_of l)
fields_said [] l h = absurd (let bad : None ≡ Some l = h in cc)
fields_said (word ∷ fs) l h = first (bytes_eq word (codes "seen")) refl h
  where
    third : (b : Bool) → bytes_eq word (codes "seen-value") ≡ b → (if b then seen_value_line fs else None) ≡ Some l → IsWritable l × (word ∷ fs ≡ fields_of l)
    third true e h = let said = seen_value_said fs l h in (said.0, ap (λ x. x ∷ fs) (same_text word (codes "seen-value") e) ∙ said.1)
    third false e h = absurd (let bad : None ≡ Some l = h in cc)

    second : (b : Bool) → bytes_eq word (codes "value") ≡ b → (if b then value_line fs else if bytes_eq word (codes "seen-value") then seen_value_line fs else None) ≡ Some l
        → IsWritable l × (word ∷ fs ≡ fields_of l)
    second true e h = let said = value_said fs l h in (said.0, ap (λ x. x ∷ fs) (same_text word (codes "value") e) ∙ said.1)
    second false e h = third (bytes_eq word (codes "seen-value")) refl h

    first : (b : Bool) → bytes_eq word (codes "seen") ≡ b
        → (if b then seen_line fs else if bytes_eq word (codes "value") then value_line fs else if bytes_eq word (codes "seen-value") then seen_value_line fs else None) ≡ Some l
        → IsWritable l × (word ∷ fs ≡ fields_of l)
    first true e h = let said = seen_said fs l h in (said.0, ap (λ x. x ∷ fs) (same_text word (codes "seen") e) ∙ said.1)
    first false e h = second (bytes_eq word (codes "value")) refl h

pub line_said : (text : List ℕ) (l : Line) → line_in text ≡ Some l → IsWritable l × (text ≡ body_of l)
unfolding line_in
line_said text l h =
    let said = fields_said (pieces 32 text) l h in
    (said.0, sym (together 32 text) ∙ ap (join_by (λ f. f) (32 ∷ [])) said.1)
