-- Texts that are cut at the first mark.
use Rattle.std.proofs.Common.{◌≡◌, ℕ, zero, suc, ◌+◌, ◌<◌, ◌==◌, Bool, true, false, List, [], ◌∷◌, length, take, drop, get_or, position, ℤ, ◌≤◌, Option, Some, None, option_map, if◌then◌else◌, bytes_eq, codes, refl, sym, ◌∙◌, ap, arith}
use Rattle.std.specs.Option.{option_and_then}
use Rattle.pl_spec.specs.declared.Column.{Column}
use Rattle.pl_spec.specs.Dates.{date_in}
use Rattle.pl_spec.specs.Decimals.{sid_in}
use Rattle.std.proofs.lemmas.List.Quantifiers.{position-Some}
use Rattle.pl_spec.proofs.Places.{nowhere}
use Rattle.pl_derivation.specs.Lines.Line.{SeenLine}
use Rattle.pl_derivation.specs.Texts.{pieces, column_in, known_in, numbers_in, seen_line, seen_value_line, value_line, line_in_fields}
use Rattle.pl_derivation.specs.Reading.{bar_line}
use Rattle.pl_derivation.proofs.TextsSaid.{some_piece}

front : (m : ℕ) (xs : List ℕ) (i : ℕ) → i < length xs → (get_or xs i 0 == m) ≡ true → ((k : ℕ) → k < i → (get_or xs k 0 == m) ≡ false)
    → pieces m xs ≡ take i xs ∷ pieces m (drop (i + 1) xs)
front m [] i l h f = absurd (omega arith)
front m (x ∷ xs) zero l h f = let here : (x == m) ≡ true = h in rw here refl
front m (x ∷ xs) (suc i) l h f =
    let other : (x == m) ≡ false = f 0 (omega arith) in
    let rest : pieces m xs ≡ take i xs ∷ pieces m (drop (i + 1) xs) = front m xs i (omega arith) h (λ k lt. f (suc k) (omega arith)) in
    let next : suc i + 1 ≡ suc (i + 1) = omega arith in
    rw (other, rest, next) refl

pub cut_some : (m : ℕ) (xs : List ℕ) (i : ℕ) → position (λ b. b == m) xs ≡ Some i → pieces m xs ≡ take i xs ∷ pieces m (drop (i + 1) xs)
cut_some m xs i e = let at = position-Some (λ b. b == m) xs i 0 e in front m xs i at.0 at.1 at.2

whole : (m : ℕ) (xs : List ℕ) → ((k : ℕ) → k < length xs → (get_or xs k 0 == m) ≡ false) → pieces m xs ≡ xs ∷ []
whole m [] f = refl
whole m (x ∷ xs) f =
    let other : (x == m) ≡ false = f 0 (omega arith) in
    let rest : pieces m xs ≡ xs ∷ [] = whole m xs (λ k lt. f (suc k) (omega arith)) in
    rw (other, rest) refl

pub cut_none : (m : ℕ) (xs : List ℕ) → position (λ b. b == m) xs ≡ None → pieces m xs ≡ xs ∷ []
cut_none m xs e = whole m xs (λ k lt. nowhere (λ b. b == m) xs e k 0 lt)

-- ---- fields

too_many : (day : List ℕ) (ps : List (List ℕ)) → 1 ≤ length ps → known_in (day ∷ ps) ≡ None
too_many day [] h = absurd (omega arith)
too_many day (p ∷ ps) h = refl

too_many_numbers : (t a own day v : List ℕ) (ps : List (List ℕ)) → 1 ≤ length ps → seen_value_line (t ∷ a ∷ own ∷ day ∷ v ∷ ps) ≡ None
too_many_numbers t a own day v [] h = absurd (omega arith)
too_many_numbers t a own day v (p ∷ ps) h = refl

pub number_more : (t a own day v r : List ℕ) → seen_value_line (t ∷ a ∷ own ∷ day ∷ v ∷ pieces 32 r) ≡ None
number_more t a own day v r = too_many_numbers t a own day v (pieces 32 r) (some_piece 32 r)

pub known_more : (day r : List ℕ) → known_in (day ∷ pieces 32 r) ≡ None
known_more day r = too_many day (pieces 32 r) (some_piece 32 r)

seen_by : (c a bar day : List ℕ) (ps : List (List ℕ)) → 1 ≤ length ps → seen_line (c ∷ a ∷ bar ∷ day ∷ ps) ≡ option_and_then (bar_line c a bar day) (numbers_in ps)
seen_by c a bar day [] h = absurd (omega arith)
seen_by c a bar day (x ∷ xs) h = here (column_in c) (sid_in a) (date_in bar) (date_in day) (numbers_in (x ∷ xs))
  where
    here : (o : Option Column) (p : Option ℕ) (q r : Option ℤ) (n : Option (List ℤ))
        → option_and_then (λ column. option_and_then (λ sid. option_and_then (λ bar_day. option_and_then (λ view_day. option_map (SeenLine column sid bar_day view_day) n) r) q) p) o
        ≡ option_and_then (λ cells. option_and_then (λ column. option_and_then (λ sid. option_and_then (λ bar_day. option_map (λ view_day. SeenLine column sid bar_day view_day cells) r) q) p) o) n
    here (Some c) (Some a) (Some b) (Some d) None = refl
    here o p q r None = refl
    here o p q r n = refl

pub seen_more : (c a bar day r : List ℕ) (cells : List ℤ) → Some cells ≡ numbers_in (pieces 32 r) → seen_line (c ∷ a ∷ bar ∷ day ∷ pieces 32 r) ≡ bar_line c a bar day cells
seen_more c a bar day r cells e = seen_by c a bar day (pieces 32 r) (some_piece 32 r) ∙ ap (option_and_then (bar_line c a bar day)) (sym e)

pub seen_none : (c a bar day r : List ℕ) → None ≡ numbers_in (pieces 32 r) → seen_line (c ∷ a ∷ bar ∷ day ∷ pieces 32 r) ≡ None
seen_none c a bar day r e = seen_by c a bar day (pieces 32 r) (some_piece 32 r) ∙ ap (option_and_then (bar_line c a bar day)) (sym e)

pub lone_word : (word : List ℕ) → line_in_fields (word ∷ []) ≡ None
lone_word word = here (bytes_eq word (codes "seen")) (bytes_eq word (codes "value")) (bytes_eq word (codes "seen-value"))
  where
    here : (b c d : Bool) → (if b then seen_line [] else if c then value_line [] else if d then seen_value_line [] else None) ≡ None
    here true c d = refl
    here false true d = refl
    here false false true = refl
    here false false false = refl
