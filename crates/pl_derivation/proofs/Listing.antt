-- Lines that are read one after another.
use Rattle.std.proofs.Common.{◌≡◌, ℕ, suc, ◌+◌, ◌<◌, ◌≤◌, ◌==◌, true, false, nat_lt, List, [], ◌∷◌, ◌++◌, length, take, drop, position, Some, None, Result, Ok, Err, refl, sym, ◌∙◌, ap, arith, append_assoc, length-append, map}
use Rattle.std.proofs.lemmas.List.{map-append}
use Rattle.std.proofs.lemmas.Bool.Decides.{nat_tests}
use Rattle.std.proofs.Math.Numerals.{suc-eq-add-one}
use Rattle.pl_spec.specs.Limits.{most_lines}
use Rattle.pl_spec.proofs.Each.{each_both}
use Rattle.pl_derivation.specs.Lines.{Line}
use Rattle.pl_derivation.specs.Texts.{Broken, pieces, line_in, with_line, line_judged, lines_from, lines_in, IsWritable}
use Rattle.pl_derivation.specs.Texts.Broken.{BadLine, TooMany}
use Rattle.pl_derivation.specs.declared.line.Line as code
use Rattle.pl_derivation.specs.Listed.{line_of}
use Rattle.pl_derivation.specs.Reading.{lines_stated, IsRead}
use Rattle.pl_derivation.proofs.Cuts.{cut_some, cut_none}
use Rattle.pl_derivation.proofs.TextsSaid.{some_piece, line_said}

pub nothing_said : (bytes : List ℕ) → length bytes ≡ 0 → lines_in bytes ≡ Err (BadLine 1)
unfolding lines_in
nothing_said [] h = refl
nothing_said (x ∷ xs) h = absurd (omega arith)

none_stated : (r : Result (List Line) Broken) → r ≡ lines_stated [] r
none_stated (Ok ls) = refl
none_stated (Err e) = refl

pub begun : (bytes : List ℕ) → 0 < length bytes → lines_in bytes ≡ lines_stated [] (lines_from 1 (pieces 10 bytes))
unfolding lines_in
begun [] h = absurd (omega arith)
begun (x ∷ xs) h = none_stated (lines_from 1 (pieces 10 (x ∷ xs)))

from_more : (n : ℕ) (piece : List ℕ) (ps : List (List ℕ)) → 1 ≤ length ps → lines_from n (piece ∷ ps) ≡ line_judged n (line_in piece) (lines_from (suc n) ps)
from_more n piece [] h = absurd (omega arith)
from_more n piece (q ∷ qs) h = refl

line_stated : (ls : List Line) (l : Line) (r : Result (List Line) Broken) → lines_stated ls (with_line l r) ≡ lines_stated (ls ++ l ∷ []) r
line_stated ls l (Ok more) = ap Ok (sym (append_assoc ls (l ∷ []) more))
line_stated ls l (Err e) = refl

module _ (bytes : List ℕ) (ls : List Line) (n : ℕ) (left : List ℕ) (stated : lines_in bytes ≡ lines_stated ls (lines_from (suc n) (pieces 10 left))) where
  pub no_end : 0 < length left → position (λ b. b == 10) left ≡ None → lines_in bytes ≡ Err (BadLine (n + 1))
  no_end some e = stated ∙ ap (λ ps. lines_stated ls (lines_from (suc n) ps)) (cut_none 10 left e) ∙ here left some ∙ ap (λ k. Err (BadLine k)) (suc-eq-add-one n)
    where
      here : (xs : List ℕ) → 0 < length xs → lines_stated ls (lines_from (suc n) (xs ∷ [])) ≡ Err (BadLine (suc n))
      here [] some = absurd (omega arith)
      here (x ∷ xs) some = refl

  module _ (end : ℕ) (at : position (λ b. b == 10) left ≡ Some end) where
    abbrev rest : Result (List Line) Broken
    rest = lines_from (suc (suc n)) (pieces 10 (drop (end + 1) left))

    judged : lines_in bytes ≡ lines_stated ls (line_judged (suc n) (line_in (take end left)) rest)
    judged =
        stated ∙ ap (λ ps. lines_stated ls (lines_from (suc n) ps)) (cut_some 10 left end at)
        ∙ ap (lines_stated ls) (from_more (suc n) (take end left) (pieces 10 (drop (end + 1) left)) (some_piece 10 (drop (end + 1) left)))

    pub no_line : None ≡ line_in (take end left) → lines_in bytes ≡ Err (BadLine (n + 1))
    no_line e = judged ∙ ap (λ o. lines_stated ls (line_judged (suc n) o rest)) (sym e) ∙ ap (λ k. Err (BadLine k)) (suc-eq-add-one n)

    pub past_most : (l : Line) → Some l ≡ line_in (take end left) → n ≡ most_lines → lines_in bytes ≡ Err (TooMany (n + 1))
    past_most l e h =
        let many : nat_lt most_lines (suc n) ≡ true = grind (arith, nat_tests) in
        judged ∙ ap (λ o. lines_stated ls (line_judged (suc n) o rest)) (sym e) ∙ rw many (ap (λ k. Err (TooMany k)) (suc-eq-add-one n))

    pub one_more : (l : Line) → Some l ≡ line_in (take end left) → n < most_lines → lines_in bytes ≡ lines_stated (ls ++ l ∷ []) rest
    one_more l e h =
        let few : nat_lt most_lines (suc n) ≡ false = grind (arith, nat_tests) in
        judged ∙ ap (λ o. lines_stated ls (line_judged (suc n) o rest)) (sym e) ∙ rw few (line_stated ls l rest)

pub loop_begun : (bytes : List ℕ) (items : List code.Line) → items ≡ [] → 0 < length bytes → IsRead bytes items bytes
loop_begun bytes [] e some = record { stated = begun bytes some; few = omega arith; writable = tt }
loop_begun bytes (x ∷ xs) e some = absurd (let bad : x ∷ xs ≡ [] = e in cc)

-- one line more
pub loop_more : (bytes : List ℕ) (items : List code.Line) (left : List ℕ) (h : IsRead bytes items left) (end : ℕ) → position (λ b. b == 10) left ≡ Some end
    → (line : code.Line) → Some (line_of line) ≡ line_in (take end left) → (length items ≡ most_lines → ⊥) → IsRead bytes (items ++ line ∷ []) (drop (end + 1) left)
loop_more bytes items left h end at line e other =
    let few : length items ≤ most_lines = h.few in
    let long : length (items ++ line ∷ []) ≡ length items + 1 = length-append items (line ∷ []) in
    let count : length (items ++ line ∷ []) ≡ suc (length items) = omega arith in
    let lines : map line_of (items ++ line ∷ []) ≡ map line_of items ++ line_of line ∷ [] = map-append line_of items (line ∷ []) in
    record {
      stated = rw (lines, count) (one_more bytes (map line_of items) (length items) left h.stated end at (line_of line) e (omega (arith, other)));
      few = rw count (omega (arith, other));
      writable = rw lines (each_both IsWritable (map line_of items) (line_of line ∷ []) h.writable ((line_said (take end left) (line_of line) (sym e)).0, tt));
    }
