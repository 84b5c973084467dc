-- The end of two lists, one after the other.
use Rattle.std.proofs.Common.{◌≡◌, ℕ, ◌+◌, ◌-◌, ◌≤◌, ◌++◌, ℤ, List, [], length, take, drop, append-nil, refl, sym, ◌∙◌, ap, arith, inl, inr}
use Rattle.std.proofs.lemmas.Bool.{cases_lt}
use borrow.Rule.Slice.PartMut.{post_of}
use Rattle.std.proofs.lemmas.List.{length-append, length-drop, take_at, drop-drop, drop_at, drop-append-le, drop_all}
use Rattle.std.proofs.Math.Seq.{take-append-add}
use Rattle.circular_buffer.specs.Buffer.{keep_last}
use Rattle.pl_daily.specs.Rows.{ending}

-- so many cells of the first and so many of the second are at the end of both
pub last_of_both : (xs ys : List ℤ) (size ahead : ℕ) → size ≤ length xs + length ys → ahead ≡ size - length ys
    → keep_last size (xs ++ ys) ≡ drop (length xs - ahead) xs ++ drop (length ys - (size - ahead)) ys
last_of_both xs ys size ahead few is = elim (cases_lt (length ys) size) [
  | inl more ↦
      (let front : length (xs ++ ys) - size ≡ length xs - ahead = omega (arith, length-append xs ys, few, is, more) in
      let behind : length ys - (size - ahead) ≡ 0 = omega (arith, few, is, more) in
      rw (front, behind) (drop-append-le (length xs - ahead) xs ys (omega arith)))
  | inr less ↦
      (let skipped : length (xs ++ ys) - size ≡ length xs + (length ys - (size - ahead)) = omega (arith, length-append xs ys, is, less) in
      let none : length xs - ahead ≡ length xs = omega (arith, is, less) in
      ap (λ n. drop n (xs ++ ys)) skipped
      ∙ sym (drop-drop (length ys - (size - ahead)) (length xs) (xs ++ ys))
      ∙ ap (drop (length ys - (size - ahead))) (drop_at xs ys (length xs) refl)
      ∙ ap (λ l. l ++ drop (length ys - (size - ahead)) ys) (sym (drop_all (length xs - ahead) xs (omega (arith, none)))))
]

nothing_behind : (at count : ℕ) (xs : List ℤ) → length xs ≤ at + count → post_of at count xs ≡ []
nothing_behind at count xs all = drop_all count (drop at xs) (omega (arith, length-drop at xs, all))

-- a list whose first and last cells were written
written : (ahead : ℕ) (window first second : List ℤ) → length first ≡ ahead → ahead ≤ length window
    → take ahead (first ++ drop ahead window) ++ (second ++ post_of ahead (length (first ++ drop ahead window) - ahead) (first ++ drop ahead window)) ≡ first ++ second
written ahead window first second long inside =
    ap (λ l. l ++ (second ++ post_of ahead (length (first ++ drop ahead window) - ahead) (first ++ drop ahead window))) (take_at first (drop ahead window) ahead long)
    ∙ ap (λ l. first ++ (second ++ l)) (nothing_behind ahead (length (first ++ drop ahead window) - ahead) (first ++ drop ahead window) (omega arith))
    ∙ ap (λ l. first ++ l) (append-nil second)

-- what a window holds when the ends of two lists were copied into it
pub copied : (front back window first second : List ℤ) (ahead : ℕ) → length window ≤ length front + length back → ahead ≡ length window - length back
    → first ≡ drop (length front - ahead) front → second ≡ drop (length back - (length window - ahead)) back
    → take ahead (first ++ drop ahead window) ++ (second ++ post_of ahead (length (first ++ drop ahead window) - ahead) (first ++ drop ahead window)) ≡ keep_last (length window) (front ++ back)
copied front back window first second ahead few is one two =
    let long : length first ≡ ahead = ap length one ∙ length-drop (length front - ahead) front ∙ omega (arith, few, is) in
    written ahead window first second long (omega (arith, is))
    ∙ ap (λ l. l ++ second) one
    ∙ ap (λ l. drop (length front - ahead) front ++ l) two
    ∙ sym (last_of_both front back (length window) ahead few is)

-- the ends of both without the last cells of the second
pub ending_behind : (xs ys : List ℤ) (size after : ℕ) → after ≤ length ys → keep_last size (xs ++ take (length ys - after) ys) ≡ ending size after (xs ++ ys)
ending_behind xs ys size after few =
    let all : length (xs ++ ys) - after ≡ length xs + (length ys - after) = omega (arith, length-append xs ys, few) in
    sym (ap (λ n. keep_last size (take n (xs ++ ys))) all ∙ ap (keep_last size) (take-append-add xs ys (length ys - after)))
