-- A part of a list that is written, column by column.
use Rattle.std.proofs.Common.{◌≡◌, ℕ, ◌+◌, ◌-◌, ◌*◌, ◌<◌, ◌≤◌, ℤ, pos, List, ◌++◌, length, take, drop, get_or, subst, sym, ◌∙◌, ap, arith, inl, inr, length-drop}
use Rattle.std.proofs.lemmas.Bool.{cases_lt}
use Rattle.std.proofs.lemmas.List.{get_or_append_left, length-take}
use borrow.Rule.Slice.PartMut.{put_mid, post_of}
use Rattle.pl_spec.proofs.Lists.{get_or-front, get_or-behind}
use Rattle.pl_spec.proofs.Places.{row-within}

pub part_within : (i n rows : ℕ) → i < n → (i + 1) * rows ≤ rows * n
part_within i n rows h = grind arith

part_start : (i rows : ℕ) → i * rows + rows ≡ (i + 1) * rows
part_start i rows = grind arith

pub part_length : (xs : List ℤ) (i rows : ℕ) → (i + 1) * rows ≤ length xs → length (take ((i + 1) * rows - i * rows) (drop (i * rows) xs)) ≡ rows
part_length xs i rows h =
    let e : i * rows + rows ≡ (i + 1) * rows = part_start i rows in
    omega (arith, length-take ((i + 1) * rows - i * rows) (drop (i * rows) xs), length-drop (i * rows) xs)

-- what holds of the columns before, and of the part that is written, holds of the columns so far
pub part_written : (Q : ℕ → ℕ → ℤ → Type 0) (xs ys : List ℤ) (i rows n : ℕ) → (i + 1) * rows ≤ length xs → length ys ≡ rows
    → ((j k : ℕ) → j < i → k < rows → Q j k (get_or xs (j * rows + k) (pos 0)))
    → ((k : ℕ) → k < rows → Q i k (get_or ys k (pos 0)))
    → (j k : ℕ) → j < i + 1 → k < rows → Q j k (get_or (put_mid (i * rows) n xs ys) (j * rows + k) (pos 0))
part_written Q xs ys i rows n within long old new j k h l = elim (cases_lt j i) [
  | inl lt ↦
      let e : i * rows + rows ≡ (i + 1) * rows = part_start i rows in
      let inside : j * rows + k < i * rows = row-within j i rows k lt l in
      subst (Q j k) (sym (get_or-front xs (ys ++ post_of (i * rows) n xs) (i * rows) (j * rows + k) (pos 0) inside (omega arith))) (old j k lt l)
  | inr ge ↦
      let e : i * rows + rows ≡ (i + 1) * rows = part_start i rows in
      let same : i ≡ j = omega arith in
      let place : j * rows + k ≡ i * rows + k = ap (λ x. x * rows + k) (sym same) in
      let value : get_or (put_mid (i * rows) n xs ys) (j * rows + k) (pos 0) ≡ get_or ys k (pos 0) =
      get_or-behind xs (ys ++ post_of (i * rows) n xs) (i * rows) (j * rows + k) k (pos 0) place (omega arith) ∙ get_or_append_left ys (post_of (i * rows) n xs) (pos 0) k (omega arith) in
      subst (Q j k) (sym value) (subst (λ x. Q x k (get_or ys k (pos 0))) same (new k l))
]
