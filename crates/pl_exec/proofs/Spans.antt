-- Parts of an array, and one session of it written.
use Rattle.std.proofs.Common.{◌≡◌, ℕ, zero, suc, ◌+◌, ◌-◌, ◌*◌, ◌<◌, ◌≤◌, ℤ, pos, List, length, map, take, drop, get_or, set, sym, ◌∙◌, ap, subst, arith, inl, inr, get_or-set_same, get_or-set_other, length-set}
use Rattle.std.proofs.lemmas.Bool.{cases_eq}
use Rattle.std.proofs.lemmas.List.{ext_get_or, get_or-take, get_or-drop, length-map, length-take-le, length-drop}
use Rattle.std.proofs.lemmas.Nat.{same_from_place}
use Rattle.pl_spec.specs.Rounding.{IsCell}
use Rattle.pl_spec.specs.Window.{downward}
use Rattle.pl_spec.proofs.Windows.{length-downward}
use Rattle.pl_spec.proofs.Places.{row-within}
use Rattle.pl_values.specs.Arrays.{Holds, Fills, IsRow, window_up_to}
use Rattle.pl_exec.specs.ChunkInputs.{IsWritten}

pub at_downward : {X : Type 0} (f : ℕ → X) (size j : ℕ) (d : X) → j < size → get_or (map f (downward size)) j d ≡ f (size - 1 - j)
at_downward f zero j d h = absurd (omega arith)
at_downward f (suc size) zero d h = let e : size ≡ suc size - 1 - 0 = omega arith in ap f e
at_downward f (suc size) (suc j) d h = let e : size - 1 - j ≡ suc size - 1 - suc j = omega arith in at_downward f size j d (omega arith) ∙ ap f e

-- ---- a window of an array

module _ (cell : ℕ → ℕ → ℤ) (assets low count : ℕ) (cells : List ℤ) (holds : Holds cell assets low count cells) (i session size : ℕ)
    (asset : i < assets) (some : 1 ≤ size) (early : low + size ≤ session + 1) (late : session < low + count) where
  abbrev end : ℕ
  end = i * count + (session - low) + 1

  pub end_within : end ≤ length cells
  end_within = let p = row-within i assets count (session - low) asset (omega arith) in let r = holds.room in omega arith

  pub size_within : size ≤ end
  size_within = omega arith

  part_long : length (take size (drop (end - size) cells)) ≡ size
  part_long = let r = end_within in let d : length (drop (end - size) cells) ≡ length cells - (end - size) = length-drop (end - size) cells in
      length-take-le size (drop (end - size) cells) (omega arith)

  part_at : (j : ℕ) → j < size → get_or (take size (drop (end - size) cells)) j (pos 0) ≡ cell i (session - (size - 1 - j))
  part_at j h =
      let at : (end - size) + j ≡ i * count + ((session - low) - (size - 1 - j)) = omega arith in
      let s : low + ((session - low) - (size - 1 - j)) ≡ session - (size - 1 - j) = omega arith in
      get_or-take size (drop (end - size) cells) j (pos 0) h
      ∙ get_or-drop (end - size) cells j (pos 0)
      ∙ ap (λ m. get_or cells m (pos 0)) at
      ∙ holds.each i ((session - low) - (size - 1 - j)) asset (omega arith)
      ∙ ap (cell i) s

  pub window_is : take size (drop (end - size) cells) ≡ window_up_to (cell i) size session
  window_is = ext_get_or (pos 0) _ _ (part_long ∙ sym (length-map (downward size) (λ n. cell i (session - n)) ∙ length-downward size))
      (λ j h. let l : j < size = omega (arith, part_long) in part_at j l ∙ sym (at_downward (λ n. cell i (session - n)) size j (pos 0) l))

  pub window_cells : (j : ℕ) (d : ℤ) → j < length (window_up_to (cell i) size session) → IsCell (get_or (window_up_to (cell i) size session) j d)
  window_cells j d h =
      let n : length (window_up_to (cell i) size session) ≡ size = length-map (downward size) (λ n. cell i (session - n)) ∙ length-downward size in
      let l : j < size = omega arith in
      let s : low + ((session - low) - (size - 1 - j)) ≡ session - (size - 1 - j) = omega arith in
      rw (at_downward (λ n. cell i (session - n)) size j d l, ← s) (holds.cell i ((session - low) - (size - 1 - j)) asset (omega arith))

-- ---- a row put into an array

-- session j is written for the first n assets
pub record IsPut (f : ℕ → ℤ) (assets count j n : ℕ) (old new : List ℤ) : Type 0 where
  pub size : length new ≡ length old
  pub written : (i : ℕ) → i < n → get_or new (i * count + j) (pos 0) ≡ f i
  pub cell : (i : ℕ) → i < n → IsCell (f i)
  pub others : (i t : ℕ) → i < assets → t < count → (t ≡ j → ⊥) → get_or new (i * count + t) (pos 0) ≡ get_or old (i * count + t) (pos 0)

pub one_put : (f : ℕ → ℤ) (assets count j n : ℕ) (old new : List ℤ) (x : ℤ) → IsPut f assets count j n old new → n < assets → j < count → assets * count ≤ length old → x ≡ f n → IsCell (f n)
    → IsPut f assets count j (n + 1) old (set new (n * count + j) x)
one_put f assets count j n old new x b asset session room e is_cell = record {
  size = length-set new (n * count + j) x ∙ b.size;
  written = λ i h. elim (cases_eq i n) [
    | inl p ↦ (let m : i * count + j ≡ n * count + j = ap (λ k. k * count + j) p in ap (λ k. get_or (set new (n * count + j) x) k (pos 0)) m ∙ get_or-set_same new (n * count + j) x (pos 0) here ∙ e ∙ ap f (sym p))
    | inr p ↦ get_or-set_other new (n * count + j) (i * count + j) x (pos 0) (λ q. p (same_from_place i j n j count session session q).0) ∙ b.written i (omega arith)
  ];
  cell = λ i h. elim (cases_eq i n) [
    | inl p ↦ rw p is_cell
    | inr p ↦ b.cell i (omega arith)
  ];
  others = λ i t h l ne. get_or-set_other new (n * count + j) (i * count + t) x (pos 0) (λ q. ne (same_from_place i t n j count l session q).1) ∙ b.others i t h l ne;
}
  where
    here : n * count + j < length new
    here = let p = row-within n assets count j asset session in let s = b.size in omega arith

pub row_put : (f : ℕ → ℤ) (assets count j : ℕ) (row old new : List ℤ) → Fills f assets row → IsRow (λ i. get_or row i (pos 0)) (length row) count j old new → IsRow f assets count j old new
row_put f assets count j row old new filled put =
    let p = subst (λ m. IsRow (λ i. get_or row i (pos 0)) m count j old new) filled.long put in
    record { size = p.size; written = λ i h. p.written i h ∙ filled.each i h; cell = filled.cell; others = p.others }

-- ---- session after session

pub more_written : (f : ℕ → ℕ → ℤ) (low count assets done : ℕ) (cells new : List ℤ) → IsWritten f low count assets done cells → done < count → IsRow (λ i. f i (low + done)) assets count done cells new
    → IsWritten f low count assets (done + 1) new
more_written f low count assets done cells new so_far h row = record {
  each = λ i t a l. elim (cases_eq t done) [
    | inl e ↦ rw e (row.written i a)
    | inr ne ↦ row.others i t a (omega arith) ne ∙ so_far.each i t a (omega arith)
  ];
  cell = λ i t a l. elim (cases_eq t done) [
    | inl e ↦ rw e (row.cell i a)
    | inr ne ↦ so_far.cell i t a (omega arith)
  ];
}

pub all_written : (f : ℕ → ℕ → ℤ) (low count assets done sessions : ℕ) (cells : List ℤ) → IsWritten f low count done sessions cells → assets ≤ done → count ≤ sessions → assets * count ≤ length cells
    → Holds f assets low count cells
all_written f low count assets done sessions cells b all e room = record { room = room; each = λ i j a l. b.each i j (omega arith) (omega arith); cell = λ i j a l. b.cell i j (omega arith) (omega arith) }
