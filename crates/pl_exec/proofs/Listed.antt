-- The used terms as a choice among all numbers, what they hold at once, and their sums.
use Rattle.std.proofs.Common.{◌≡◌, ℕ, suc, ◌+◌, ◌<◌, Bool, true, false, ◌&&◌, if◌then◌else◌, max, nat_le, List, [], ◌∷◌, length, map, fold, filter, sum_by, refl, sym, ◌∙◌, ap, arith}
use Rattle.std.specs.List.{range_with_len, count_by}
use Rattle.std.proofs.lemmas.List.Sums.{sum_by-append, sum_by-cons}
use Rattle.pl_pipeline.specs.Term.{Graph}
use Rattle.pl_pipeline.specs.Cones.{reads_of}
use Rattle.pl_pipeline.specs.Graph.{contains, used_terms, columns_at}
use Rattle.pl_planner.specs.Columns.{columns_held, most_held}
use Rattle.pl_planner.specs.Holds.{is_live_by, live_terms_by}
use Rattle.pl_planner.proofs.Live.{turned, bound_held, contains-filter, filtered}
use Rattle.std.proofs.Math.Path.{fun_ext}
use Rattle.pl_exec.proofs.Counts.{range_suc}

pub used_listed : (g : Graph) (outputs : List ℕ) (q : ℕ → Bool) → ((t : ℕ) → q t ≡ contains (used_terms g outputs) t) → used_terms g outputs ≡ filter q (range_with_len 0 (length g))
used_listed g outputs q h = filtered g q (length g) outputs (λ t l. h t)

-- ---- what is held at once

module _ (g : Graph) (outputs : List ℕ) (used : ℕ → Bool) (reads : ℕ → ℕ → Bool) (is : (t : ℕ) → used t ≡ contains (used_terms g outputs) t)
    (live : (k t : ℕ) → k < length g → (used t && nat_le t k && reads k t) ≡ contains (live_terms_by (reads_of g) g outputs k) t) where
  abbrev pub held : ℕ → ℕ
  held k = if used k then count_by (λ t. used t && reads k t) (range_with_len 0 (k + 1)) + columns_at g k else 0

  same_at : (k t : ℕ) → k < length g → (used t && is_live_by (reads_of g) g outputs k t) ≡ (nat_le t k && (used t && reads k t))
  same_at k t h = ap (λ b. b && is_live_by (reads_of g) g outputs k t) (is t) ∙ sym (contains-filter (is_live_by (reads_of g) g outputs k) (used_terms g outputs) t) ∙ sym (live k t h) ∙ turned (used t) (nat_le t k) (reads k t)

  pub held_bound : ((k : ℕ) → columns_held g k ≡ columns_at g k) → fold max 0 (map held (range_with_len 0 (length g))) ≡ most_held g outputs
  held_bound same =
      bound_held (reads_of g) (columns_at g) g outputs used (λ k t. used t && reads k t) (used_listed g outputs used is) same_at
      ∙ ap (λ f. fold max 0 (map f (used_terms g outputs))) (fun_ext (λ k. ap (λ n. length (live_terms_by (reads_of g) g outputs k) + n) (sym (same k))))

-- ---- sums over the used terms

pub sum_filter : {A : Type 0} (f : A → ℕ) (q : A → Bool) (xs : List A) → sum_by f (filter q xs) ≡ sum_by (λ x. if q x then f x else 0) xs
sum_filter f q [] = refl
sum_filter f q (x ∷ xs) = here (q x) refl (sum_filter f q xs)
  where
    here : (b : Bool) → q x ≡ b → sum_by f (filter q xs) ≡ sum_by (λ y. if q y then f y else 0) xs → sum_by f (filter q (x ∷ xs)) ≡ sum_by (λ y. if q y then f y else 0) (x ∷ xs)
    here true e ih =
        let s : filter q (x ∷ xs) ≡ x ∷ filter q xs = rw e refl in
        ap (sum_by f) s ∙ sum_by-cons f x (filter q xs) ∙ ap (λ n. f x + n) ih ∙ ap (λ b. (if b then f x else 0) + sum_by (λ y. if q y then f y else 0) xs) (sym e) ∙ sym (sum_by-cons (λ y. if q y then f y else 0) x xs)
    here false e ih =
        let s : filter q (x ∷ xs) ≡ filter q xs = rw e refl in
        ap (sum_by f) s ∙ ih ∙ (let z : sum_by (λ y. if q y then f y else 0) xs ≡ 0 + sum_by (λ y. if q y then f y else 0) xs = omega arith in z)
        ∙ ap (λ b. (if b then f x else 0) + sum_by (λ y. if q y then f y else 0) xs) (sym e) ∙ sym (sum_by-cons (λ y. if q y then f y else 0) x xs)

pub sum_more : (f : ℕ → ℕ) (n : ℕ) → sum_by f (range_with_len 0 (n + 1)) ≡ sum_by f (range_with_len 0 n) + f n
sum_more f n = let e : n + 1 ≡ suc n = omega arith in ap (λ m. sum_by f (range_with_len 0 m)) e ∙ ap (sum_by f) (range_suc n) ∙ sum_by-append f (range_with_len 0 n) (n ∷ []) ∙ ap (λ m. sum_by f (range_with_len 0 n) + m) (let z : 0 + f n ≡ f n = omega arith in z)
