-- The distinct bar columns of a node, place by place.
use Rattle.std.proofs.Common.{◌≡◌, ℕ, zero, suc, ◌+◌, ◌≤◌, Bool, true, false, if◌then◌else◌, List, [], ◌∷◌, ◌++◌, length, take, get_or, filter_map, sum_by, Option, Some, None, slice_get, refl, sym, ◌∙◌, ap, arith, ◌==◌}
use Rattle.std.proofs.lemmas.Bool.{true≢false, eq-eqb, eqb-true}
use Rattle.std.proofs.lemmas.List.{take_more, take_all, append-nil}
use Rattle.std.proofs.lemmas.List.Elements.{filter_map-append}
use Rattle.std.proofs.lemmas.Option.{get_or_from_slice_get, slice_get_within}
use Rattle.pl_spec.specs.declared.Column.{Column}
use Rattle.pl_spec.specs.declared.Column.TheVariants.{OpenPrice, High, Low, Close, Volume}
use Rattle.pl_spec.specs.World.{column_number}
use Rattle.pl_pipeline.specs.Graph.{contains, columns_at, input_column}
use Rattle.pl_pipeline.specs.Term as spec
use Rattle.pl_pipeline.specs.Term.Input.{BarColumn, TermInput}
use Rattle.pl_pipeline.proofs.Contained.{alone-in, in-back, not-in-alone, not-in-back}
use Rattle.pl_planner.proofs.Counting.{columns-few}
use Rattle.pl_exec.specs.Tasks.{columns_of}
use Rattle.pl_exec.specs.ChunkInputs.{columns_before, new_column, one_new, place_among, unless}
use Rattle.pl_exec.proofs.Listed.{sum_filter}
use Rattle.pl_exec.proofs.Places.{IsFirst, first_place, new_first}

-- what one number more adds to a sum over those that are listed
one_grown : (ns : List ℕ) (k j x : ℕ) → (if contains (ns ++ k ∷ []) j then x else 0) ≡ (if contains ns j then x else 0) + (if k == j then (if contains ns k then 0 else x) else 0)
one_grown ns k j x = here (k == j) refl
  where
    listed : (b : Bool) → x ≡ (if b then x else 0) + (if b then 0 else x)
    listed true = omega arith
    listed false = omega arith

    here : (b : Bool) → (k == j) ≡ b → (if contains (ns ++ k ∷ []) j then x else 0) ≡ (if contains ns j then x else 0) + (if b then (if contains ns k then 0 else x) else 0)
    here true e =
        let same : k ≡ j = eqb-true k j e in
        let own : contains (ns ++ k ∷ []) j ≡ true = ap (contains (ns ++ k ∷ [])) (sym same) ∙ in-back ns (k ∷ []) k (alone-in k) in
        rw own (listed (contains ns k) ∙ ap (λ n. (if contains ns n then x else 0) + (if contains ns k then 0 else x)) same)
    here false e =
        let other : contains (ns ++ k ∷ []) j ≡ contains ns j = not-in-back ns (k ∷ []) j (not-in-alone k j (λ p. true≢false (sym (eq-eqb k j (sym p)) ∙ e))) in
        rw other (let z : (if contains ns j then x else 0) ≡ (if contains ns j then x else 0) + 0 = omega arith in z)

-- a sum over the columns whose numbers are listed
abbrev five : List Column
five = OpenPrice ∷ High ∷ Low ∷ Close ∷ Volume ∷ []

abbrev total_of : (Column → ℕ) → List ℕ → ℕ
total_of f ns = sum_by (λ c. if contains ns (column_number c) then f c else 0) five

one_more : (f : Column → ℕ) (ns : List ℕ) (d : Column) → total_of f (ns ++ column_number d ∷ []) ≡ total_of f ns + (if contains ns (column_number d) then 0 else f d)
one_more f ns OpenPrice =
    let p = one_grown ns (0) 0 (f OpenPrice) in
    let q = one_grown ns (0) 1 (f High) in
    let r = one_grown ns (0) 2 (f Low) in
    let s = one_grown ns (0) 3 (f Close) in
    let t = one_grown ns (0) 4 (f Volume) in
    omega (arith, p, q, r, s, t)
one_more f ns d =
    let p = one_grown ns (column_number d) 0 (f OpenPrice) in
    let q = one_grown ns (column_number d) 1 (f High) in
    let r = one_grown ns (column_number d) 2 (f Low) in
    let s = one_grown ns (column_number d) 3 (f Close) in
    let t = one_grown ns (column_number d) 4 (f Volume) in
    omega (arith, p, q, r, s, t)

abbrev pub part : (Column → ℕ) → Option Column → ℕ
part f None = 0
part f (Some c) = f c

module _ (n : spec.Node) (f : Column → ℕ) where
  next_part : (p : ℕ) → total_of f (columns_before n (p + 1)) ≡ total_of f (columns_before n p) + part f (new_column n p)
  next_part p = here (slice_get n.inputs p) refl
    where
      grown : (x : spec.Input) → slice_get n.inputs p ≡ Some x → columns_before n (p + 1) ≡ columns_before n p ++ filter_map input_column (x ∷ [])
      grown x e =
          let w = slice_get_within n.inputs p x e in
          let g : get_or n.inputs p x ≡ x = get_or_from_slice_get n.inputs p x x e in
          ap (filter_map input_column) (take_more n.inputs p x w ∙ ap (λ y. take p n.inputs ++ y ∷ []) g) ∙ filter_map-append input_column (take p n.inputs) (x ∷ [])

      here : (o : Option spec.Input) → slice_get n.inputs p ≡ o → total_of f (columns_before n (p + 1)) ≡ total_of f (columns_before n p) + part f (new_column n p)
      here None e = let s : take (p + 1) n.inputs ≡ take p n.inputs = past n.inputs p e in rw (s, e) (omega arith)
        where
          past : (xs : List spec.Input) (i : ℕ) → slice_get xs i ≡ None → take (i + 1) xs ≡ take i xs
          past [] zero e = refl
          past [] (suc i) e = let s : suc i + 1 ≡ suc (i + 1) = omega arith in ap (λ m. take m []) s
          past (x ∷ xs) zero e = absurd (let c : Some x ≡ None = e in cc)
          past (x ∷ xs) (suc i) e = let s : suc i + 1 ≡ suc (i + 1) = omega arith in ap (λ m. take m (x ∷ xs)) s ∙ ap (λ l. x ∷ l) (past xs i e)
      here (Some (TermInput u)) e =
          let s = grown (TermInput u) e ∙ append-nil (columns_before n p) in
          rw e (ap (total_of f) s ∙ (let z : total_of f (columns_before n p) ≡ total_of f (columns_before n p) + 0 = omega arith in z))
      here (Some (BarColumn c)) e =
          let s = grown (BarColumn c) e in
          rw e (ap (total_of f) s ∙ one_more f (columns_before n p) c ∙ ap (λ m. total_of f (columns_before n p) + m) (both (contains (columns_before n p) (column_number c))))
        where
          both : (b : Bool) → (if b then 0 else f c) ≡ part f (unless b c)
          both true = refl
          both false = refl

  pub columns_sum : length n.inputs ≤ 3 → sum_by f (columns_of n) ≡ part f (new_column n 0) + part f (new_column n 1) + part f (new_column n 2)
  columns_sum few =
      let s : take 3 n.inputs ≡ n.inputs = take_all 3 n.inputs few in
      let a = next_part 0 in
      let b = next_part 1 in
      let c = next_part 2 in
      let whole : total_of f (filter_map input_column n.inputs) ≡ total_of f (columns_before n 3) = ap (λ l. total_of f (filter_map input_column l)) (sym s) in
      let none : total_of f (columns_before n 0) ≡ 0 = refl in
      sum_filter f (λ c. contains (filter_map input_column n.inputs) (column_number c)) five ∙ omega (arith, a, b, c, whole, none)

one_part : (o : Option Column) → part (λ c. 1) o ≡ one_new o
one_part None = refl
one_part (Some c) = refl

module _ (g : spec.Graph) (k : ℕ) (n : spec.Node) (node : slice_get g k ≡ Some n) (few : length n.inputs ≤ 3) where
  pub columns_count : columns_at g k ≡ one_new (new_column n 0) + one_new (new_column n 1) + one_new (new_column n 2)
  columns_count =
      let s = columns_sum n (λ c. 1) few in
      let t : columns_at g k ≡ sum_by (λ c. 1) (columns_of n) = rw node (sym (sum_filter (λ c. 1) (λ c. contains (filter_map input_column n.inputs) (column_number c)) five)) in
      let a = one_part (new_column n 0) in let b = one_part (new_column n 1) in let c = one_part (new_column n 2) in
      t ∙ omega (arith, s, a, b, c)

  pub columns_few : columns_at g k ≤ 3
  columns_few = rw node (omega (arith, columns-few n, few))

  -- a node without columns has no input that is one
  pub no_bars : columns_at g k ≡ 0 → (p : ℕ) (c : Column) → slice_get n.inputs p ≡ Some (BarColumn c) → ⊥
  no_bars none p c e = here (place_among n.inputs c) (first_place n.inputs c p e)
    where
      here : (q : ℕ) → IsFirst n.inputs c q → ⊥
      here zero f = let o : one_new (new_column n 0) ≡ 1 = ap one_new (new_first n c 0 f) in let s = columns_count in omega arith
      here (suc zero) f = let o : one_new (new_column n 1) ≡ 1 = ap one_new (new_first n c 1 f) in let s = columns_count in omega arith
      here (suc (suc zero)) f = let o : one_new (new_column n 2) ≡ 1 = ap one_new (new_first n c 2 f) in let s = columns_count in omega arith
      here (suc (suc (suc q))) f = let w = f.within in omega arith
