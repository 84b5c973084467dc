-- A node reaches no session before the first where what it reads does not.
use Rattle.std.proofs.Common.{◌≡◌, ℕ, zero, suc, ◌+◌, ◌-◌, ◌<◌, ◌≤◌, Bool, true, ◌&&◌, ℤ, pos, ◌<ℤ◌, ◌≤ℤ◌, List, [], ◌∷◌, length, map, get_or, AllPairs, Option, Some, None, inl, inr, refl, sym, ap, arith, slice_get, le-leb, leb-true}
use Rattle.std.specs.List.{list_all}
use Rattle.std.proofs.lemmas.Bool.{cases_lt, true≢false, and_parts}
use Rattle.std.proofs.lemmas.Bool.Decides.{nat_tests}
use Rattle.std.proofs.lemmas.Int.{ints}
use Rattle.std.proofs.lemmas.Option.{slice_get_within}
use Rattle.pl_pipeline.specs.Kind.{Kind}
use Rattle.pl_pipeline.specs.Kind.Kind.{Downsample}
use Rattle.pl_spec.specs.declared.Frequency.{Frequency}
use Rattle.pl_spec.specs.Periods.{period_start}
use Rattle.pl_spec.specs.Window.{before, downward}
use Rattle.pl_pipeline.specs.Term.{Term, Input, Node, Graph, input_tree, number_tree, trees, term_at, MentionsBelow, IsGraph}
use Rattle.pl_pipeline.specs.Term.Term.{absent, column, node}
use Rattle.pl_pipeline.specs.Term.Input.{BarColumn, TermInput}
use Rattle.pl_pipeline.specs.Graph.{least_of, part_reach, reads_at, reach}
use Rattle.pl_pipeline.proofs.Trees.{term_at-node}
use Rattle.pl_pipeline.proofs.Unfolds.{past}
use Rattle.pl_pipeline.specs.Lows.{Reads, Needs}
use Rattle.pl_pipeline.proofs.Contained.{alone-in}
use Rattle.pl_planner.proofs.Lows.{reach-alone}
use Rattle.pl_spec.specs.declared.Column.{Column}
use Rattle.pl_spec.proofs.Windows.{before-zero}
use Rattle.pl_laws.specs.LowLaws.{ReachCovers}
use Rattle.pl_laws.proofs.Lows.{reach-covers, reach-rises, reaches-rise, reads_at-within, least_above}
use Rattle.pl_laws.proofs.Reaches.{AllFrom}
use Rattle.pl_daily.specs.Reaches.{IsFirst}
use Rattle.pl_daily.specs.Ready.{is_since, is_input_ready, is_number_ready, read_up_to, is_node_ready}
use Rattle.pl_values.proofs.Operations.{all-at}

-- ---- tests

since-le : (first back s : ℕ) → is_since (Some first) back s ≡ true → first + back ≤ s
since-le first back s h = grind (arith, nat_tests)

le-since : (first back s : ℕ) → first + back ≤ s → is_since (Some first) back s ≡ true
le-since first back s h = grind (arith, nat_tests)

pub at-all : {X : Type 0} (f : X → Bool) (xs : List X) → ((i : ℕ) (x : X) → slice_get xs i ≡ Some x → f x ≡ true) → list_all f xs ≡ true
at-all f [] h = refl
at-all f (y ∷ ys) h = rw (h 0 y refl) (at-all f ys (λ i x e. h (suc i) x e))

-- ---- the least of sessions

downward-at : (low : ℤ) (f : ℕ → ℤ) (size : ℕ) → ((i : ℕ) → i < size → low ≤ℤ f i) → AllFrom low (map f (downward size))
downward-at low f zero h = tt
downward-at low f (suc size) h = (h size (omega arith), downward-at low f size (λ i l. h i (omega arith)))

-- ---- what stands in a place

abbrev IsNode : Term → Type 0
IsNode absent = ⊥
IsNode (column c) = ⊥
IsNode (node k n x y z m g) = Unit {0}

module _ (days : List ℤ) (rise : AllPairs (λ a b. a <ℤ b) days) where
  abbrev From : Term → ℤ → Type 0
  From t d = pos 0 ≤ℤ reach days t d

  pub on-first : (t : Term) (s e : ℕ) → From t (pos s) → s ≤ e → From t (pos e)
  on-first t s e h l = let up : reach days t (pos s) ≤ℤ reach days t (pos e) = reach-rises days rise t (pos s) (pos e) (omega (arith, ints)) in omega (arith, ints, up, h)

  -- where a term reaches no session below 0, its first session has come
  since-on : (t : Term) (o : Option ℕ) (b s : ℕ) → IsFirst days t o → s < length days → pos 0 ≤ℤ reach days t (before (pos s) b) → is_since o b s ≡ true
  since-on t o b s is l h = elim (cases_lt s b) [
    | inl short ↦ absurd (omega (arith, ints, short, h, reaches-rise.within days t (before (pos s) b)))
    | inr long ↦ (let back : before (pos s) b ≡ pos (s - b) = omega (arith, ints, long) in later o is long (rw back at h))
  ]
    where
      later : (o : Option ℕ) → IsFirst days t o → b ≤ s → From t (pos (s - b)) → is_since o b s ≡ true
      later None is long h = absurd (omega (arith, ints, is (s - b) (omega (arith, l)), h))
      later (Some first) is long h = elim (cases_lt (s - b) first) [
        | inl early ↦ absurd (omega (arith, ints, is.2 (s - b) early, h))
        | inr late ↦ le-since first b s (omega (arith, late, long))
      ]

  -- over a window that ends with session s
  on-window : (t : Term) → IsNode t → (o : Option ℕ) → IsFirst days t o → (size s : ℕ) → 1 ≤ size
      → is_since o (size - 1) s ≡ true → pos 0 ≤ℤ part_reach t (reach days t) size (pos s)
  on-window absent never o is size s some h = absurd never
  on-window (column c) never o is size s some h = absurd never
  on-window (node k n x y z m g) stands None is size s some h = absurd (true≢false (sym h))
  on-window (node k n x y z m g) stands (Some first) is size s some h =
      let far : first + (size - 1) ≤ s = since-le first (size - 1) s h in
      least_above (pos 0) (pos s) (map (λ i. reach days (node k n x y z m g) (before (pos s) i)) (downward size)) (omega (arith, ints))
      (downward-at (pos 0) (λ i. reach days (node k n x y z m g) (before (pos s) i)) size
      (λ i l. let back : before (pos s) i ≡ pos (s - i) = omega (arith, ints) in rw back (on-first (node k n x y z m g) first (s - i) is.1 (omega arith))))

  -- ---- a node of a graph

  module _ (g : Graph) (ok : IsGraph g) (wide : (k : ℕ) (n : Node) → slice_get g k ≡ Some n → 1 ≤ n.window) where
    is-node : (u : ℕ) → u < length g → IsNode (term_at g u)
    is-node u l = found (slice_get g u) refl
      where
        found : (o : Option Node) → slice_get g u ≡ o → IsNode (term_at g u)
        found None e = absurd (past g u l e)
        found (Some m) e = rw (term_at-node g u m ok e) tt

    module _ (since : List (Option ℕ)) (k : ℕ) (n : Node) (at : slice_get g k ≡ Some n) (d : ℕ)
        (firsts : (u : ℕ) (r : ℤ) → Reads days n (pos d) u r → IsFirst days (term_at g u) (get_or since u None)) where
      low : MentionsBelow n k
      low = ok.lower k n at

      inside : (u : ℕ) → u < k → u < length g
      inside u l = let there : k < length g = slice_get_within g k n at in omega arith

      -- what the term itself reaches, what it reads reaches
      module _ (h : From (term_at g k) (pos d)) where
        own : Needs days g (k ∷ []) (pos d) k (pos d)
        own = Needs.output (alone-in k)

        covers : ReachCovers days g (k ∷ []) (pos d)
        covers = reach-covers days g ok wide (k ∷ []) (pos d)

        term-from : (u : ℕ) (r : ℤ) → Reads days n (pos d) u r → From (term_at g u) r
        term-from u r reads = omega (arith, ints, h, reach-alone days g k (pos d), covers.terms u r (Needs.read k n (pos d) own at reads))

        bar-from : (i : ℕ) (c : Column) → slice_get n.inputs i ≡ Some (BarColumn c) → pos 0 ≤ℤ before (reads_at days n.kind (pos d)) n.window
        bar-from i c e = omega (arith, ints, h, reach-alone days g k (pos d), covers.bars k n (pos d) own at (i, c, e))

        number-on : d < length days → (o : Option ℕ) → ((u : ℕ) → o ≡ Some u → Reads days n (pos d) u (pos d)) → is_number_ready since d o ≡ true
        number-on l None reads = refl
        number-on l (Some u) reads =
            since-on (term_at g u) (get_or since u None) 0 d (firsts u (pos d) (reads u refl)) l (rw (before-zero (pos d)) (term-from u (pos d) (reads u refl)))

      on-place : (i s : ℕ) (o : Option Input) → slice_get n.inputs i ≡ o → ((x : Input) → o ≡ Some x → is_input_ready since n.window s x ≡ true)
          → pos 0 ≤ℤ part_reach (input_tree (trees g) o) (reach days (input_tree (trees g) o)) n.window (pos s)
      on-place i s None e h = omega (arith, ints)
      on-place i s (Some (BarColumn c)) e h = let l : n.window ≤ s = leb-true n.window s (h (BarColumn c) refl) in omega (arith, ints, l)
      on-place i s (Some (TermInput u)) e h =
          on-window (term_at g u) (is-node u (inside u (low.inputs i u e))) (get_or since u None) (firsts u _ (Reads.input i e)) n.window s (wide k n at) (h (TermInput u) refl)

      on-number : (o : Option ℕ) → ((u : ℕ) → o ≡ Some u → (u < k) × Reads days n (pos d) u (pos d)) → is_number_ready since d o ≡ true
          → pos 0 ≤ℤ part_reach (number_tree (trees g) o) (reach days (number_tree (trees g) o)) 1 (pos d)
      on-number None own h = omega (arith, ints)
      on-number (Some u) own h = on-window (term_at g u) (is-node u (inside u (own u refl).0)) (get_or since u None) (firsts u (pos d) (own u refl).1) 1 d (omega arith) h

      module _ (start : ℕ) (in_days : d < length days) (reads : pos (read_up_to start d n.kind) ≡ reads_at days n.kind (pos d)) where
        abbrev last : ℕ
        last = read_up_to start d n.kind

        abbrev parts : ℤ → List ℤ
        parts s =
            part_reach (input_tree (trees g) (slice_get n.inputs 0)) (reach days (input_tree (trees g) (slice_get n.inputs 0))) n.window s
            ∷ part_reach (input_tree (trees g) (slice_get n.inputs 1)) (reach days (input_tree (trees g) (slice_get n.inputs 1))) n.window s
            ∷ part_reach (input_tree (trees g) (slice_get n.inputs 2)) (reach days (input_tree (trees g) (slice_get n.inputs 2))) n.window s
            ∷ part_reach (number_tree (trees g) n.mask) (reach days (number_tree (trees g) n.mask)) 1 (pos d)
            ∷ part_reach (number_tree (trees g) n.group) (reach days (number_tree (trees g) n.group)) 1 (pos d) ∷ []

        reach-is : reach days (term_at g k) (pos d) ≡ least_of (parts (pos last)) (pos d)
        unfolding reach
        reach-is = rw (term_at-node g k n ok at) (ap (λ s. least_of (parts s) (pos d)) (sym reads))

        last-in : last < length days
        last-in = let w : reads_at days n.kind (pos d) ≤ℤ pos d = reads_at-within days n.kind (pos d) in omega (arith, ints, w, reads)

        pub node-on : pos 0 ≤ℤ reach days (term_at g k) (pos d) → is_node_ready since start d n ≡ true
        node-on h =
            let inputs : list_all (is_input_ready since n.window last) n.inputs ≡ true = at-all (is_input_ready since n.window last) n.inputs input-on in
            rw (inputs, number-on h in_days n.mask (λ u e. Reads.mask e), number-on h in_days n.group (λ u e. Reads.group e)) refl
          where
            input-on : (i : ℕ) (x : Input) → slice_get n.inputs i ≡ Some x → is_input_ready since n.window last x ≡ true
            input-on i (BarColumn c) e = le-leb n.window last (omega (arith, ints, reads, bar-from h i c e))
            input-on i (TermInput u) e =
                since-on (term_at g u) (get_or since u None) (n.window - 1) last (firsts u _ (Reads.input i e)) last-in
                (rw reads (term-from h u _ (Reads.input i e)))

        pub on-node : is_node_ready since start d n ≡ true → pos 0 ≤ℤ reach days (term_at g k) (pos d)
        on-node h =
            let three = and_parts (list_all (is_input_ready since n.window last) n.inputs && is_number_ready since d n.mask) (is_number_ready since d n.group) h in
            let two = and_parts (list_all (is_input_ready since n.window last) n.inputs) (is_number_ready since d n.mask) three.0 in
            rw reach-is (least_above (pos 0) (pos d) (parts (pos last)) (omega (arith, ints)) (
              place two.0 0,
              (place two.0 1, (place two.0 2, (on-number n.mask (λ u e. (low.mask u e, Reads.mask e)) two.1, (on-number n.group (λ u e. (low.group u e, Reads.group e)) three.1, tt)))),
            ))
          where
            place : list_all (is_input_ready since n.window last) n.inputs ≡ true → (i : ℕ)
                → pos 0 ≤ℤ part_reach (input_tree (trees g) (slice_get n.inputs i)) (reach days (input_tree (trees g) (slice_get n.inputs i))) n.window (pos last)
            place all i = on-place i last (slice_get n.inputs i) refl (λ x e. all-at (is_input_ready since n.window last) n.inputs i x all e)

-- where a node of the kind reads its inputs
pub reads-is : (days : List ℤ) (k : Kind) (start d : ℕ) → ((f : Frequency) → k ≡ Downsample f → pos start ≡ period_start f days (pos d)) → pos (read_up_to start d k) ≡ reads_at days k (pos d)
reads-is days (Downsample f) start d h = h f refl
reads-is days k start d h = refl
