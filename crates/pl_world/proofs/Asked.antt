-- What a term reads may be asked for where the term may.
use Rattle.std.proofs.Common.{◌≡◌, ℕ, zero, suc, ◌+◌, ◌-◌, ◌<◌, ◌≤◌, true, false, ℤ, pos, negsuc, ◌≤ℤ◌, List, map, length, Option, Some, None, option_map, slice_get, refl, sym, ◌∙◌, ap, subst, arith}
use Rattle.std.proofs.lemmas.Int.{ints}
use Rattle.std.proofs.lemmas.Bool.Decides.{nat_tests}
use Rattle.std.proofs.lemmas.Option.{slice_get-map}
use Rattle.pl_spec.specs.Window.{before, downward}
use Rattle.pl_pipeline.specs.Kind as kinds
use Rattle.pl_pipeline.specs.Kind.{Kind}
use Rattle.pl_pipeline.specs.Term as spec
use Rattle.pl_pipeline.specs.Term.{Term, Graph, input_tree, number_tree, trees, term_at, IsGraph}
use Rattle.pl_pipeline.specs.Graph.{least_of, part_reach, reads_at, reach}
use Rattle.pl_pipeline.proofs.Trees.{term_at-node}
pub use Rattle.pl_pipeline.proofs.Unfolds.{stands as has-node}
use Rattle.pl_spec.proofs.Windows.{before-pos}
use Rattle.pl_terms.specs.declared.node.TermId.{TermId}
use Rattle.pl_terms.specs.declared.node.Input.{Input}
use Rattle.pl_terms.specs.declared.node.Input.TheVariants as input
use Rattle.pl_terms.specs.declared.node.Node.{Node}
use Rattle.pl_spec.specs.declared.Frequency.{Frequency}
use Rattle.pl_spec.specs.Periods.{period_start}
use Rattle.pl_laws.proofs.Lows.{places, reach-rises, reads_at-within}
use Rattle.pl_laws.proofs.Reaches.{below_least, at_downward}
use Rattle.pl_terms.specs.Kinds.{kind_of}
use Rattle.pl_terms.specs.Nodes.{node_of, graph_of, input_of, number_of}
use Rattle.pl_terms.specs.Checked.{Parts, pipeline_of, IsChecked}
use Rattle.pl_terms.specs.Sorts.{has_window, is_windowed}
use Rattle.pl_terms.proofs.Graphs.{graph-long, graph-at}
use Rattle.pl_world.specs.declared.world.World.{World}
use Rattle.pl_world.specs.Evaluations.{IsAsked, IsAskedInput, IsAskedOption, as_input, above, above_option}

-- ---- sessions

early : (s n : ℕ) → pos 0 ≤ℤ before (pos s) n → n ≤ s
early s n h = omega (arith, ints, h)

-- a node reaches back as far as what stands in its places, whose inputs are read on session s
record Reaches (days : List ℤ) (g : Graph) (m : spec.Node) (s d : ℤ) : Type 0 where
  own : pos 0 ≤ℤ d
  first : pos 0 ≤ℤ part_reach (input_tree (trees g) (slice_get m.inputs 0)) (reach days (input_tree (trees g) (slice_get m.inputs 0))) m.window s
  second : pos 0 ≤ℤ part_reach (input_tree (trees g) (slice_get m.inputs 1)) (reach days (input_tree (trees g) (slice_get m.inputs 1))) m.window s
  third : pos 0 ≤ℤ part_reach (input_tree (trees g) (slice_get m.inputs 2)) (reach days (input_tree (trees g) (slice_get m.inputs 2))) m.window s
  mask : pos 0 ≤ℤ part_reach (number_tree (trees g) m.mask) (reach days (number_tree (trees g) m.mask)) 1 d
  group : pos 0 ≤ℤ part_reach (number_tree (trees g) m.group) (reach days (number_tree (trees g) m.group)) 1 d

reaches-of : (days : List ℤ) (g : Graph) (t : ℕ) (m : spec.Node) (d : ℤ) → IsGraph g → slice_get g t ≡ Some m → pos 0 ≤ℤ reach days (term_at g t) d → Reaches days g m (reads_at days m.kind d) d
reaches-of days g t m d ok e h =
    let all = places days g ok t m d (pos 0) e h in
    record { own = all.0; first = all.1.0; second = all.1.1.0; third = all.1.1.1.0; mask = all.1.1.1.1.0; group = all.1.1.1.1.1.0 }

part-node : (g : Graph) (u size : ℕ) (m : spec.Node) (f : ℤ → ℤ) (d : ℤ) → IsGraph g → slice_get g u ≡ Some m → part_reach (term_at g u) f size d ≡ least_of (map (λ i. f (before d i)) (downward size)) d
part-node g u size m f d ok e = rw (term_at-node g u m ok e) refl

own-low : (days : List ℤ) (g : Graph) (u : ℕ) (m : spec.Node) (d : ℤ) → IsGraph g → slice_get g u ≡ Some m → pos 0 ≤ℤ reach days (term_at g u) d → pos 0 ≤ℤ d
own-low days g u m d ok e h = (places days g ok u m d (pos 0) e h).0

pub inputs-at : (n : Node) (j : ℕ) → slice_get (node_of n).inputs j ≡ option_map input_of (slice_get n.inputs j)
unfolding node_of
inputs-at n j = slice_get-map input_of n.inputs j

one-of : (k : Kind) (size : ℕ) → is_windowed k ≡ false → has_window k size ≡ true → size ≡ 1
unfolding has_window
one-of (kinds.Window f) size e h = absurd (let bad : true ≡ false = e in cc)
one-of k size e h = grind (arith, nat_tests)

module _ (w : World) (c : Parts) (ok : IsChecked (pipeline_of c)) (t session : ℕ) (asked : IsAsked w c t session) where
  -- a term over the size sessions up to one
  AskedUp : ℕ → ℕ → ℕ → Type 0
  AskedUp u size r = (size ≤ r + 1) × ((n : ℕ) → n < size → IsAsked w c u (r - n))

  term-asked : (u size r : ℕ) → r ≤ session → u < length c.graph → pos 0 ≤ℤ part_reach (term_at (graph_of c.graph) u) (reach w.sessions.now (term_at (graph_of c.graph) u)) size (pos r) → AskedUp u size r
  unfolding AskedUp
  term-asked u size r up h low =
      let m = has-node (graph_of c.graph) u (omega (arith, h, graph-long c.graph)) in
      let f = reach w.sessions.now (term_at (graph_of c.graph) u) in
      let all = below_least (pos 0) (pos r) (map (λ i. f (before (pos r) i)) (downward size)) (subst (λ x. pos 0 ≤ℤ x) (part-node (graph_of c.graph) u size m.0 f (pos r) ok.graph m.1) low) in
      let each : (n : ℕ) → n < size → pos 0 ≤ℤ f (before (pos r) n) = λ n l. at_downward (pos 0) (λ i. f (before (pos r) i)) size all.1 n l in
      let there : (n : ℕ) → n < size → n ≤ r = λ n l. early r n (own-low w.sessions.now (graph_of c.graph) u m.0 (before (pos r) n) ok.graph m.1 (each n l)) in (
        some-size size there,
        λ n l. record {
          made = asked.made;
          term = h;
          within = (let a = asked.within in omega arith);
          days = asked.days;
          reaches = subst (λ d. pos 0 ≤ℤ reach w.sessions.now (term_at (graph_of c.graph) u) d) (before-pos r n (there n l)) (each n l);
        },
      )
    where
      some-size : (k : ℕ) → ((n : ℕ) → n < k → n ≤ r) → k ≤ r + 1
      some-size zero f = omega arith
      some-size (suc k) f = let l : k ≤ r = f k (omega arith) in omega arith

  -- and so over those up to a later one
  later-asked : (u size r : ℕ) → r ≤ session → AskedUp u size r → AskedUp u size session
  unfolding AskedUp
  later-asked u size r up all = (
    (let a = all.0 in omega arith),
    λ n l. let a = all.1 n l in
        record {
          made = asked.made;
          term = a.term;
          within = (let b = asked.within in omega arith);
          days = asked.days;
          reaches = (let low = a.reaches in let rise = reach-rises w.sessions.now asked.days (term_at (graph_of c.graph) u) (pos (r - n)) (pos (session - n)) (omega (arith, ints)) in omega (arith, ints));
        },
  )

  module _ (n : Node) (is : slice_get c.graph t ≡ Some n) where
    there : slice_get (graph_of c.graph) t ≡ Some (node_of n)
    there = graph-at c.graph t n is

    abbrev read_on : ℤ
    read_on = reads_at w.sessions.now (node_of n).kind (pos session)

    reaches : Reaches w.sessions.now (graph_of c.graph) (node_of n) read_on (pos session)
    reaches = reaches-of w.sessions.now (graph_of c.graph) t (node_of n) (pos session) ok.graph there asked.reaches

    abbrev InputLow : ℕ → ℤ → Type 0
    InputLow j s = pos 0 ≤ℤ part_reach (input_tree (trees (graph_of c.graph)) (slice_get (node_of n).inputs j)) (reach w.sessions.now (input_tree (trees (graph_of c.graph)) (slice_get (node_of n).inputs j))) n.window s

    at-input : (j : ℕ) (o : Option Input) (s : ℤ) → slice_get n.inputs j ≡ o → InputLow j s
        → pos 0 ≤ℤ part_reach (input_tree (trees (graph_of c.graph)) (option_map input_of o)) (reach w.sessions.now (input_tree (trees (graph_of c.graph)) (option_map input_of o))) n.window s
    at-input j o s e low = subst (λ o. pos 0 ≤ℤ part_reach (input_tree (trees (graph_of c.graph)) o) (reach w.sessions.now (input_tree (trees (graph_of c.graph)) o)) n.window s) (inputs-at n j ∙ ap (option_map input_of) e) low

    term-below : (j : ℕ) (u : TermId) → slice_get n.inputs j ≡ Some (input.Term u) → u.0 < length c.graph
    term-below j u e = let l = (ok.graph.lower t (node_of n) there).inputs j u.0 (inputs-at n j ∙ ap (option_map input_of) e) in let a = asked.term in omega arith

    -- an input on an earlier session
    input-asked-on : (j : ℕ) (o : Option Input) (r : ℕ) → slice_get n.inputs j ≡ o → r ≤ session → InputLow j (pos r) → IsAskedInput w c o n.window r
    unfolding AskedUp
    input-asked-on j None r e up low = tt
    input-asked-on j (Some (input.Column k)) r e up low = early r n.window (at-input j (Some (input.Column k)) (pos r) e low)
    input-asked-on j (Some (input.Term u)) r e up low = term-asked u.0 n.window r up (term-below j u e) (at-input j (Some (input.Term u)) (pos r) e low)

    -- of a term no session before the first is asked for
    term-late : (j : ℕ) (u : TermId) (s : ℤ) → slice_get n.inputs j ≡ Some (input.Term u) → InputLow j s → pos 0 ≤ℤ s
    term-late j u s e low =
        let m = has-node (graph_of c.graph) u.0 (omega (arith, term-below j u e, graph-long c.graph)) in
        let f = reach w.sessions.now (term_at (graph_of c.graph) u.0) in
        (below_least (pos 0) s (map (λ i. f (before s i)) (downward n.window)) (subst (λ x. pos 0 ≤ℤ x) (part-node (graph_of c.graph) u.0 n.window m.0 f s ok.graph m.1) (at-input j (Some (input.Term u)) s e low))).0

    input-asked : (j : ℕ) (o : Option Input) (s : ℤ) → slice_get n.inputs j ≡ o → s ≤ℤ pos session → InputLow j s → IsAskedInput w c o n.window session
    unfolding AskedUp
    input-asked j None s e up low = tt
    input-asked j (Some (input.Column k)) s e up low = let q = at-input j (Some (input.Column k)) s e low in omega (arith, ints)
    input-asked j (Some (input.Term u)) (pos r) e up low =
        let l : r ≤ session = omega (arith, ints) in
        later-asked u.0 n.window r l (term-asked u.0 n.window r l (term-below j u e) (at-input j (Some (input.Term u)) (pos r) e low))
    input-asked j (Some (input.Term u)) (negsuc r) e up low = absurd (let q = term-late j u (negsuc r) e low in omega (arith, ints))

    read-early : read_on ≤ℤ pos session
    read-early = reads_at-within w.sessions.now (node_of n).kind (pos session)

    -- each input may be asked for over its window
    pub first-asked : IsAskedInput w c (slice_get n.inputs 0) n.window session
    unfolding node_of
    first-asked = input-asked 0 (slice_get n.inputs 0) read_on refl read-early reaches.first

    pub second-asked : IsAskedInput w c (slice_get n.inputs 1) n.window session
    unfolding node_of
    second-asked = input-asked 1 (slice_get n.inputs 1) read_on refl read-early reaches.second

    pub third-asked : IsAskedInput w c (slice_get n.inputs 2) n.window session
    unfolding node_of
    third-asked = input-asked 2 (slice_get n.inputs 2) read_on refl read-early reaches.third

    -- and that of a downsampled term on the first session of the period
    pub start-asked : (f : Frequency) (r : ℕ) → kind_of n.kind ≡ kinds.Downsample f → r ≤ session → pos r ≡ period_start f w.sessions.now (pos session) → IsAskedInput w c (slice_get n.inputs 0) n.window r
    unfolding node_of
    start-asked f r e up h = input-asked-on 0 (slice_get n.inputs 0) r refl up (subst (InputLow 0) (ap (λ k. reads_at w.sessions.now k (pos session)) e ∙ sym h) reaches.first)

    -- and so may the mask and the group on the session
    option-asked : (o : Option TermId) → ((u : TermId) → o ≡ Some u → u.0 < t) → pos 0 ≤ℤ part_reach (number_tree (trees (graph_of c.graph)) (option_map number_of o)) (reach w.sessions.now (number_tree (trees (graph_of c.graph)) (option_map number_of o))) 1 (pos session)
        → IsAskedOption w c o session
    unfolding AskedUp
    option-asked None low r = tt
    option-asked (Some u) low r = let l = low u refl in let e : session - 0 ≡ session = omega arith in subst (λ i. IsAsked w c u.0 i) e ((term-asked u.0 1 session (omega arith) (let a = asked.term in omega arith) r).1 0 (omega arith))

    low-mask : (u : TermId) → n.mask ≡ Some u → u.0 < t
    unfolding node_of
    low-mask u e = (ok.graph.lower t (node_of n) there).mask u.0 (ap (option_map number_of) e)

    low-group : (u : TermId) → n.group ≡ Some u → u.0 < t
    unfolding node_of
    low-group u e = (ok.graph.lower t (node_of n) there).group u.0 (ap (option_map number_of) e)

    pub mask-asked : IsAskedOption w c n.mask session
    unfolding node_of
    mask-asked = option-asked n.mask low-mask reaches.mask

    pub group-asked : IsAskedOption w c n.group session
    unfolding node_of
    group-asked = option-asked n.group low-group reaches.group

    -- what is mentioned has a lower number
    pub input-below : (j : ℕ) → above (slice_get n.inputs j) ≤ t
    input-below j = here (slice_get n.inputs j) refl
      where
        here : (o : Option Input) → slice_get n.inputs j ≡ o → above o ≤ t
        here None e = omega arith
        here (Some (input.Column k)) e = omega arith
        here (Some (input.Term u)) e = let l : u.0 < t = (ok.graph.lower t (node_of n) there).inputs j u.0 (inputs-at n j ∙ ap (option_map input_of) e) in omega arith

    pub mask-below : (above (as_input n.mask) ≤ t) × (above_option n.mask ≤ t)
    mask-below = here n.mask low-mask
      where
        here : (o : Option TermId) → ((u : TermId) → o ≡ Some u → u.0 < t) → (above (as_input o) ≤ t) × (above_option o ≤ t)
        here None h = (omega arith, omega arith)
        here (Some u) h = let l : u.0 < t = h u refl in (omega arith, omega arith)

    pub group-below : above_option n.group ≤ t
    group-below = here n.group low-group
      where
        here : (o : Option TermId) → ((u : TermId) → o ≡ Some u → u.0 < t) → above_option o ≤ t
        here None h = omega arith
        here (Some u) h = let l : u.0 < t = h u refl in omega arith

    -- a kind that is over no window reads its inputs on the session alone
    pub window-one : is_windowed (kind_of n.kind) ≡ false → n.window ≡ 1
    unfolding node_of
    window-one e = one-of (kind_of n.kind) n.window e (ok.nodes t (node_of n) there).window
