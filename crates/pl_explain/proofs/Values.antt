-- The premises of a value, and what its kind reads.
use Rattle.std.proofs.Common.{◌≡◌, ℕ, zero, suc, ◌<◌, Bool, true, false, ◌&&◌, ℤ, pos, List, [], ◌∷◌, ◌++◌, length, Option, Some, None, option_map, unwrap_or, slice_get, refl, sym, ◌∙◌, ap, subst, arith, append-nil, if◌then◌else◌, IfSome}
use Rattle.std.proofs.lemmas.Option.{slice_get_within}
use Rattle.pl_spec.specs.Rounding.{IsCell}
use Rattle.pl_spec.specs.World.{World as SpecWorld, exists}
use Rattle.pl_spec.specs.declared.Frequency.{Frequency}
use Rattle.pl_spec.specs.Periods.{period_start}
use Rattle.pl_pipeline.specs.Kind as kinds
use Rattle.pl_pipeline.specs.Kind.{Kind}
use Rattle.pl_pipeline.specs.Term as spec
use Rattle.pl_pipeline.specs.Value.{View, Own, From, passes, holds, number_of as number_in_value, empty, sort_kind}
use Rattle.pl_pipeline.specs.NodeValue.{number_part}
use Rattle.pl_pipeline.specs.Table.{Pipeline}
use Rattle.pl_pipeline.specs.Term.{Graph, IsGraph, term_at}
use Rattle.pl_pipeline.proofs.Cells.{empty-cell}
use Rattle.pl_terms.specs.declared.node.TermId.{TermId}
use Rattle.pl_terms.specs.declared.node.Input.{Input}
use Rattle.pl_terms.specs.declared.node.Input.TheVariants as input
use Rattle.pl_terms.specs.declared.node.Node.{Node}
use Rattle.pl_terms.specs.Kinds.{kind_of}
use Rattle.pl_terms.specs.Nodes.{node_of, graph_of, input_of, number_of}
use Rattle.pl_terms.specs.Checked.{Parts, pipeline_of, IsChecked}
use Rattle.pl_terms.specs.Sorts.{is_windowed, places}
use Rattle.pl_terms.proofs.Graphs.{graph-at}
use Rattle.pl_cross.specs.Section.{is_section}
use Rattle.pl_cross.specs.Arrays.{HasTexts}
use Rattle.pl_values.specs.Families.{is_label_test, is_point, is_sids}
use Rattle.pl_values.specs.Arrays.{is_kept}
use Rattle.pl_values.specs.Views.{keeps_kind}
use Rattle.pl_values.proofs.Cells.{keeps-is}
use Rattle.pl_values.proofs.Typed.{no-input}
use Rattle.pl_derivation.specs.Facts.{Fact, number_in, number_facts, number_read, over_inputs, facts_now, window_facts, kind_facts, node_facts}
use Rattle.pl_derivation.proofs.Codes.{from_code}
use Rattle.pl_world.specs.declared.world.World.{World}
use Rattle.pl_world.specs.Worlds.{world_of}
use Rattle.pl_world.proofs.Asked.{inputs-at}
use Rattle.pl_world.specs.Views.{view_at, window_view, operand_view}
use Rattle.pl_world.proofs.Views.{window-view, operand-view}
use Rattle.pl_world.proofs.Seen.{seen-unkept}
use Rattle.pl_world.proofs.Evaluated.{cell-kept, kept-mask, windowed-is, point-is, label-test-is, section-is, sids-is, code-node}
use Rattle.pl_explain.specs.declared.basis.Basis.{Basis}
use Rattle.pl_explain.specs.declared.fact_numbers.FactNumbers.{FactNumbers}
use Rattle.pl_explain.specs.Given.{facts_read, given, has_all, mask_passes, own_facts, seen_facts_in, seen_value_in, sid_in, IsAskedAt, IsGiven, IsKeptAt}
use Rattle.pl_explain.specs.Reading.{AreInGraph, IsInGraph}
use Rattle.pl_explain.proofs.Given.{given-some, given-none, given-behind, refused, accepted, both-stated, front-lacks, three-stated, first-lacks, second-lacks, third-lacks}

-- a mask that is read is the mask
mask-read : (w : SpecWorld) (p : Pipeline) → HasTexts w → IsGraph p.graph → (o : Option ℕ) (a : ℕ) (d : ℤ) → passes (number_read w p (number_in w p) o) a d ≡ passes (number_part w p.names p.graph o) a d
mask-read w p known ok None a d = refl
mask-read w p known ok (Some t) a d = ap holds (from_code w p known ok t a d)

-- the kinds of cross-sections have one place
one-place : (k : kinds.CrossKind) → (slice_get (places (kinds.Cross k)) 1 ≡ None) × (slice_get (places (kinds.Cross k)) 2 ≡ None)
unfolding places
one-place kinds.PeerCount = (refl, refl)
one-place k = (refl, refl)

-- ---- over the inputs of a node

pub over-read : (n : Node) (f : Option spec.Input → List Fact) → over_inputs f (node_of n)
    ≡ f (option_map input_of (slice_get n.inputs 0)) ++ f (option_map input_of (slice_get n.inputs 1)) ++ f (option_map input_of (slice_get n.inputs 2))
unfolding node_of
over-read n f = rw (inputs-at n 0, inputs-at n 1, inputs-at n 2) refl

module _ (stated : FactNumbers) (n : Node) (f : Option spec.Input → List Fact) where
  abbrev part : ℕ → List Fact
  part k = f (option_map input_of (slice_get n.inputs k))

  pub same-stated : (k : ℕ) (o : Option Input) (b : Bool) → o ≡ slice_get n.inputs k → has_all stated (f (option_map input_of o)) ≡ b → has_all stated (part k) ≡ b
  same-stated k o b at h = ap (λ o. has_all stated (f (option_map input_of o))) (sym at) ∙ h

  pub inputs-stated : has_all stated (part 0) ≡ true → has_all stated (part 1) ≡ true → has_all stated (part 2) ≡ true → has_all stated (over_inputs f (node_of n)) ≡ true
  inputs-stated x y z = ap (has_all stated) (over-read n f) ∙ three-stated stated (part 0) (part 1) (part 2) x y z

  pub input-lacks : (k : ℕ) → k < 3 → has_all stated (part k) ≡ false → has_all stated (over_inputs f (node_of n)) ≡ false
  input-lacks zero l h = ap (has_all stated) (over-read n f) ∙ first-lacks stated (part 0) (part 1) (part 2) h
  input-lacks (suc zero) l h = ap (has_all stated) (over-read n f) ∙ second-lacks stated (part 0) (part 1) (part 2) h
  input-lacks (suc (suc zero)) l h = ap (has_all stated) (over-read n f) ∙ third-lacks stated (part 0) (part 1) (part 2) h
  input-lacks (suc (suc (suc k))) l h = absurd (omega (arith, l))

-- ---- premises

module _ (w : World) (c : Parts) (ok : IsChecked (pipeline_of c)) (t : ℕ) (n : Node) (is : slice_get c.graph t ≡ Some n) where
  there : slice_get (graph_of c.graph) t ≡ Some (node_of n)
  there = graph-at c.graph t n is

  module _ (a s : ℕ) (view : Option ℕ) where
    shown : own_facts w c t a s view ≡ node_facts (world_of w) (pipeline_of c) (number_in (world_of w) (pipeline_of c)) (node_of n) (view_at view) a (pos s)
    shown = ap (λ o. unwrap_or (option_map (λ m. node_facts (world_of w) (pipeline_of c) (number_in (world_of w) (pipeline_of c)) m (view_at view) a (pos s)) o) []) there

    -- an asset that does not exist has none
    pub premises-none : exists (world_of w) a (pos s) ≡ false → own_facts w c t a s view ≡ []
    premises-none e = shown ∙ rw e refl

    mask-is : HasTexts (world_of w) → (b : Bool) → exists (world_of w) a (pos s) ≡ true → mask_passes w c n.mask a s ≡ b
        → passes (number_read (world_of w) (pipeline_of c) (number_in (world_of w) (pipeline_of c)) (node_of n).mask) a (pos s) ≡ b
    unfolding node_of
    mask-is known b e h =
        let kept : is_kept (world_of w) (pipeline_of c) (a ∷ []) (option_map number_of n.mask) 0 s ≡ b = kept-mask w c ok t n is a s n.mask b e h in
        mask-read (world_of w) (pipeline_of c) known ok.graph (option_map number_of n.mask) a (pos s)
        ∙ sym (ap (λ x. x && passes (number_part (world_of w) (pipeline_of c).names (pipeline_of c).graph (option_map number_of n.mask)) a (pos s)) e)
        ∙ keeps-is (world_of w) (pipeline_of c) (a ∷ []) ok t (node_of n) there 0 s ∙ kept

    -- the mask, and what the kind reads where it lets pass
    pub premises-masked : HasTexts (world_of w) → exists (world_of w) a (pos s) ≡ true → (b : Bool) → mask_passes w c n.mask a s ≡ b
        → own_facts w c t a s view ≡ number_facts a (pos s) (option_map number_of n.mask) ++ (if b then facts_read w c t a s view else [])
    unfolding node_of
    premises-masked known e true h = shown ∙ rw (e, mask-is known true e h, is) refl
    premises-masked known e false h = shown ∙ rw (e, mask-is known false e h) refl

    -- ---- what the kind reads

    abbrev g : Graph
    g = (pipeline_of c).graph

    pub read-kind : (k : Kind) → kind_of n.kind ≡ k → facts_read w c t a s view ≡ kind_facts (world_of w) g (node_of n) k (view_at view) a (pos s)
    read-kind k e = rw (is, e) refl

    pub read-sids : is_sids (kind_of n.kind) ≡ true → facts_read w c t a s view ≡ []
    read-sids e = let f = sids-is (kind_of n.kind) e in read-kind (kinds.StaticSids f.0) f.1

    -- what keeps its values reads what it reads on its own session
    kept-facts : (k : Kind) → keeps_kind k ≡ true → (v : View) → kind_facts (world_of w) g (node_of n) k v a (pos s) ≡ kind_facts (world_of w) g (node_of n) k Own a (pos s)
    kept-facts (kinds.Window f) e v = rw e refl
    kept-facts (kinds.Point f) e v = rw e refl
    kept-facts k e v = refl

    pub read-kept : keeps_kind (kind_of n.kind) ≡ true → facts_read w c t a s view ≡ facts_read w c t a s None
    read-kept e = rw is (kept-facts (kind_of n.kind) e (view_at view))

    pub read-windows : is_windowed (kind_of n.kind) ≡ true → (from : ℕ) → from ≡ window_view (kind_of n.kind) view s
        → facts_read w c t a s view ≡ over_inputs (window_facts g (From (pos from)) n.window a (pos s)) (node_of n)
    unfolding node_of
    read-windows e from q =
        let f = windowed-is (kind_of n.kind) e in
        read-kind (kinds.Window f.0) f.1
        ∙ ap (λ v. over_inputs (window_facts g v n.window a (pos s)) (node_of n)) (window-view f.0 view s ∙ ap (λ v. view_at (Some v)) (ap (λ k. window_view k view s) (sym f.1) ∙ sym q))

    pub read-point : is_point (kind_of n.kind) ≡ true → (from : Option ℕ) → from ≡ operand_view (kind_of n.kind) view
        → facts_read w c t a s view ≡ over_inputs (facts_now g (view_at from) a (pos s)) (node_of n)
    read-point e from q =
        let f = point-is (kind_of n.kind) e in
        read-kind (kinds.Point f.0) f.1
        ∙ ap (λ v. over_inputs (facts_now g v a (pos s)) (node_of n)) (operand-view f.0 view (pos s) ∙ ap view_at (ap (λ k. operand_view k view) (sym f.1) ∙ sym q))

    -- a kind of one place has no further input
    alone : (k : ℕ) → slice_get (places (kind_of n.kind)) k ≡ None → option_map input_of (slice_get n.inputs k) ≡ None
    unfolding node_of
    alone k e = sym (inputs-at n k) ∙ no-input (graph_of c.graph) (places (kind_of n.kind)) (node_of n).inputs k (ok.nodes t (node_of n) there).inputs e

    pub read-label-test : is_label_test (kind_of n.kind) ≡ true → facts_read w c t a s view ≡ facts_now g Own a (pos s) (option_map input_of (slice_get n.inputs 0))
    unfolding places
    read-label-test e =
        let f = label-test-is (kind_of n.kind) e in
        let second : slice_get (places (kind_of n.kind)) 1 ≡ None = rw f.1 refl in
        let third : slice_get (places (kind_of n.kind)) 2 ≡ None = rw f.1 refl in
        read-kind (kinds.LabelTest f.0) f.1 ∙ over-read n (facts_now g Own a (pos s))
        ∙ rw (alone 1 second, alone 2 third) (append-nil _ ∙ append-nil _)

    -- the input on the first session of the period
    pub read-period : (f : Frequency) (start : ℕ) → kind_of n.kind ≡ kinds.Downsample f → pos start ≡ period_start f w.sessions.now (pos s)
        → facts_read w c t a s view ≡ facts_now g Own a (pos start) (option_map input_of (slice_get n.inputs 0))
    unfolding places
    read-period f start e h =
        let second : slice_get (places (kind_of n.kind)) 1 ≡ None = rw e refl in
        let third : slice_get (places (kind_of n.kind)) 2 ≡ None = rw e refl in
        read-kind (kinds.Downsample f) e ∙ over-read n (facts_now g Own a (period_start f w.sessions.now (pos s)))
        ∙ rw (alone 1 second, alone 2 third) (append-nil _ ∙ append-nil _)
        ∙ ap (λ z. facts_now g Own a z (option_map input_of (slice_get n.inputs 0))) (sym h)

    -- a cross-section has one input
    pub section-alone : is_section (kind_of n.kind) ≡ true → (slice_get (node_of n).inputs 1 ≡ None) × (slice_get (node_of n).inputs 2 ≡ None)
    unfolding node_of
    section-alone e =
        let f = section-is (kind_of n.kind) e in
        let all = (ok.nodes t (node_of n) there).inputs in
        (no-input (graph_of c.graph) (places (kind_of n.kind)) (node_of n).inputs 1 all (rw f.1 (one-place f.0).0), no-input (graph_of c.graph) (places (kind_of n.kind)) (node_of n).inputs 2 all (rw f.1 (one-place f.0).1))

-- ---- what a node mentions stands in the graph

some-term : (o : Option TermId) (b : ℕ) → ((k : ℕ) → option_map number_of o ≡ Some k → k < b) → IfSome o (λ u. u.0 < b)
some-term None b h = tt
some-term (Some u) b h = h u.0 refl

module _ (c : Parts) (ok : IsChecked (pipeline_of c)) (t : ℕ) (n : Node) (is : slice_get c.graph t ≡ Some n) where
  below : spec.MentionsBelow (node_of n) t
  below = ok.graph.lower t (node_of n) (graph-at c.graph t n is)

  pub input-within : (u : TermId) → slice_get n.inputs 0 ≡ Some (input.Term u) → u.0 < length c.graph
  input-within u e =
      let l = below.inputs 0 u.0 (inputs-at n 0 ∙ ap (option_map input_of) e) in
      omega (arith, l, slice_get_within c.graph t n is)

  input-in : (k : ℕ) (o : Option Input) → slice_get n.inputs k ≡ o → IsInGraph c o
  input-in k None e = tt
  input-in k (Some (input.Column q)) e = tt
  input-in k (Some (input.Term u)) e =
      let l = below.inputs k u.0 (inputs-at n k ∙ ap (option_map input_of) e) in
      omega (arith, l, slice_get_within c.graph t n is)

  -- so do all inputs
  pub inputs-within : AreInGraph c n
  inputs-within = record { first = input-in 0 (slice_get n.inputs 0) refl; second = input-in 1 (slice_get n.inputs 1) refl; third = input-in 2 (slice_get n.inputs 2) refl }

  pub one-within : (k : ℕ) (o : Option Input) → o ≡ slice_get n.inputs k → IsInGraph c o
  one-within k o e = input-in k o (sym e)

  pub mask-within : IfSome n.mask (λ u. u.0 < length c.graph)
  unfolding node_of
  mask-within = some-term n.mask (length c.graph) (λ k e. omega (arith, below.mask k e, slice_get_within c.graph t n is))

  pub group-within : IfSome n.group (λ u. u.0 < length c.graph)
  unfolding node_of
  group-within = some-term n.group (length c.graph) (λ k e. omega (arith, below.group k e, slice_get_within c.graph t n is))

-- ---- the premises, mask first

pub premises-lacks : (w : World) (c : Parts) → IsChecked (pipeline_of c) → (t a s : ℕ) (view : Option ℕ) → t < length c.graph → exists (world_of w) a (pos s) ≡ false
    → own_facts w c t a s view ≡ []
premises-lacks w c ok t a s view h gone = let n = code-node c.graph t h in premises-none w c ok t n.0 n.1 a s view gone

pub premises-front : (w : World) (c : Parts) (ok : IsChecked (pipeline_of c)) (t : ℕ) (n : Node) (is : slice_get c.graph t ≡ Some n) (a s : ℕ) (view : Option ℕ) → HasTexts (world_of w) → exists (world_of w) a (pos s) ≡ true
    → (rest : List Fact) × (own_facts w c t a s view ≡ number_facts a (pos s) (option_map number_of n.mask) ++ rest)
premises-front w c ok t n is a s view known there =
    (if mask_passes w c n.mask a s then facts_read w c t a s view else [], premises-masked w c ok t n is a s view known there (mask_passes w c n.mask a s) refl)

-- ---- what is given of a value

-- an asset that does not exist does not pass either
not-kept : (w : World) (c : Parts) (o : Option ℕ) (a s : ℕ) → exists (world_of w) a (pos s) ≡ false → is_kept (world_of w) (pipeline_of c) (a ∷ []) o 0 s ≡ false
not-kept w c None a s e = e
not-kept w c (Some m) a s e = rw e refl

module _ {b : Basis} {t col s : ℕ} (asked : IsAskedAt b col s) (term : t < length b.checked.now.graph) (view : Option ℕ) where
  abbrev cell : ℤ
  cell = seen_value_in b t col s view

  abbrev own : List Fact
  own = own_facts b.world b.checked.now t (sid_in b col) s view

  abbrev IsOwn : Option ℤ → Type 0
  IsOwn o = IsGiven IsCell b.stated.now own cell o

  -- of an asset that does not exist
  module _ (ns : List Node) (same : ns ≡ b.checked.now.graph) (v : ℤ) (e : v ≡ number_in_value (empty (sort_kind (term_at (graph_of ns) t)))) where
    none : IsCell v
    none = subst IsCell (sym e) (empty-cell (sort_kind (term_at (graph_of ns) t)))

    empty-is : (n : Node) → slice_get b.checked.now.graph t ≡ Some n → is_kept (world_of b.world) (pipeline_of b.checked.now) (sid_in b col ∷ []) (option_map number_of n.mask) 0 s ≡ false → v ≡ cell
    empty-is n is gone =
        e ∙ ap (λ m. number_in_value (empty (sort_kind (term_at (graph_of m) t)))) same
        ∙ sym (seen-unkept b.world b.checked.now asked.on.ready.checked t n is (sid_in b col) s view gone)

    pub gone-stated : exists (world_of b.world) (sid_in b col) (pos s) ≡ false → IsOwn (Some v)
    gone-stated gone =
        let n = code-node b.checked.now.graph t term in
        accepted b.stated.now [] own cell v (premises-lacks b.world b.checked.now asked.on.ready.checked t (sid_in b col) s view term gone) refl
        (empty-is n.0 n.1 (not-kept b.world b.checked.now (option_map number_of n.0.mask) (sid_in b col) s gone)) none

    -- or does not pass the mask
    pub barred-stated : (n : Node) → slice_get b.checked.now.graph t ≡ Some n → exists (world_of b.world) (sid_in b col) (pos s) ≡ true
        → (o : Option Bool) → o ≡ given b.stated.now (number_facts (sid_in b col) (pos s) (option_map number_of n.mask)) (mask_passes b.world b.checked.now n.mask (sid_in b col) s) → o ≡ Some false → IsOwn (Some v)
    barred-stated n is there o h f =
        let mask = number_facts (sid_in b col) (pos s) (option_map number_of n.mask) in
        let read = given-some b.stated.now mask (mask_passes b.world b.checked.now n.mask (sid_in b col) s) false o h f in
        accepted b.stated.now (mask ++ []) own cell v (premises-masked b.world b.checked.now asked.on.ready.checked t n is (sid_in b col) s view asked.on.ready.texts there false (sym read.1))
        (both-stated b.stated.now mask [] read.0 refl)
        (empty-is n is (kept-mask b.world b.checked.now asked.on.ready.checked t n is (sid_in b col) s n.mask false there (sym read.1))) none

  module _ (n : Node) (is : slice_get b.checked.now.graph t ≡ Some n) (there : exists (world_of b.world) (sid_in b col) (pos s) ≡ true) (o : Option Bool)
      (h : o ≡ given b.stated.now (number_facts (sid_in b col) (pos s) (option_map number_of n.mask)) (mask_passes b.world b.checked.now n.mask (sid_in b col) s)) where
    abbrev mask : List Fact
    mask = number_facts (sid_in b col) (pos s) (option_map number_of n.mask)

    -- where the mask is not stated
    pub mask-lacks : o ≡ None → IsOwn None
    mask-lacks f =
        let front = premises-front b.world b.checked.now asked.on.ready.checked t n is (sid_in b col) s view asked.on.ready.texts there in
        refused b.stated.now (mask ++ front.0) own cell None front.1 (front-lacks b.stated.now mask front.0 (given-none b.stated.now mask (mask_passes b.world b.checked.now n.mask (sid_in b col) s) o h f)) refl

    -- where the asset passes it
    pub passed-kept : o ≡ Some true → IsKeptAt b t col s
    passed-kept f =
        let read = given-some b.stated.now mask (mask_passes b.world b.checked.now n.mask (sid_in b col) s) true o h f in
        record { at = asked; term = term; kept = cell-kept b.world b.checked.now asked.on.ready.checked t n is (sid_in b col) s there (sym read.1) }

    pub passed-stated : o ≡ Some true → (q : Option ℤ) → IsGiven IsCell b.stated.now (seen_facts_in b t col s view) cell q → IsOwn q
    passed-stated f q k =
        let read = given-some b.stated.now mask (mask_passes b.world b.checked.now n.mask (sid_in b col) s) true o h f in
        let all = premises-masked b.world b.checked.now asked.on.ready.checked t n is (sid_in b col) s view asked.on.ready.texts there true (sym read.1) in
        record {
          value = k.value ∙ given-behind b.stated.now mask (seen_facts_in b t col s view) cell read.0 ∙ ap (λ fs. given b.stated.now fs cell) (sym all);
          such = k.such;
        }
