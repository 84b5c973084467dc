-- Facts that are put after others, and what may stand in a derivation.
use Rattle.std.proofs.Common.{◌≡◌, ℕ, ◌+◌, ◌-◌, ◌<◌, ◌≤◌, Bool, true, false, not, cond, ℤ, pos, ◌<ℤ◌, ◌≤ℤ◌, zero, suc, IfSome, refl, AllPairs, List, [], ◌∷◌, ◌++◌, length, map, take, filter, flat_map, Option, Some, None, option_map, slice_get, get_or, sym, ◌∙◌, ap, subst, arith, append_assoc, append-nil}
use Rattle.std.specs.List.{range_with_len}
use Rattle.std.specs.Int.RustNames.{int_lt}
use Rattle.std.proofs.lemmas.Int.{ints}
use Rattle.std.proofs.lemmas.Bool.{and_parts}
use Rattle.std.proofs.lemmas.Grind.{flat_map-append}
use Rattle.std.proofs.lemmas.List.Elements.{filter-append}
use Rattle.std.proofs.lemmas.List.{take_more, take_all, map-append}
use Rattle.std.proofs.lemmas.List.FromFn.{map-range_with_len_more}
use Rattle.std.proofs.lemmas.Option.{slice_get_within}
use Rattle.pl_spec.specs.declared.AssetRow.{AssetRow}
use Rattle.pl_spec.specs.Parts.{sid_at}
use Rattle.pl_pipeline.specs.Term as spec
use Rattle.pl_pipeline.specs.Term.{tree_over, trees, term_at}
use Rattle.pl_pipeline.specs.Graph.{reach}
use Rattle.pl_pipeline.specs.Value.{Own, is_steady}
use Rattle.pl_pipeline.specs.Reaching.{HasWindows}
use Rattle.pl_pipeline.proofs.Trees.{term_at-node}
use Rattle.pl_terms.proofs.Windowed.{windowed}
use Rattle.pl_terms.specs.declared.node.Input.{Input}
use Rattle.pl_terms.specs.declared.node.Input.TheVariants as input
use Rattle.pl_terms.specs.declared.node.Node.{Node}
use Rattle.pl_terms.specs.Checked.{Parts, pipeline_of, IsChecked}
use Rattle.pl_terms.specs.Nodes.{node_of, input_of, number_of}
use Rattle.pl_terms.specs.Uses.{is_used}
use Rattle.pl_terms.proofs.Graphs.{graph-long, used-within}
use Rattle.pl_derivation.specs.Facts.{Fact, number_in, premises, value_fact, over_inputs, entry_facts, facts_now, number_facts}
use Rattle.pl_derivation.specs.Right.{has_sid, is_fitting}
use Rattle.pl_derivation.specs.Walks.{depth_of}
use Rattle.pl_derivation.proofs.Truths.{and4}
use Rattle.pl_derivation.proofs.Fits.{HasSessions, premises_ready}
use Rattle.pl_spec.proofs.Each.{Each}
use Rattle.pl_spec.proofs.Columns.{no_asset, sid-there}
use Rattle.pl_explain.specs.declared.fact.Fact as code
use Rattle.pl_explain.specs.Keys.{fact_of}
use Rattle.pl_world.specs.declared.world.World.{World}
use Rattle.pl_world.specs.Worlds.{world_of, IsMade}
use Rattle.pl_world.specs.Evaluations.{IsAsked, IsAskedInput}
use Rattle.pl_explain.specs.Reading.{AreInGraph, ArePut, IsInGraph, IsRoomy}
use Rattle.pl_world.specs.Views.{view_at, seen_in}
use Rattle.pl_world.proofs.Views.{own-cell}
use Rattle.pl_explain.specs.Given.{own_facts}
use Rattle.pl_explain.specs.Walking.{HasDay, MayBeDerived, CanBeDerivedWithin}
use Rattle.pl_explain.proofs.Values.{over-read}

-- ---- putting

pub put-both : (old mid new : List code.Fact) (fs gs : List Fact) → ArePut old mid fs → ArePut mid new gs → ArePut old new (fs ++ gs)
put-both old mid new fs gs a b = b ∙ ap (λ l. l ++ gs) a ∙ append_assoc (map fact_of old) fs gs

pub put-one : (old new : List code.Fact) (f : code.Fact) → new ≡ old ++ f ∷ [] → ArePut old new (fact_of f ∷ [])
put-one old new f e = ap (map fact_of) e ∙ map-append fact_of old (f ∷ [])

pub put-three : (a b c d : List code.Fact) (fs gs hs : List Fact) → ArePut a b fs → ArePut b c gs → ArePut c d hs → ArePut a d (fs ++ gs ++ hs)
put-three a b c d fs gs hs x y z = put-both a c d (fs ++ gs) hs (put-both a b c fs gs x y) z

-- those of its inputs, one after the other
pub inputs-put : (n : Node) (f : Option spec.Input → List Fact) (o p q : Option Input) (a b c d : List code.Fact) → o ≡ slice_get n.inputs 0 → p ≡ slice_get n.inputs 1 → q ≡ slice_get n.inputs 2
    → ArePut a b (f (option_map input_of o)) → ArePut b c (f (option_map input_of p)) → ArePut c d (f (option_map input_of q)) → ArePut a d (over_inputs f (node_of n))
inputs-put n f o p q a b c d x y z h k l =
    let first = subst (λ o. ArePut a b (f (option_map input_of o))) x h in
    let second = subst (λ o. ArePut b c (f (option_map input_of o))) y k in
    let third = subst (λ o. ArePut c d (f (option_map input_of o))) z l in
    put-three a b c d (f (option_map input_of (slice_get n.inputs 0))) (f (option_map input_of (slice_get n.inputs 1))) (f (option_map input_of (slice_get n.inputs 2))) first second third
    ∙ ap (λ fs. map fact_of a ++ fs) (sym (over-read n f))

-- the mask, the group and the inputs of an asset
pub entry-put : (g : spec.Graph) (n : Node) (b : ℕ) (d : ℤ) (x y z u : List code.Fact) → ArePut x y (number_facts b d (option_map number_of n.mask)) → ArePut y z (number_facts b d (option_map number_of n.group))
    → ArePut z u (over_inputs (facts_now g Own b d) (node_of n)) → ArePut x u (entry_facts g (node_of n) d b)
unfolding node_of
entry-put g n b d x y z u h k l = put-three x y z u (number_facts b d (option_map number_of n.mask)) (number_facts b d (option_map number_of n.group)) (over_inputs (facts_now g Own b d) (node_of n)) h k l

-- one more of a row
pub run-more : (f : ℕ → Fact) (first s : ℕ) → first ≤ s → (old now new : List code.Fact) → ArePut old now (map f (range_with_len first (s - first))) → ArePut now new (f s ∷ [])
    → ArePut old new (map f (range_with_len first ((s + 1) - first)))
run-more f first s from old now new a b =
    let at : first + (s - first) ≡ s = omega (arith, from) in
    let next : (s + 1) - first ≡ (s - first) + 1 = omega (arith, from) in
    put-both old now new (map f (range_with_len first (s - first))) (f s ∷ []) a b
    ∙ ap (λ l. map fact_of old ++ l) (sym (map-range_with_len_more f first (s - first) s at) ∙ ap (λ n. map f (range_with_len first n)) (sym next))

-- at the end all are there
pub run-all : (f : ℕ → Fact) (first at size : ℕ) (old new : List code.Fact) (fs : List Fact) → at - first ≡ size → fs ≡ map f (range_with_len first size)
    → ArePut old new (map f (range_with_len first (at - first))) → ArePut old new fs
run-all f first at size old new fs long is a = a ∙ ap (λ l. map fact_of old ++ l) (ap (λ n. map f (range_with_len first n)) long ∙ sym is)

-- ---- cross-sections, asset by asset

module _ (g : ℕ → List Fact) (q : ℕ → Bool) (assets : List AssetRow) where
  abbrev pub entries_of : List AssetRow → List Fact
  entries_of rows = flat_map g (filter q (map (λ a. a.sid) rows))

  module _ (i : ℕ) (inside : i < length assets) where
    taken : entries_of (take (i + 1) assets) ≡ entries_of (take i assets) ++ flat_map g (cond (q (sid_at assets i)) (sid_at assets i ∷ []) [])
    taken =
        ap entries_of (take_more assets i no_asset inside)
        ∙ ap (λ l. flat_map g (filter q l)) (map-append (λ (a : AssetRow). a.sid) (take i assets) (get_or assets i no_asset ∷ []))
        ∙ ap (λ a. flat_map g (filter q (map (λ (a : AssetRow). a.sid) (take i assets) ++ a ∷ []))) (sym (sid-there assets i inside))
        ∙ ap (flat_map g) (filter-append q (map (λ (a : AssetRow). a.sid) (take i assets)) (sid_at assets i ∷ []))
        ∙ flat_map-append g (filter q (map (λ (a : AssetRow). a.sid) (take i assets))) (cond (q (sid_at assets i)) (sid_at assets i ∷ []) [])

    -- of an asset that does not exist there is nothing
    pub entry-none : q (sid_at assets i) ≡ false → entries_of (take (i + 1) assets) ≡ entries_of (take i assets)
    entry-none e = taken ∙ ap (λ b. entries_of (take i assets) ++ flat_map g (cond b (sid_at assets i ∷ []) [])) e ∙ append-nil (entries_of (take i assets))

    pub entry-more : q (sid_at assets i) ≡ true → entries_of (take (i + 1) assets) ≡ entries_of (take i assets) ++ g (sid_at assets i)
    entry-more e = taken ∙ ap (λ b. entries_of (take i assets) ++ flat_map g (cond b (sid_at assets i ∷ []) [])) e ∙ ap (λ l. entries_of (take i assets) ++ l) (append-nil (g (sid_at assets i)))

  pub entries-all : (i : ℕ) → length assets ≤ i → entries_of (take i assets) ≡ entries_of assets
  entries-all i l = ap entries_of (take_all i assets l)

-- ---- what may stand

-- a window that is asked for has room
pub roomy : (w : World) (c : Parts) (o : Option Input) (size s : ℕ) → IsAskedInput w c o size s → IsRoomy o size s
roomy w c None size s h = tt
roomy w c (Some (input.Column k)) size s h = h
roomy w c (Some (input.Term u)) size s h = h.0

pub sessions-held : (c : Parts) → IsChecked (pipeline_of c) → HasSessions (pipeline_of c).graph
sessions-held c checked k n e =
    let all : HasWindows (term_at (pipeline_of c).graph k) = windowed (pipeline_of c) checked k in
    let held : HasWindows (tree_over (trees (pipeline_of c).graph) n) = rw (term_at-node (pipeline_of c).graph k n checked.graph e) at all in
    held.0

-- an input of a node whose inputs stand in the graph
pub in-place : (c : Parts) (n : Node) → AreInGraph c n → (k : ℕ) (o : Option Input) → o ≡ slice_get n.inputs k → k < 3 → IsInGraph c o
in-place c n h zero o e l = subst (IsInGraph c) (sym e) h.first
in-place c n h (suc zero) o e l = subst (IsInGraph c) (sym e) h.second
in-place c n h (suc (suc zero)) o e l = subst (IsInGraph c) (sym e) h.third
in-place c n h (suc (suc (suc k))) o e l = absurd (omega (arith, l))

-- what may be said of a value that may stand
record MayBeSeen (w : World) (c : Parts) (t a s : ℕ) (view : Option ℕ) : Type 0 where
  sid : has_sid (world_of w) a ≡ true
  used : is_used (pipeline_of c) t ≡ true
  day : HasDay (world_of w) (pos s)
  reaches : pos 0 ≤ℤ reach (world_of w).days (term_at (pipeline_of c).graph t) (pos s)
  from : IfSome view (λ v. HasDay (world_of w) (pos v))

may-be : (w : World) (c : Parts) (t a s : ℕ) (view : Option ℕ) → MayBeDerived w c (value_fact t a (pos s) (view_at view)) → MayBeSeen w c t a s view
may-be w c t a s None h =
    let fit = and_parts (has_sid (world_of w) a) (is_used (pipeline_of c) t) h.0 in
    record { sid = fit.0; used = fit.1; day = h.1; reaches = h.2; from = tt }
may-be w c t a s (Some v) h =
    let fit = and4 (has_sid (world_of w) a) (is_used (pipeline_of c) t) (not (is_steady (term_at (pipeline_of c).graph t))) (int_lt (pos s) (pos v)) h.0 in
    record { sid = fit.0; used = fit.1; day = h.1; reaches = h.3; from = h.2 }

within-days : (w : World) (d : ℕ) → HasDay (world_of w) (pos d) → d < length w.sessions.now
within-days w d h = let l = slice_get_within w.sessions.now h.0 h.1 h.3 in let e : pos d ≡ pos h.0 = h.2 in omega (arith, ints, l, e)

-- a value's premises are those of its fact
pub facts-of : (w : World) (c : Parts) (t a s : ℕ) (view : Option ℕ)
    → premises (world_of w) (pipeline_of c) (number_in (world_of w) (pipeline_of c)) (value_fact t a (pos s) (view_at view)) ≡ own_facts w c t a s view
facts-of w c t a s None = refl
facts-of w c t a s (Some v) = refl

pub depth-of : (t a s : ℕ) (view : Option ℕ) → depth_of (value_fact t a (pos s) (view_at view)) ≡ suc (suc t)
depth-of t a s None = refl
depth-of t a s (Some v) = refl

-- and its number is what the term is seen as
pub number-of : (w : World) (c : Parts) (t a s : ℕ) (view : Option ℕ) → seen_in w c t view a s ≡ number_in (world_of w) (pipeline_of c) (value_fact t a (pos s) (view_at view))
number-of w c t a s None = own-cell w c t a s
number-of w c t a s (Some v) = refl

module _ (w : World) (c : Parts) (checked : IsChecked (pipeline_of c)) (t a s : ℕ) (view : Option ℕ) (h : MayBeDerived w c (value_fact t a (pos s) (view_at view))) where
  abbrev fact : Fact
  fact = value_fact t a (pos s) (view_at view)

  seen : MayBeSeen w c t a s view
  seen = may-be w c t a s view h

  -- the premises of a value that may stand may stand
  pub premises-stand : Each (CanBeDerivedWithin w c (t + 1)) (own_facts w c t a s view)
  premises-stand =
      let deep = depth-of t a s view in
      subst (λ fs. Each (CanBeDerivedWithin w c (t + 1)) fs) (facts-of w c t a s view)
      (premises_ready (world_of w) (pipeline_of c) checked.graph (sessions-held c checked) (number_in (world_of w) (pipeline_of c)) fact (t + 1) h (omega (arith, deep)))

  pub worth-within : t < length c.graph
  worth-within = let u = used-within (pipeline_of c) t seen.used in let long = graph-long c.graph in omega (arith, u, long)

  pub worth-day : s < length w.sessions.now
  worth-day = within-days w s seen.day

  pub view-within : (v : ℕ) → view ≡ Some v → v < length w.sessions.now
  view-within v e = within-days w v (subst (λ o. IfSome o (λ v. HasDay (world_of w) (pos v))) e seen.from)

  pub worth-sid : has_sid (world_of w) a ≡ true
  worth-sid = seen.sid

  pub worth-fits : is_fitting (world_of w) (pipeline_of c) fact ≡ true
  worth-fits = there view h
    where
      there : (o : Option ℕ) → MayBeDerived w c (value_fact t a (pos s) (view_at o)) → is_fitting (world_of w) (pipeline_of c) (value_fact t a (pos s) (view_at o)) ≡ true
      there None h = h.0
      there (Some v) h = h.0

  pub worth-asked : IsMade w → AllPairs (λ a b. a <ℤ b) w.sessions.now → IsAsked w c t s
  worth-asked made days = record { made = made; term = worth-within; within = worth-day; days = days; reaches = seen.reaches }
