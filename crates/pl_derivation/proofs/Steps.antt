-- A fact's premises and its single step depend on the numbers of the premises alone.
use Rattle.std.proofs.Common.{◌≡◌, ℕ, suc, Bool, true, false, if◌then◌else◌, ℤ, List, [], ◌++◌, Option, Some, None, refl, sym, ◌∙◌, ap, arith, slice_get}
use Rattle.std.proofs.lemmas.Int.{ints}
use Rattle.pl_spec.specs.declared.Column.{Column}
use Rattle.pl_spec.specs.World.{World, exists, living_sids}
use Rattle.pl_spec.specs.Window.{before, downward}
use Rattle.pl_pipeline.specs.Kind.{Kind, CrossKind}
use Rattle.pl_pipeline.specs.declared.WindowKind.{WindowKind}
use Rattle.pl_pipeline.specs.Kind.Kind.{Window, Point, LabelTest, Cross, Downsample}
use Rattle.pl_spec.specs.Periods.{period_start}
use Rattle.pl_pipeline.specs.Term.{Input, Node}
use Rattle.pl_pipeline.specs.Term.Input.{BarColumn, TermInput}
use Rattle.pl_pipeline.specs.Value.{View, Own, From, seen_from, view_of, Value, number_of, window_of, passes, kind_value}
use Rattle.pl_pipeline.specs.Value.Part.{Bars}
use Rattle.pl_pipeline.proofs.SameOperands.{Alike, AlikeEntry, passes_alike, eligible_alike}
use Rattle.pl_pipeline.specs.Text.{kind_at}
use Rattle.pl_pipeline.specs.Table.{Pipeline, in_array}
use Rattle.pl_derivation.specs.Facts.{Fact, Reading, told_fact, window_facts, facts_now, number_facts, over_inputs, entry_facts, kind_facts, value_from, column_read, input_read, number_read, operands_read, node_read, node_facts, value_facts, value_read, premises, single_step}
use Rattle.pl_derivation.specs.Facts.Fact.{Seen, TermValue, SeenValue}
use Rattle.pl_spec.proofs.Each.{Each, each_front, each_back, each_of_map, each_of_flat, each_more, each_known, map_each}

pub before-twice : (d : ℤ) (n : ℕ) → before (before d n) 1 ≡ before d (suc n)
before-twice d n = omega (arith, ints)

each_three : {X : Type 0} (P : X → Type 0) (xs ys zs : List X) → Each P (xs ++ ys ++ zs) → Each P xs × Each P ys × Each P zs
each_three P xs ys zs h =
    let front = each_front P (xs ++ ys) zs h in
    (each_front P xs ys front, each_back P xs ys front, each_back P (xs ++ ys) zs h)

module _ (w : World) (p : Pipeline) (r q : Reading) where
  abbrev Same : Fact → Type 0
  Same f = r f ≡ q f

  number_alike : (b : ℕ) (d : ℤ) (o : Option ℕ) → Each Same (number_facts b d o) → Alike (number_read w p r o) (number_read w p q o) b d
  number_alike b d None h = record { value = refl; nothing = refl }
  number_alike b d (Some t) h = record { value = ap (value_from w.texts (kind_at p.graph t)) h.0; nothing = refl }

  -- a kind that reads no bars
  abbrev IsFlat : Kind → Type 0
  IsFlat k = (s : Reading) (v : View) (d : ℤ) (c : Column) → column_read s k v d c ≡ Bars c v

  input_alike : (k : Kind) → IsFlat k → (v : View) (b : ℕ) (d e : ℤ) (o : Option Input) → Each Same (facts_now p.graph v b d o)
      → Alike (input_read w p r k v e o) (input_read w p q k v e o) b d
  input_alike k flat v b d e None h = record { value = refl; nothing = refl }
  input_alike k flat v b d e (Some (BarColumn c)) h = rw (flat r v e c, flat q v e c) (record { value = refl; nothing = refl })
  input_alike k flat v b d e (Some (TermInput t)) h = record { value = ap (value_from w.texts (kind_at p.graph t)) h.0; nothing = refl }

  window_alike : (k : WindowKind) (v : View) (size a : ℕ) (d : ℤ) (o : Option Input) → Each Same (window_facts p.graph v size a d o)
      → window_of w size (input_read w p r (Window k) v d o) a d ≡ window_of w size (input_read w p q (Window k) v d o) a d
  window_alike k v size a d None h = refl
  window_alike k v size a d (Some (BarColumn c)) h =
      map_each _ _ (downward size)
      (each_more _ _ (downward size) (λ n e. rw (before-twice d n) e)
      (each_of_map Same (λ n. Seen c a (before d (suc n)) (seen_from v d)) (downward size) h))
  window_alike k v size a d (Some (TermInput t)) h =
      map_each _ _ (downward size)
      (each_more _ _ (downward size) (λ n e. ap (λ x. number_of (value_from w.texts (kind_at p.graph t) x)) e)
      (each_of_map Same (λ n. told_fact p.graph t a (before d n) v) (downward size) h))

  module _ (n : Node) (view : View) (a : ℕ) (d : ℤ) where
    abbrev input : ℕ → Option Input
    input i = slice_get n.inputs i

    abbrev stepped : Reading → Kind → Value
    stepped s k = kind_value w p.names k n.window (operands_read w p s k n (view_of k view d) d) a d

    -- the facts of the inputs, and those of an entry, list by list
    parts : (f : Option Input → List Fact) → Each Same (over_inputs f n) → Each Same (f (input 0)) × Each Same (f (input 1)) × Each Same (f (input 2))
    parts f h = each_three Same (f (input 0)) (f (input 1)) (f (input 2)) h

    entries : (b : ℕ) → Each Same (entry_facts p.graph n d b) → Each Same (number_facts b d n.mask) × Each Same (number_facts b d n.group) × Each Same (over_inputs (facts_now p.graph Own b d) n)
    entries b h = each_three Same (number_facts b d n.mask) (number_facts b d n.group) (over_inputs (facts_now p.graph Own b d) n) h

    entry_alike : (k : CrossKind) (b : ℕ) → Each Same (entry_facts p.graph n d b) → AlikeEntry (operands_read w p r (Cross k) n Own d) (operands_read w p q (Cross k) n Own d) b d
    entry_alike k b h =
        let all = entries b h in
        record {
          first = input_alike (Cross k) (λ s v e c. refl) Own b d d (input 0) (parts (facts_now p.graph Own b d) all.2).0;
          mask = number_alike b d n.mask all.0;
          group = number_alike b d n.group all.1;
        }

    step_same : (k : Kind) → exists w a d ≡ true → Each Same (kind_facts w p.graph n k view a d) → stepped r k ≡ stepped q k
    unfolding kind_value
    step_same (Window k) e h =
        let v : View = view_of (Window k) view d in
        let all = parts (window_facts p.graph v n.window a d) h in
        rw (window_alike k v n.window a d (input 0) all.0, window_alike k v n.window a d (input 1) all.1, window_alike k v n.window a d (input 2) all.2) refl
    step_same (Point k) e h =
        let v : View = view_of (Point k) view d in
        let all = parts (facts_now p.graph v a d) h in
        rw (
          (input_alike (Point k) (λ s v e c. refl) v a d d (input 0) all.0).value,
          (input_alike (Point k) (λ s v e c. refl) v a d d (input 1) all.1).value,
          (input_alike (Point k) (λ s v e c. refl) v a d d (input 2) all.2).value,
        ) refl
    step_same (LabelTest k) e h =
        rw (input_alike (LabelTest k) (λ s v e c. refl) Own a d d (input 0) (parts (facts_now p.graph Own a d) h).0).value refl
    step_same (Cross k) e h =
        let each : Each (λ b. AlikeEntry (operands_read w p r (Cross k) n Own d) (operands_read w p q (Cross k) n Own d) b d) (living_sids w d)
        = each_more _ _ (living_sids w d) (entry_alike k) (each_of_flat Same (entry_facts p.graph n d) (living_sids w d) h) in
        let own : AlikeEntry (operands_read w p r (Cross k) n Own d) (operands_read w p q (Cross k) n Own d) a d = each_known _ (living_sids w d) a each e in
        rw (eligible_alike w w k _ _ a d own refl each, own.first.value) refl
    step_same (Downsample f) e h =
        let start : ℤ = period_start f w.days d in
        (input_alike (Downsample f) (λ s v e c. refl) Own a start d (input 0) (parts (facts_now p.graph Own a start) h).0).value
    step_same k e h = refl

    node_same : (t : ℕ) → Each Same (node_facts w p r n view a d) → (node_facts w p r n view a d ≡ node_facts w p q n view a d) × (node_read w p r t n view a d ≡ node_read w p q t n view a d)
    node_same t h = here (exists w a d) refl
      where
        passed : (b : Bool) → passes (number_read w p r n.mask) a d ≡ b → exists w a d ≡ true → Each Same (number_facts a d n.mask ++ (if b then kind_facts w p.graph n n.kind view a d else []))
            → (node_facts w p r n view a d ≡ node_facts w p q n view a d) × (node_read w p r t n view a d ≡ node_read w p q t n view a d)
        passed b f e h =
            let pass : passes (number_read w p r n.mask) a d ≡ passes (number_read w p q n.mask) a d
            = passes_alike _ _ a d (number_alike a d n.mask (each_front Same (number_facts a d n.mask) _ h)) in
            rest b f (sym pass ∙ f) (each_back Same (number_facts a d n.mask) _ h)
          where
            rest : (b : Bool) → passes (number_read w p r n.mask) a d ≡ b → passes (number_read w p q n.mask) a d ≡ b → Each Same (if b then kind_facts w p.graph n n.kind view a d else [])
                → (node_facts w p r n view a d ≡ node_facts w p q n view a d) × (node_read w p r t n view a d ≡ node_read w p q t n view a d)
            rest true f g h = let s : stepped r n.kind ≡ stepped q n.kind = step_same n.kind e h in (rw (e, f, g) refl, rw (e, f, g) s)
            rest false f g h = (rw (e, f, g) refl, rw (e, f, g) refl)

        here : (b : Bool) → exists w a d ≡ b → (node_facts w p r n view a d ≡ node_facts w p q n view a d) × (node_read w p r t n view a d ≡ node_read w p q t n view a d)
        here true e = passed (passes (number_read w p r n.mask) a d) refl e (rw e at h)
        here false e = (rw e refl, rw e refl)

  -- of the term of a number
  value_same : (t : ℕ) (view : View) (a : ℕ) (d : ℤ) → Each Same (value_facts w p r t view a d)
      → (value_facts w p r t view a d ≡ value_facts w p q t view a d) × (value_read w p r t view a d ≡ value_read w p q t view a d)
  value_same t view a d h = found (slice_get p.graph t) refl
    where
      found : (o : Option Node) → slice_get p.graph t ≡ o
          → (value_facts w p r t view a d ≡ value_facts w p q t view a d) × (value_read w p r t view a d ≡ value_read w p q t view a d)
      found None e = (rw e refl, rw e refl)
      found (Some n) e = let both = node_same n view a d t (rw e at h) in (rw e both.0, rw e both.1)

  -- Where two readings have the same numbers for the premises, these are the same and so is the step.
  pub fact_same : (f : Fact) → Each Same (premises w p r f) → (premises w p r f ≡ premises w p q f) × (single_step w p r f ≡ single_step w p q f)
  fact_same (Seen c a s d) h = (refl, refl)
  fact_same (TermValue t a d) h = let both = value_same t Own a d h in (both.0, ap (in_array w.texts) both.1)
  fact_same (SeenValue t a s d) h = let both = value_same t (From d) a s h in (both.0, ap (in_array w.texts) both.1)
