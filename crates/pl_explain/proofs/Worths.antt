-- What a kind gives by what is stated, where the asset is kept.
use Rattle.std.proofs.Common.{◌≡◌, ℕ, ◌+◌, ◌<◌, ◌≤◌, true, false, ℤ, pos, List, [], ◌∷◌, All, Option, Some, None, option_map, slice_get, refl, sym, ◌∙◌, ap, subst, arith, inl, inr}
use Rattle.std.proofs.lemmas.Bool.{true≢false, cases_lt}
use Rattle.pl_spec.specs.Rounding.{IsCell}
use Rattle.pl_spec.specs.World.{World as SpecWorld, known_number, label_at}
use Rattle.pl_spec.specs.declared.Frequency.{Frequency}
use Rattle.pl_spec.specs.Periods.{period_start}
use Rattle.pl_spec.specs.declared.Figure.{Figure}
use Rattle.pl_pipeline.specs.Value.{name_at, Own, From}
use Rattle.pl_pipeline.specs.Kind as kinds
use Rattle.pl_pipeline.specs.Term as spec
use Rattle.pl_terms.specs.declared.node.Input.{Input}
use Rattle.pl_terms.specs.declared.node.Node.{Node}
use Rattle.pl_terms.specs.Kinds.{kind_of}
use Rattle.pl_terms.specs.Nodes.{node_of, input_of}
use Rattle.pl_terms.specs.Checked.{pipeline_of}
use Rattle.pl_terms.specs.Sorts.{is_windowed}
use Rattle.pl_terms.proofs.Graphs.{graph-at}
use Rattle.pl_pointwise.specs.Operands.{IsOperation, AreOperands, operation}
use Rattle.pl_values.specs.Families.{windowed, TakesWindows, sid_flag, label_code, IsCode, code_flag, is_label_test, is_point, is_sids}
use Rattle.pl_values.proofs.Given.{window-input}
use Rattle.pl_derivation.specs.Facts.{Fact, over_inputs, facts_now, window_facts}
use Rattle.pl_world.specs.Worlds.{world_of}
use Rattle.pl_world.specs.Evaluations.{input_cell_in}
use Rattle.pl_values.specs.Views.{keeps_kind}
use Rattle.pl_world.specs.Views.{view_at, window_view, operand_view, input_seen_in, window_seen_in}
use Rattle.pl_world.proofs.Views.{own-input}
use Rattle.pl_world.proofs.Seen.{seen-stays, seen-windows, seen-point}
use Rattle.pl_world.proofs.Asked.{inputs-at}
use Rattle.pl_world.proofs.Evaluated.{windowed-is, point-is, constant-given, sid-given, label-given, number-given, label-test-given, start-given}
use Rattle.pl_explain.specs.declared.basis.Basis.{Basis}
use Rattle.pl_explain.specs.declared.fact_numbers.FactNumbers.{FactNumbers}
use Rattle.pl_explain.specs.Given.{facts_in, given, has_all, seen_facts_in, seen_value_in, sid_in, value_in, IsGiven, IsKeptAt}
use Rattle.pl_explain.specs.Reading.{end_of}
use Rattle.pl_explain.proofs.Given.{got, lacked, refused, accepted}
use Rattle.pl_explain.proofs.Facts.{end-near, window-early}
use Rattle.pl_explain.proofs.Values.{read-kind, read-sids, read-kept, read-windows, read-point, read-label-test, read-period, inputs-stated, input-lacks, same-stated}

-- a window that is stated begins at no session below 0
in-time : (stated : FactNumbers) (g : spec.Graph) (o : Option Input) (i : spec.Input) → option_map input_of o ≡ Some i → (size a s v : ℕ)
    → has_all stated (window_facts g (From (pos v)) size a (pos s) (option_map input_of o)) ≡ true → size ≤ s + 1
in-time stated g o i e size a s v h = elim (cases_lt (end_of i s) size) [
  | inl l ↦ absurd (true≢false (sym (ap (λ p. has_all stated (window_facts g (From (pos v)) size a (pos s) p)) (sym e) ∙ h) ∙ window-early stated g i a s v size l))
  | inr l ↦ (let near = end-near i s in omega (arith, l, near))
]

-- a world with nothing in it
no_world : SpecWorld
no_world = record { days = []; assets = []; labels = []; texts = []; bars = []; adjustments = []; numbers = [] }

module _ {b : Basis} {t col s : ℕ} (k : IsKeptAt b t col s) (n : Node) (is : slice_get b.checked.now.graph t ≡ Some n) where
  abbrev IsValue : Option ℤ → Type 0
  IsValue o = IsGiven IsCell b.stated.now (facts_in b t col s) (value_in b t col s) o

  abbrev g : spec.Graph
  g = (pipeline_of b.checked.now).graph

  abbrev IsSeenValue : Option ℕ → Option ℤ → Type 0
  IsSeenValue view o = IsGiven IsCell b.stated.now (seen_facts_in b t col s view) (seen_value_in b t col s view) o

  abbrev OnSession : Option ℕ → Option Input → Option ℤ → Type 0
  OnSession from i o = IsGiven IsCell b.stated.now (facts_now g (view_at from) (sid_in b col) (pos s) (option_map input_of i)) (input_seen_in b.world b.checked.now i from (sid_in b col) s) o

  abbrev OverWindow : ℕ → Option Input → Option (List ℤ) → Type 0
  OverWindow from i o = IsGiven (All IsCell) b.stated.now (window_facts g (From (pos from)) n.window (sid_in b col) (pos s) (option_map input_of i))
      (window_seen_in b.world b.checked.now n.window i (Some from) (sid_in b col) s) o

  -- what keeps its values is seen as it is
  pub kept-seen : (view : Option ℕ) → keeps_kind (kind_of n.kind) ≡ true → (o : Option ℤ) → IsValue o → IsSeenValue view o
  kept-seen view e o h = record {
    value =
        h.value
        ∙ ap (λ fs. given b.stated.now fs (value_in b t col s)) (sym (read-kept b.world b.checked.now k.at.on.ready.checked t n is (sid_in b col) s view e))
        ∙ ap (given b.stated.now (seen_facts_in b t col s view)) (seen-stays b.world b.checked.now k.at.on.ready.checked t n is (sid_in b col) s view e);
    such = h.such;
  }

  -- ---- kinds without inputs

  pub constant-stated : (v : ℤ) → kind_of n.kind ≡ kinds.Constant v → (x : ℤ) → x ≡ v → IsValue (Some x)
  constant-stated v e x same =
      let all = constant-given b.world b.checked.now k.at.on.ready.checked t n is (sid_in b col) s k.kept v e in
      accepted b.stated.now [] (facts_in b t col s) (value_in b t col s) x (read-kind b.world b.checked.now k.at.on.ready.checked t n is (sid_in b col) s None (kinds.Constant v) e) refl (same ∙ all.1) (subst IsCell (sym same) all.0)

  pub label-stated : (l : ℕ) → kind_of n.kind ≡ kinds.Label l → (x : ℤ) → x ≡ label_code (world_of b.world).texts (label_at (world_of b.world) (name_at (pipeline_of b.checked.now).names l) (sid_in b col) (pos s)) → IsCell x → IsValue (Some x)
  label-stated l e x same cell =
      accepted b.stated.now [] (facts_in b t col s) (value_in b t col s) x (read-kind b.world b.checked.now k.at.on.ready.checked t n is (sid_in b col) s None (kinds.Label l) e) refl
      (same ∙ label-given b.world b.checked.now k.at.on.ready.checked t n is (sid_in b col) s k.kept l e) cell

  pub number-stated : (f : Figure) (l : ℕ) → kind_of n.kind ≡ kinds.Number f l → (x : ℤ) → x ≡ known_number (world_of b.world) f (name_at (pipeline_of b.checked.now).names l) (sid_in b col) (pos s) → IsCell x → IsValue (Some x)
  number-stated f l e x same cell =
      accepted b.stated.now [] (facts_in b t col s) (value_in b t col s) x (read-kind b.world b.checked.now k.at.on.ready.checked t n is (sid_in b col) s None (kinds.Number f l) e) refl
      (same ∙ number-given b.world b.checked.now k.at.on.ready.checked t n is (sid_in b col) s k.kept f l e) cell

  pub sids-stated : is_sids (kind_of n.kind) ≡ true → (x : ℤ) → x ≡ sid_flag (kind_of n.kind) (sid_in b col) → IsCell x → IsValue (Some x)
  sids-stated e x same cell =
      accepted b.stated.now [] (facts_in b t col s) (value_in b t col s) x (read-sids b.world b.checked.now k.at.on.ready.checked t n is (sid_in b col) s None e) refl
      (same ∙ sid-given b.world b.checked.now k.at.on.ready.checked t n is (sid_in b col) s k.kept e) cell

  -- ---- operations

  module _ (kind : is_point (kind_of n.kind) ≡ true) (view from : Option ℕ) (seen : from ≡ operand_view (kind_of n.kind) view) where
    abbrev now : Option spec.Input → List Fact
    now o = facts_now g (view_at from) (sid_in b col) (pos s) o

    reads-now : seen_facts_in b t col s view ≡ over_inputs now (node_of n)
    reads-now = read-point b.world b.checked.now k.at.on.ready.checked t n is (sid_in b col) s view kind from seen

    pub point-lacks : (j : ℕ) → j < 3 → (i : Option Input) → i ≡ slice_get n.inputs j → OnSession from i None → (q : Option ℤ) → q ≡ None → IsSeenValue view q
    point-lacks j l i at h q e =
        refused b.stated.now (over_inputs now (node_of n)) (seen_facts_in b t col s view) (seen_value_in b t col s view) q reads-now
        (input-lacks b.stated.now n now j l (same-stated b.stated.now n now j i false at (lacked b.stated.now None h refl))) e

    pub point-stated : (i j l : Option Input) → i ≡ slice_get n.inputs 0 → j ≡ slice_get n.inputs 1 → l ≡ slice_get n.inputs 2
        → (x y z : ℤ) → OnSession from i (Some x) → OnSession from j (Some y) → OnSession from l (Some z)
        → IsOperation (kind_of n.kind) × AreOperands (kind_of n.kind) (x ∷ []) (y ∷ []) (z ∷ []) 1 × ((v : ℤ) → v ≡ operation (kind_of n.kind) x y z → IsCell v → IsSeenValue view (Some v))
    point-stated i j l first second third x y z p q r =
        let f = point-is (kind_of n.kind) kind in
        let gx = got b.stated.now (Some x) x p refl in
        let gy = got b.stated.now (Some y) y q refl in
        let gz = got b.stated.now (Some z) z r refl in
        let read = λ (o : Option Input). input_seen_in b.world b.checked.now o from (sid_in b col) s in
        let all = seen-point b.world b.checked.now k.at.on.ready.checked t n is (sid_in b col) s view k.kept f.0 f.1 from seen x y z (gx.1 ∙ ap read first) (gy.1 ∙ ap read second) (gz.1 ∙ ap read third) gx.2 gy.2 gz.2 in (
          all.0,
          all.1,
          λ v e cell. accepted b.stated.now (over_inputs now (node_of n)) (seen_facts_in b t col s view) (seen_value_in b t col s view) v reads-now
              (inputs-stated b.stated.now n now (same-stated b.stated.now n now 0 i true first gx.0) (same-stated b.stated.now n now 1 j true second gy.0) (same-stated b.stated.now n now 2 l true third gz.0)) (e ∙ all.2) cell,
        )

  -- ---- windows

  module _ (kind : is_windowed (kind_of n.kind) ≡ true) (view : Option ℕ) (from : ℕ) (seen : from ≡ window_view (kind_of n.kind) view s) where
    abbrev over : Option spec.Input → List Fact
    over o = window_facts g (From (pos from)) n.window (sid_in b col) (pos s) o

    reads-windows : seen_facts_in b t col s view ≡ over_inputs over (node_of n)
    reads-windows = read-windows b.world b.checked.now k.at.on.ready.checked t n is (sid_in b col) s view kind from seen

    pub window-lacks : (j : ℕ) → j < 3 → (i : Option Input) → i ≡ slice_get n.inputs j → has_all b.stated.now (over (option_map input_of i)) ≡ false → IsSeenValue view None
    window-lacks j l i at h =
        refused b.stated.now (over_inputs over (node_of n)) (seen_facts_in b t col s view) (seen_value_in b t col s view) None reads-windows
        (input-lacks b.stated.now n over j l (same-stated b.stated.now n over j i false at h)) refl

    early : has_all b.stated.now (over (option_map input_of (slice_get n.inputs 0))) ≡ true → n.window ≤ s + 1
    unfolding node_of
    early h =
        let f = windowed-is (kind_of n.kind) kind in
        let x = window-input no_world (pipeline_of b.checked.now) [] k.at.on.ready.checked t (node_of n) (graph-at b.checked.now.graph t n is) f.0 f.1 in
        in-time b.stated.now g (slice_get n.inputs 0) x.0 (sym (inputs-at n 0) ∙ x.1) n.window (sid_in b col) s from h

    pub windows-stated : (i j l : Option Input) → i ≡ slice_get n.inputs 0 → j ≡ slice_get n.inputs 1 → l ≡ slice_get n.inputs 2
        → (x y z : List ℤ) → OverWindow from i (Some x) → OverWindow from j (Some y) → OverWindow from l (Some z)
        → TakesWindows (kind_of n.kind) x y z × ((v : ℤ) → v ≡ windowed (kind_of n.kind) x y z → IsCell v → IsSeenValue view (Some v))
    windows-stated i j l first second third x y z p q r =
        let f = windowed-is (kind_of n.kind) kind in
        let gx = got b.stated.now (Some x) x p refl in
        let gy = got b.stated.now (Some y) y q refl in
        let gz = got b.stated.now (Some z) z r refl in
        let read = λ (o : Option Input). window_seen_in b.world b.checked.now n.window o (Some from) (sid_in b col) s in
        let own = same-stated b.stated.now n over 0 i true first gx.0 in
        let all = seen-windows b.world b.checked.now k.at.on.ready.checked t n is (sid_in b col) s view k.kept f.0 f.1 from seen (early own) x y z (gx.1 ∙ ap read first) (gy.1 ∙ ap read second) (gz.1 ∙ ap read third) gx.2 gy.2 gz.2 in (
          all.0,
          λ v e cell. accepted b.stated.now (over_inputs over (node_of n)) (seen_facts_in b t col s view) (seen_value_in b t col s view) v reads-windows
              (inputs-stated b.stated.now n over own (same-stated b.stated.now n over 1 j true second gy.0) (same-stated b.stated.now n over 2 l true third gz.0)) (e ∙ all.1) cell,
        )

  -- ---- a label's test, and the first session of a period

  module _ (kind : is_label_test (kind_of n.kind) ≡ true) (i : Option Input) (at : i ≡ slice_get n.inputs 0) where
    reads-label : facts_in b t col s ≡ facts_now g Own (sid_in b col) (pos s) (option_map input_of i)
    reads-label = read-label-test b.world b.checked.now k.at.on.ready.checked t n is (sid_in b col) s None kind ∙ ap (λ o. facts_now g Own (sid_in b col) (pos s) (option_map input_of o)) (sym at)

    pub label-test-lacks : OnSession None i None → (q : Option ℤ) → q ≡ None → IsValue q
    label-test-lacks h q e = refused b.stated.now (facts_now g Own (sid_in b col) (pos s) (option_map input_of i)) (facts_in b t col s) (value_in b t col s) q reads-label (lacked b.stated.now None h refl) e

    pub label-test-stated : (x : ℤ) → OnSession None i (Some x)
        → IsCode (world_of b.world).texts x × ((v : ℤ) → v ≡ code_flag (world_of b.world).texts (kind_of n.kind) x → IsCell v → IsValue (Some v))
    label-test-stated x h =
        let code = got b.stated.now (Some x) x h refl in
        let all = label-test-given b.world b.checked.now k.at.on.ready.checked t n is (sid_in b col) s k.kept k.at.on.ready.texts kind x (code.1 ∙ own-input b.world b.checked.now i (sid_in b col) s ∙ ap (λ o. input_cell_in b.world b.checked.now o (sid_in b col) s) at) in
        (all.0, λ v e cell. accepted b.stated.now (facts_now g Own (sid_in b col) (pos s) (option_map input_of i)) (facts_in b t col s) (value_in b t col s) v reads-label code.0 (e ∙ all.1) cell)

  pub period-stated : (f : Frequency) (start : ℕ) → kind_of n.kind ≡ kinds.Downsample f → pos start ≡ period_start f b.world.sessions.now (pos s) → (i : Option Input) → i ≡ slice_get n.inputs 0
      → (o : Option ℤ) → IsGiven IsCell b.stated.now (facts_now g Own (sid_in b col) (pos start) (option_map input_of i)) (input_seen_in b.world b.checked.now i None (sid_in b col) start) o → IsValue o
  period-stated f start kind exact i at o h = record {
    value =
        h.value
        ∙ ap (given b.stated.now (facts_now g Own (sid_in b col) (pos start) (option_map input_of i))) (own-input b.world b.checked.now i (sid_in b col) start)
        ∙ ap (λ i. given b.stated.now (facts_now g Own (sid_in b col) (pos start) (option_map input_of i)) (input_cell_in b.world b.checked.now i (sid_in b col) start)) at
        ∙ ap (given b.stated.now (facts_now g Own (sid_in b col) (pos start) (option_map input_of (slice_get n.inputs 0)))) (start-given b.world b.checked.now k.at.on.ready.checked t n is (sid_in b col) s k.kept f start kind exact)
        ∙ ap (λ fs. given b.stated.now fs (value_in b t col s)) (sym (read-period b.world b.checked.now k.at.on.ready.checked t n is (sid_in b col) s None f start kind exact));
    such = h.such;
  }
