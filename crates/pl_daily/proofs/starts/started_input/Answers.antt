use Rattle.std.proofs.Common.{rules, ◌≡◌, ℕ, false, sym, ◌∙◌, ap, None, Some, option_map, slice_get, FitsSigned, w32}
use Rattle.std.proofs.lemmas.Int.{to_z-of_z}
use Rattle.pl_spec.specs.declared.Frequency.{Frequency}
use Rattle.pl_pipeline.specs.Kind.Kind.{Downsample}
use Rattle.pl_terms.specs.declared.node.TermId.{TermId}
use Rattle.pl_terms.specs.Nodes.{node_of, number_of}
use Rattle.pl_terms.specs.Sorts.{is_downsampled}
use Rattle.pl_terms.proofs.Graphs.{graph-at}
use Rattle.pl_daily.specs.Terms.{Downsamples, begins, pipeline_at}
use Rattle.pl_daily.proofs.Downsampled.{by_frequency, if_none, if_some, is_downsampled_by, kind_is, no_input, no_kind, none_is}
use Rattle.pl_daily.proofs.Placed.{input_used}
use Rattle.pl_daily.proofs.starts.started_input.Goals as goal

pub returns-in_err-frequency-clause-none : goal.returns-in_err-frequency-clause-none
returns-in_err-frequency-clause-none c =
    let l = c.args.lent.now in
    let p = pipeline_at l in
    let k = c.args.term.0 in
    let n = c.node-node.result.now in
    let at = graph-at l.checked.now.graph k n (ap (λ g. slice_get g k) (sym c.graph.ensures.value) ∙ c.node-node.ensures) in
    let every : (f : Frequency) (u : ℕ) → Downsamples p k f u → begins f l.last l.day ≡ false =
    λ f u down. absurd (no_kind p k (node_of n) f u at (ap is_downsampled (kind_is n) ∙ c.in_err-frequency.ensures.none) down) in
    if_none c.from_residual.result _ every

pub returns-then-begins_period : goal.returns-then-begins_period
returns-then-begins_period c =
    let l = c.args.lent.now in
    let p = pipeline_at l in
    let k = c.args.term.0 in
    let n = c.node-node.result.now in
    let f = c.in_ok-frequency.frequency in
    let at = graph-at l.checked.now.graph k n (ap (λ g. slice_get g k) (sym c.graph.ensures.value) ∙ c.node-node.ensures) in
    let kind : (node_of n).kind ≡ Downsample f = kind_is n ∙ c.in_ok-frequency.ensures.some in
    let fits : FitsSigned w32 c.args.lent.now.day = search rules in
    let tells = simp to_z-of_z at c.begins_period.ensures in
    let down : (input : TermId) → c.first_term.result ≡ Some input → Downsamples p k f input.0
    = λ input is. is_downsampled_by p k (node_of n) f input.0 c.requires.used at kind (sym c.first_term.ensures ∙ ap (option_map number_of) is) in
    let every : c.first_term.result ≡ None → (f : Frequency) (u : ℕ) → Downsamples p k f u → begins f l.last l.day ≡ false =
    λ is f u down. absurd (no_input p k (node_of n) f u at (sym c.first_term.ensures ∙ ap (option_map number_of) is) down) in
    record {
      some = if_some c.first_term.result _ (λ input is. (f, down input is, sym tells ∙ c.if-begins_period.true));
      below = if_some c.first_term.result _ (λ input is. let x = input_used p k f input.0 c.graph.ensures.checked (down input is) in (x.0, x.2));
      none = none_is c.first_term.result _ every;
    }

pub returns-else-begins_period-clause-none : goal.returns-else-begins_period-clause-none
returns-else-begins_period-clause-none c f u down =
    let l = c.args.lent.now in
    let p = pipeline_at l in
    let k = c.args.term.0 in
    let n = c.node-node.result.now in
    let at = graph-at l.checked.now.graph k n (ap (λ g. slice_get g k) (sym c.graph.ensures.value) ∙ c.node-node.ensures) in
    let kind : (node_of n).kind ≡ Downsample c.in_ok-frequency.frequency = kind_is n ∙ c.in_ok-frequency.ensures.some in
    let fits : FitsSigned w32 c.args.lent.now.day = search rules in
    let tells = simp to_z-of_z at c.begins_period.ensures in
    ap (λ x. begins x l.last l.day) (sym (by_frequency p k (node_of n) c.in_ok-frequency.frequency f u at kind down)) ∙ sym tells ∙ c.if-begins_period.false
