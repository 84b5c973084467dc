use Rattle.std.proofs.Common.{◌∙◌, ap, sym, slice_get}
use Rattle.pl_terms.specs.Checked.{pipeline_of}
use Rattle.pl_terms.proofs.Graphs.{graph-at}
use Rattle.pl_world.proofs.Counted.{name-none, name-some, unused}
use Rattle.pl_world.proofs.present.number_name.Goals as goal

pub returns-then-is_used-clause-some : goal.returns-then-is_used-clause-some
returns-then-is_used-clause-some c =
    let checked = c.args.checked.now in
    let at = graph-at checked.graph c.args.t.0 c.node-node.result.now (ap (λ ns. slice_get ns c.args.t.0) (sym c.graph.ensures.value) ∙ c.node-node.ensures) in
    name-some (pipeline_of checked) c.args.t.0 c.node-node.result.now at (sym c.is_used.ensures ∙ c.if-is_used.true) c.name_in.result c.name_in.ensures.some

pub returns-then-is_used-clause-none : goal.returns-then-is_used-clause-none
returns-then-is_used-clause-none c =
    let checked = c.args.checked.now in
    let at = graph-at checked.graph c.args.t.0 c.node-node.result.now (ap (λ ns. slice_get ns c.args.t.0) (sym c.graph.ensures.value) ∙ c.node-node.ensures) in
    name-none (pipeline_of checked) c.args.t.0 c.node-node.result.now at (sym c.is_used.ensures ∙ c.if-is_used.true) c.name_in.result c.name_in.ensures.none

pub returns-else-is_used-clause-none : goal.returns-else-is_used-clause-none
returns-else-is_used-clause-none c = unused (pipeline_of c.args.checked.now) c.args.t.0 (sym c.is_used.ensures ∙ c.if-is_used.false)
