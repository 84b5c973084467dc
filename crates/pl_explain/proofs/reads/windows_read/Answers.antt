use Rattle.std.proofs.Common.{ap, pos, map, ◌++◌, ◌∙◌}
use Rattle.pl_pipeline.specs.Value.{From}
use Rattle.pl_terms.specs.Checked.{pipeline_of}
use Rattle.pl_terms.specs.Nodes.{node_of}
use Rattle.pl_derivation.specs.Facts.{over_inputs, window_facts}
use Rattle.pl_explain.specs.Keys.{fact_of}
use Rattle.pl_explain.proofs.Behind.{inputs-put}
use Rattle.pl_explain.proofs.reads.windows_read.Goals as goal

pub returns : goal.returns
returns c =
    let n = c.args.node.now in
    let f = window_facts (pipeline_of c.args.checked.now).graph (From (pos c.args.view)) n.window c.args.sid (pos c.args.session) in
    inputs-put n f c.input_at.result c.input_at-2.result c.input_at-3.result c.new-facts.result.items c.put_window.new.facts.items c.put_window-2.new.facts.items c.put_window-3.new.facts.items c.input_at.ensures c.input_at-2.ensures c.input_at-3.ensures c.in_ok-put_window.ensures c.in_ok-put_window-2.ensures c.in_ok-put_window-3.ensures
    ∙ ap (λ old. map fact_of old ++ over_inputs f (node_of n)) c.new-facts.ensures.items
