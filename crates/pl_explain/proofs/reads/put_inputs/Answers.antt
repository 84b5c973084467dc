use Rattle.std.proofs.Common.{pos, arith}
use Rattle.std.proofs.lemmas.Result.{on_ok_weaker}
use Rattle.pl_terms.specs.Checked.{pipeline_of}
use Rattle.pl_derivation.specs.Facts.{facts_now}
use Rattle.pl_world.specs.Views.{view_at}
use Rattle.pl_explain.proofs.Behind.{in-place, inputs-put}
use Rattle.pl_explain.proofs.reads.put_inputs.Goals as goal

pub returns : goal.returns
returns c =
    on_ok_weaker c.put_input-3.result (inputs-put c.args.node.now (facts_now (pipeline_of c.args.checked.now).graph (view_at c.args.view) c.args.sid (pos c.args.session)) c.input_at.result c.input_at-2.result c.input_at-3.result c.args.facts.now.items c.put_input.new.facts.items c.put_input-2.new.facts.items c.put_input-3.new.facts.items c.input_at.ensures c.input_at-2.ensures c.input_at-3.ensures c.in_ok-put_input.ensures c.in_ok-put_input-2.ensures) c.put_input-3.ensures

pub put_input-requires : goal.put_input-requires
put_input-requires c = in-place c.args.checked.now c.args.node.now c.requires 0 c.input_at.result c.input_at.ensures (omega arith)

pub put_input-requires-2 : goal.put_input-requires-2
put_input-requires-2 c = in-place c.args.checked.now c.args.node.now c.requires 1 c.input_at-2.result c.input_at-2.ensures (omega arith)

pub put_input-requires-3 : goal.put_input-requires-3
put_input-requires-3 c = in-place c.args.checked.now c.args.node.now c.requires 2 c.input_at-3.result c.input_at-3.ensures (omega arith)
