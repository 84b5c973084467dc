use Rattle.std.proofs.Common.{pos}
use Rattle.std.proofs.lemmas.Result.{on_ok_weaker}
use Rattle.pl_terms.specs.Checked.{pipeline_of}
use Rattle.pl_explain.proofs.Behind.{entry-put}
use Rattle.pl_explain.proofs.reads.put_entry.Goals as goal

pub returns : goal.returns
returns c =
    on_ok_weaker c.put_inputs.result (entry-put (pipeline_of c.args.checked.now).graph c.args.node.now c.args.sid (pos c.args.session) c.args.facts.now.items c.put_number.new.facts.items c.put_number-2.new.facts.items c.put_inputs.new.facts.items c.in_ok-put_number.ensures c.in_ok-put_number-2.ensures) c.put_inputs.ensures
