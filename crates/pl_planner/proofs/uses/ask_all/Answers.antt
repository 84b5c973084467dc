use Rattle.pl_planner.proofs.Asking.{node_asked}
use Rattle.pl_planner.proofs.uses.ask_all.Goals as goal

pub returns : goal.returns
returns c =
    node_asked c.args.sessions.now c.args.session c.args.node.now c.args.by c.args.extra c.back_from.result c.args.uses.now c.ask_inputs.new.uses c.ask_number.new.uses c.ask_number-2.new.uses
    c.back_from.ensures c.ask_inputs.ensures c.ask_number.ensures c.ask_number-2.ensures
