use Rattle.std.proofs.Common.{ap, sym, ◌∙◌}
use Rattle.pl_grammar.specs.Tree.{call, method}
use Rattle.pl_grammar.specs.Machine.{applied}
use Rattle.pl_syntax.specs.Plain.{plain}
use Rattle.pl_syntax.specs.Frames.{callee_of, args_list}
use Rattle.pl_syntax.proofs.Pushed.{built_tree}
use Rattle.pl_syntax.proofs.machine.called.Goals as goal

pub returns-in-Function : goal.returns-in-Function
returns-in-Function c =
    ap (call c.in-Function.place c.in-Function.name) (built_tree c.args.call.args) ∙ ap (λ x. applied (callee_of x) (args_list c.args.call.args.items)) (sym c.in-Function.is)

pub returns-in-Method : goal.returns-in-Method
returns-in-Method c =
    ap (method c.in-Method.place (plain c.in-Method.object.value) c.in-Method.name) (built_tree c.args.call.args) ∙ ap (λ x. applied (callee_of x) (args_list c.args.call.args.items)) (sym c.in-Method.is)
