use Rattle.std.proofs.Common.{sym, ◌∙◌}
use Rattle.pl_syntax.proofs.Pushed.{open_top, open_none}
use Rattle.pl_syntax.proofs.stack.Stack.asked.Goals as goal

pub returns-in-Some : goal.returns-in-Some
returns-in-Some c =
    c.asked_in.ensures ∙ sym (open_top c.args.self.now c.deref.result.now c.in-Some.frame.now c.deref.ensures.value (sym c.in-Some.ensures.value))

pub returns-in-None : goal.returns-in-None
returns-in-None c = sym (open_none c.args.self.now c.deref.result.now c.deref.ensures.value (sym c.in-None.ensures.value))
