use Rattle.std.proofs.Common.{sym, ap, ◌∙◌}
use Rattle.pl_check.specs.Operations.{first_function, function_named}
use Rattle.pl_check.proofs.operation.function_named.Goals as goal

pub returns-in-None : goal.returns-in-None
unfolding function_named
returns-in-None c =
    c.operation_in.ensures
    ∙ ap (λ o. first_function o c.args.version c.args.name.now) (sym c.in-None.is ∙ c.formula_named.ensures)
