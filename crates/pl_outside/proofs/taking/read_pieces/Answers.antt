use Rattle.std.proofs.Common.{◌∙◌, ap, Some}
use Rattle.pl_outside.proofs.HandedOn.{taken-begun}
use Rattle.pl_outside.proofs.taking.read_pieces.Goals as goal

pub returns-clause-given : goal.returns-clause-given
returns-clause-given g c =
    taken-begun _ (c.read_rest.ensures.given _ c.args.name.now c.in_ok-begin.ensures.logged)
    (λ bytes held files told. c.in_ok-begin.ensures.begins files told ∙ ap Some (held files (c.in_ok-begin.ensures.keeps ∙ told)))
