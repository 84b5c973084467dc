use Rattle.std.proofs.Common.{rules, FitsSigned, ap, ◌∙◌}
use Rattle.std.specs.Int.{w128}
use Rattle.std.proofs.lemmas.Int.{to_z-of_z}
use Rattle.pl_spec.specs.Rounding.{div_round}
use Rattle.pl_elementary.proofs.Parts.{product-is, product-within}
use Rattle.pl_elementary.proofs.logarithm.natural.Goals as goal

pub nearest-requires : goal.nearest-requires
nearest-requires c = rw (product-is c.args.binary c.requires) (product-within c.args.binary c.requires)

pub returns-clause-value : goal.returns-clause-value
returns-clause-value c =
    let f : FitsSigned w128 c.nearest.result = search rules in
    to_z-of_z w128 _ f ∙ c.nearest.ensures.value ∙ ap (λ z. div_round z 1152921504606846976000000000000) (product-is c.args.binary c.requires)
