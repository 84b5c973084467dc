use Rattle.std.proofs.Common.{◌∙◌, ap, sym, rules, w64, FitsSigned}
use Rattle.std.proofs.lemmas.Int.{to_z-of_z}
use Rattle.pl_pipeline.specs.Kind.{Kind}
use Rattle.pl_pipeline.specs.Value.{number_of, empty}
use Rattle.pl_values.proofs.family.empty_value.Goals as goal

pub returns-in-Some : goal.returns-in-Some
returns-in-Some c =
    let fits : FitsSigned w64 c.empty_of.result = search rules in
    to_z-of_z w64 _ fits ∙ c.empty_of.ensures ∙ ap (λ (k : Kind). number_of (empty k)) c.in-Some.ensures.some

pub returns-in-None : goal.returns-in-None
returns-in-None c = ap (λ (k : Kind). number_of (empty k)) (sym c.in-None.ensures.none)
