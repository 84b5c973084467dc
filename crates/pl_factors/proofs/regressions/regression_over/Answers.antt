use Rattle.std.proofs.Common.{rules, FitsSigned, w64, ◌∙◌, ap}
use Rattle.std.proofs.lemmas.Int.{to_z-of_z}
use Rattle.pl_terms.specs.Kinds.{kind_of}
use Rattle.pl_pipeline.specs.Formula.{PairSums}
use Rattle.pl_factors.specs.Regressions.{regression_of}
use Rattle.pl_factors.proofs.Regressing.{regression_is}
use Rattle.pl_factors.proofs.regressions.regression_over.Goals as goal

pub returns-clause-value : goal.returns-clause-value
returns-clause-value c l =
    let fits : FitsSigned w64 c.regression.result = search rules in
    to_z-of_z w64 _ fits ∙ c.regression.ensures.value ∙ ap (λ (s : PairSums). regression_of (kind_of c.args.kind.now) s) c.of_windows.ensures.value
    ∙ regression_is (kind_of c.args.kind.now) c.args.a.now c.args.b.now l c.requires.kind
