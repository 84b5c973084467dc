use Rattle.std.proofs.Common.{rules, FitsSigned, w64, ◌∙◌, ap}
use Rattle.std.proofs.lemmas.Int.{to_z-of_z}
use Rattle.pl_terms.specs.Kinds.{kind_of}
use Rattle.pl_pipeline.specs.Formula.{PairSums}
use Rattle.pl_factors.specs.Trends.{trend_of}
use Rattle.pl_factors.proofs.Trending.{trend_is}
use Rattle.pl_factors.proofs.trends.trend_over.Goals as goal

pub returns-clause-value : goal.returns-clause-value
returns-clause-value c k l =
    let fits : FitsSigned w64 c.trend.result = search rules in
    to_z-of_z w64 _ fits ∙ c.trend.ensures.value ∙ ap (λ (s : PairSums). trend_of (kind_of c.args.kind.now) s c.args.a.now) c.of_places.ensures.value
    ∙ trend_is (kind_of c.args.kind.now) c.args.a.now k l c.requires.kind
