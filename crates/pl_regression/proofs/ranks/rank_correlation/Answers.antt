use Rattle.std.proofs.Common.{◌≡◌, subst, sym, ap, ap₂, ◌∙◌, rules, FitsSigned, w64, List, ℤ}
use Rattle.std.specs.List.{All}
use Rattle.std.proofs.lemmas.Int.{to_z-of_z}
use Rattle.pl_spec.specs.Rounding.{IsCell}
use Rattle.pl_spec.specs.Cells.{present_values}
use Rattle.pl_pipeline.specs.Formula.{PairSums, correlation, pair_sums}
use Rattle.pl_regression.specs.Ranks.{twice_ranks}
use Rattle.pl_regression.proofs.Ranking.{pairs_cells, pairs_there, ranks_of_pairs}
use Rattle.pl_regression.proofs.ranks.rank_correlation.Goals as goal

pub correlation_of_ranks-requires-clause-first : goal.correlation_of_ranks-requires-clause-first
correlation_of_ranks-requires-clause-first c =
    subst (All IsCell) (sym c.gather-count.ensures.first) (pairs_cells c.args.xs.now c.args.ys.now c.requires.cells c.requires.others).0

pub correlation_of_ranks-requires-clause-second : goal.correlation_of_ranks-requires-clause-second
correlation_of_ranks-requires-clause-second c =
    subst (All IsCell) (sym c.gather-count.ensures.second) (pairs_cells c.args.xs.now c.args.ys.now c.requires.cells c.requires.others).1

pub correlation_of_ranks-requires-clause-first_there : goal.correlation_of_ranks-requires-clause-first_there
correlation_of_ranks-requires-clause-first_there c =
    subst (λ (l : List ℤ). present_values l ≡ l) (sym c.gather-count.ensures.first) (pairs_there c.args.xs.now c.args.ys.now).0

pub correlation_of_ranks-requires-clause-second_there : goal.correlation_of_ranks-requires-clause-second_there
correlation_of_ranks-requires-clause-second_there c =
    subst (λ (l : List ℤ). present_values l ≡ l) (sym c.gather-count.ensures.second) (pairs_there c.args.xs.now c.args.ys.now).1

pub returns-clause-value : goal.returns-clause-value
returns-clause-value c =
    let fits : FitsSigned w64 c.correlation_of_ranks.result = search rules in
    to_z-of_z w64 _ fits ∙ c.correlation_of_ranks.ensures.value
    ∙ ap (λ (s : PairSums). correlation s) (ap₂ (λ (a b : List ℤ). pair_sums (twice_ranks a) (twice_ranks b)) c.gather-count.ensures.first c.gather-count.ensures.second ∙ ranks_of_pairs _)
