use Rattle.std.proofs.Common.{◌≡◌, ◌≤◌, subst, sym, ap, ◌∙◌, length, take, arith}
use Rattle.std.specs.List.{All}
use Rattle.pl_spec.specs.Limits.{most_window}
use Rattle.pl_spec.specs.Rounding.{IsCell}
use Rattle.pl_regression.specs.Ranks.{twice_ranks}
use Rattle.pl_regression.proofs.Ranking.{ranks_cells}
use Rattle.pl_regression.proofs.ranks.correlation_of_ranks.Goals as goal

pub of_windows-requires-clause-cells : goal.of_windows-requires-clause-cells
of_windows-requires-clause-cells c = subst (All IsCell) (sym c.fill_ranks.ensures.ranks) (ranks_cells c.args.first.now c.requires.few)

pub of_windows-requires-clause-others : goal.of_windows-requires-clause-others
of_windows-requires-clause-others c =
    let few : length c.args.second.now ≤ most_window = omega (arith, c.requires.few, c.requires.paired) in
    let is : take (length c.args.first.now) c.fill_ranks-2.new.out ≡ twice_ranks c.args.second.now =
    ap (λ n. take n c.fill_ranks-2.new.out) (sym c.requires.paired) ∙ c.fill_ranks-2.ensures.ranks in
    subst (All IsCell) (sym is) (ranks_cells c.args.second.now few)
