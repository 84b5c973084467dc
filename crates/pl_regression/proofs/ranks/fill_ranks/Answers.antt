use Rattle.std.proofs.Common.{◌≡◌, ap, sym, ◌∙◌, arith, rules, w64, to_z, of_z, pos, get_or}
use Rattle.std.proofs.lemmas.Int.{to_z_pos}
use Rattle.pl_lanes.proofs.Bits.{at-exact}
use Rattle.pl_pipeline.specs.Order.{twice_rank}
use Rattle.pl_regression.proofs.Ranking.{all_ranked, one_ranked, rank_at}
use Rattle.pl_regression.proofs.ranks.fill_ranks.Goals as goal

pub loop-at-preserved : goal.loop-at-preserved
loop-at-preserved c =
    let vs = c.args.values.now in
    let at = c.loop-at.at in
    let rank : c.twice_rank.result ≡ twice_rank (get_or vs at (pos 0)) vs =
    c.twice_rank.ensures.value ∙ ap (λ l. twice_rank (to_z w64 (of_z w64 (get_or vs at (pos 0)))) l) c.requires.there
    ∙ ap (λ v. twice_rank v vs) (at-exact vs at c.requires.cells) in
    let small : to_z w64 c.twice_rank.result ≡ pos c.twice_rank.result = to_z_pos w64 c.twice_rank.result (omega (arith, c.twice_rank.ensures.few, c.requires.few)) in
    record {
      long = search rules;
      ranks = one_ranked vs c.loop-at.out at _ (omega (arith, c.loop-at.invariant.long, c.requires.room, c.loop-at-test.true))
          (small ∙ ap pos rank ∙ sym (rank_at vs at (omega (arith, c.loop-at-test.true)))) c.loop-at.invariant.ranks;
    }

pub returns-clause-ranks : goal.returns-clause-ranks
returns-clause-ranks c =
    all_ranked c.args.values.now c.loop-at.out c.loop-at.at (omega (arith, c.loop-at-test.false)) (omega (arith, c.loop-at.invariant.long, c.requires.room)) c.loop-at.invariant.ranks
