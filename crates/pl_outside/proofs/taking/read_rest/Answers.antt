use Rattle.std.proofs.Common.{rules}
use Rattle.pl_outside.proofs.HandedOn.{handed-on-more}
use Rattle.pl_outside.proofs.taking.read_rest.Goals as goal

pub loop-count-preserved : goal.loop-count-preserved
loop-count-preserved g c = record {
  within = search rules;
  on = handed-on-more c.loop-count.count c.in_ok-got.got _ _ _ _ _ _ _ _ _ _ _ _ c.loop-count.invariant.on
      (search rules) c.if-got-eq0.false c.loop-count.invariant.keeps c.in_ok-got.ensures.piece c.in_ok-got.ensures.logged
      (g.met.T.Taker.joined _ _ _ _ _ c.loop-count.invariant.on.took c.in_ok-take.ensures);
  named = search rules;
  later = search rules;
  given = search rules;
  calls = search rules;
  quiet = search rules;
  keeps = search rules;
  stays = search rules;
}
