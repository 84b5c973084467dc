use Rattle.std.proofs.Common.{rules, arith, FitsSigned, w64, ◌∙◌}
use Rattle.std.proofs.lemmas.Int.{to_z-of_z}
use Rattle.pl_lanes.proofs.WrittenLemmas.{written-begins, written-next}
use Rattle.pl_lanes.proofs.kernels.write_rest.Goals as goal

pub loop-at-init : goal.loop-at-init
loop-at-init c = written-begins _ _ _

pub loop-at-preserved : goal.loop-at-preserved
loop-at-preserved c =
    let fits : FitsSigned w64 c.given.result = search rules in
    written-next c.loop-at.out _ c.args.from c.loop-at.at _ _ c.loop-at.invariant (omega arith) (omega arith) (to_z-of_z w64 _ fits ∙ c.given.ensures)
