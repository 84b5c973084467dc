use Rattle.std.proofs.Common.{◌∙◌}
use Rattle.pl_bench.proofs.Lines.{lent-world, numbers-of, steps-of}
use Rattle.pl_bench.proofs.run.run_over.Goals as goal

pub returns-in-Ok-clause-numbers : goal.returns-in-Ok-clause-numbers
returns-in-Ok-clause-numbers g c = λ number is.
    let w = c.world-world.ensures in
    let same = lent-world c.world-world.result c.args.stated.now w.sessions w.assets w.labels w.bars w.adjustments w.numbers in
    numbers-of number _ _ _ _ c.in-Ok.report c.bound.result (same ∙ is) c.requires.checked c.in_ok-plan.ensures c.in-Ok.ensures.report c.bound.ensures.value

pub returns-in-Ok-clause-cost : goal.returns-in-Ok-clause-cost
returns-in-Ok-clause-cost g c = λ number is.
    let w = c.world-world.ensures in
    let same = lent-world c.world-world.result c.args.stated.now w.sessions w.assets w.labels w.bars w.adjustments w.numbers in
    steps-of number _ _ _ _ _ _ (same ∙ is) c.requires.checked c.in_ok-plan.ensures c.in-Ok.ensures.cost
