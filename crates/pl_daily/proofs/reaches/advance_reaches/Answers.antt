use Rattle.std.proofs.Common.{◌≤◌, ◌<◌, ◌+◌, subst, sym, length, set, arith}
use Rattle.pl_terms.specs.Checked.{pipeline_of}
use Rattle.pl_daily.proofs.Firsts.{IsTaken, more-taken, all-taken}
use Rattle.pl_daily.proofs.reaches.advance_reaches.Goals as goal

pub loop-k-preserved : goal.loop-k-preserved
loop-k-preserved c =
    let t = c.loop-k-test.true in
    let n = c.count-k-end.ensures.count in
    let within : c.loop-k.k < length (pipeline_of c.args.checked.now).graph = omega arith in
    subst (λ o. IsTaken (pipeline_of c.args.checked.now) c.args.starts.now c.args.fed c.args.since.now (c.loop-k.k + 1) (set c.loop-k.since c.loop-k.k o)) (sym c.first_of.ensures)
    (more-taken (pipeline_of c.args.checked.now) c.count-k-end.ensures.checked c.args.starts.now c.args.fed c.args.since.now c.loop-k.since c.loop-k.k c.loop-k.invariant within c.requires.since)

pub returns-clause-follow : goal.returns-clause-follow
returns-clause-follow c =
    let t = c.loop-k-test.false in
    let a = c.loop-k.auto.k-end in
    let n = c.count-k-end.ensures.count in
    let end : length (pipeline_of c.args.checked.now).graph ≤ c.loop-k.k = omega arith in
    all-taken (pipeline_of c.args.checked.now) c.args.starts.now c.args.fed c.loop-k.k c.args.since.now c.loop-k.since end c.loop-k.invariant
