use Rattle.std.proofs.Common.{rules, max, ◌≡◌, arith}
use Rattle.pl_terms.specs.Checked.{pipeline_of}
use Rattle.pl_planner.specs.Columns.{reads_back}
use Rattle.pl_planner.proofs.Counting.{most_more}
use Rattle.pl_planner.proofs.columns.most_back.Goals as goal

pub loop-t-preserved : goal.loop-t-preserved
loop-t-preserved c =
    let m : c.max-most.result ≡ max c.loop-t.most c.reads_back.result = search rules in
    record {
      most = omega (arith, m, c.loop-t.invariant.most, c.reads_back.ensures.value, most_more (reads_back c.args.sessions.now c.args.session (pipeline_of c.args.checked.now).graph c.args.uses.now) c.loop-t.t);
      few = omega (arith, m, c.loop-t.invariant.few, c.reads_back.ensures.few);
    }
