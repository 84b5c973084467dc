use Rattle.pl_terms.specs.Checked.{pipeline_of}
use Rattle.pl_daily.proofs.Begun.{starts_begun}
use Rattle.pl_daily.proofs.room.begin_starts.Goals as goal

pub loop-k-preserved : goal.loop-k-preserved
loop-k-preserved c = starts_begun c.args.assets (pipeline_of c.args.checked.now) c.loop-k.k c.loop-k.starts.items c.push.new.self.items c.in_ok-start.start c.in_ok-push.ensures.items c.loop-k.invariant c.in_ok-start.ensures
