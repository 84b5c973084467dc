use Rattle.pl_terms.specs.Checked.{pipeline_of}
use Rattle.pl_daily.proofs.Begun.{begun_more}
use Rattle.pl_daily.proofs.room.begin_terms.Goals as goal

pub loop-k-preserved : goal.loop-k-preserved
loop-k-preserved c = begun_more c.args.assets (pipeline_of c.args.checked.now) c.loop-k.k c.loop-k.terms.items c.push.new.self.items c.in_ok-term.term c.in_ok-push.ensures.items c.loop-k.invariant c.in_ok-term.ensures
