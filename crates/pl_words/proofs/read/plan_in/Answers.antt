use Rattle.pl_words.proofs.Places.{plan_read}
use Rattle.pl_words.proofs.read.plan_in.Goals as goal

pub returns : goal.returns
returns c = plan_read c.args.names.now _ _ _ _ _ _ c.requires c.in_ok-from.ensures c.in_ok-to.ensures
