use Rattle.pl_daily.proofs.Begun.{start_full}
use Rattle.pl_daily.proofs.room.begin_start.Goals as goal

pub returns : goal.returns
returns c = λ f u down. start_full c.args.assets c.start_count.result _ (c.in_ok-row.ensures.items_if_clones_equal (λ y same. same)) (c.start_count.ensures f u down)
