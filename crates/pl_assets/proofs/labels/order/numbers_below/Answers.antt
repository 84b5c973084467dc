use Rattle.std.proofs.Common.{◌∙◌, ◌∷◌, ◌++◌, [], ap}
use Rattle.pl_assets.proofs.LabelOrder.{numbers_more}
use Rattle.pl_assets.proofs.labels.order.numbers_below.Goals as goal

pub loop-i-preserved : goal.loop-i-preserved
loop-i-preserved c = record { below = c.in_ok-push.ensures.items ∙ ap (λ l. l ++ c.loop-i.i ∷ []) c.loop-i.invariant.below ∙ numbers_more c.loop-i.i }
