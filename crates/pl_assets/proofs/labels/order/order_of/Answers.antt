use Rattle.std.proofs.lemmas.Result.{IfOk-weaker}
use Rattle.pl_assets.proofs.LabelOrder.{order_made}
use Rattle.pl_assets.proofs.labels.order.order_of.Goals as goal

pub returns : goal.returns
returns c = IfOk-weaker c.sorted_numbers.result _ _ (λ v e. order_made c.args.places.now v.items c.requires.own e) c.sorted_numbers.ensures
