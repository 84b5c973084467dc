use Rattle.pl_spec.proofs.ByDay.{by_day-kept}
use Rattle.pl_laws.proofs.laws.order_is_kept.Goals as goal

pub returns : goal.returns
returns c rows more = by_day-kept rows more
