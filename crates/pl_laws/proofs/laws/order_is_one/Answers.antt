use Rattle.pl_spec.proofs.ByDay.{by_day-is_by_day, by_day_is_one}
use Rattle.pl_laws.proofs.laws.order_is_one.Goals as goal

pub returns : goal.returns
returns c rows sorted = (by_day-is_by_day rows, by_day_is_one rows sorted)
