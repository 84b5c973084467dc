use Rattle.pl_spec.proofs.DatesWritten.{IsDay-IsDate, date_text-IsDate}
use Rattle.pl_laws.proofs.laws.days_have_one_date.Goals as goal

pub returns : goal.returns
returns c text day h = (IsDay-IsDate text day h, date_text-IsDate text day h)
