use Rattle.pl_spec.proofs.DatesRead.{date_in-IsDate, IsDate-date_in}
use Rattle.pl_laws.proofs.laws.dates_are_read.Goals as goal

pub returns : goal.returns
returns c text day = (date_in-IsDate text day, IsDate-date_in text day)
