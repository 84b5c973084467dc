use Rattle.pl_spec.proofs.DatesWritten.{IsDate-date_text}
use Rattle.pl_laws.proofs.laws.dates_are_written.Goals as goal

pub returns : goal.returns
returns c day h = IsDate-date_text day h
