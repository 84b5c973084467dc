use Rattle.pl_assets.proofs.CsvFields.{field_of_csv}
use Rattle.pl_assets.proofs.laws.fields_are_those_of_csv.Goals as goal

pub returns : goal.returns
returns c = field_of_csv
