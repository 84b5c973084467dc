use Rattle.pl_laws.proofs.Law.{agree-seen}
use Rattle.pl_laws.proofs.TableLaw as law
use Rattle.pl_laws.proofs.laws.tables_agree.Goals as goal

pub returns : goal.returns
returns c w v d day ok ok' agree p = law.table_same w v d day ok ok' (agree-seen w v d day agree) p
