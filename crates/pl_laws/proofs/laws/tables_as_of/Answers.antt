use Rattle.std.proofs.Common.{pos}
use Rattle.pl_spec.specs.AsOf.{as_of}
use Rattle.pl_laws.proofs.AsOf.{is-world, agrees}
use Rattle.pl_laws.proofs.Law.{agree-seen}
use Rattle.pl_laws.proofs.TableLaw.{table_same}
use Rattle.pl_laws.proofs.laws.tables_as_of.Goals as goal

pub returns : goal.returns
returns c w d day ok at_d p from to h =
    table_same (as_of w d day) w (pos d) day (is-world w d day ok) ok (agree-seen (as_of w d day) w (pos d) day (agrees w d day ok at_d)) p from to h
