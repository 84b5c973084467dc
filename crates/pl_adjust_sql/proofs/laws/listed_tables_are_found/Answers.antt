use Rattle.sqlite.specs.Held.{state}
use Rattle.pl_adjust_sql.proofs.Listing.{listed_is_found}
use Rattle.pl_adjust_sql.proofs.laws.listed_tables_are_found.Goals as goal

pub returns : goal.returns
returns g c is_open table row has listed = listed_is_found table (state g.S.Store c.args.connection.now) c.schema-schema.ensures.live is_open row has listed
