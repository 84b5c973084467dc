use Rattle.pl_adjust_sql.proofs.Rising.{rows_rise, opened}
use Rattle.pl_adjust_sql.proofs.laws.stored_rows_rise.Goals as goal

pub returns : goal.returns
returns g c unbroken table stored places found =
    let store = c.args.connection.now.store in
    let is_open = opened _ _ (g.met.S.Store.broken_if_shut store) unbroken in
    rows_rise (g.S.Store.view store) c.args.connection.now.schema ((c.schema-schema.ensures.live is_open).0) (g.met.S.Alter.listed store unbroken) (g.met.S.Store.ordered store unbroken) found.at stored found.is
