use Rattle.std.proofs.lemmas.Result.{err_from_is_err_and}
use Rattle.pl_adjust.specs.Faults.{fault_of}
use Rattle.pl_adjust.proofs.Made.{by_day_each, cols_known, made, refused, tables_put}
use Rattle.pl_adjust.proofs.Adjustments.from_rows.Goals as goal

pub returns-in_err-rows-clause-exact : goal.returns-in_err-rows-clause-exact
returns-in_err-rows-clause-exact c =
    let p = err_from_is_err_and c.from_residual.result c.from_residual.ensures.1 in
    rw (p.1, p.2) (refused c.args.assets.now c.args.splits.now c.args.mergers.now c.args.dividends.now (fault_of c.in_err-rows.field-0.0) c.in_err-rows.ensures.fault)

pub of_rows-requires : goal.of_rows-requires
of_rows-requires c = tables_put c.args.assets.now c.args.splits.now c.args.mergers.now c.args.dividends.now _ c.in_ok-rows.ensures.rows

pub returns-clause-exact : goal.returns-clause-exact
returns-clause-exact c =
    made c.args.assets.now c.args.splits.now c.args.mergers.now c.args.dividends.now _ _ c.in_ok-rows.ensures.fault c.in_ok-rows.ensures.rows c.in_ok-made.ensures

pub returns-clause-in_order : goal.returns-clause-in_order
returns-clause-in_order c = by_day_each _ c.in_ok-made.ensures.sorted

pub returns-clause-cols : goal.returns-clause-cols
returns-clause-cols c =
    cols_known c.args.assets.now c.args.splits.now c.args.mergers.now c.args.dividends.now _ _ c.in_ok-rows.ensures.rows c.in_ok-made.ensures
