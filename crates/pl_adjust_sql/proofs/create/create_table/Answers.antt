use Rattle.pl_adjust_sql.proofs.Creating.{grows, found, stays}
use Rattle.pl_adjust_sql.proofs.create.create_table.Goals as goal

pub returns-clause-made : goal.returns-clause-made
returns-clause-made g c clean =
    let more = grows c.args.table _ _ c.in_ok-execute.field-0 (rw c.create_statement_of.ensures at (c.in_ok-execute.ensures.runs clean)) in
    (more.tree, found c.args.table _ _ more)

pub returns-clause-kept : goal.returns-clause-kept
returns-clause-kept g c clean other stored places had =
    let more = grows c.args.table _ _ c.in_ok-execute.field-0 (rw c.create_statement_of.ensures at (c.in_ok-execute.ensures.runs clean)) in
    stays c.args.table other _ _ more stored places had
