use Rattle.std.proofs.lemmas.Result.{err_from_is_err_and}
use Rattle.pl_records.specs.Records.{csv_records}
use Rattle.pl_adjust.specs.RevisionFaults.{fault_of}
use Rattle.pl_adjust.specs.Revised.{revised_columns}
use Rattle.pl_adjust.proofs.RevisedColumns.{added, cols_with, known_from, refused_by, revised_cols, revised_puts}
use Rattle.pl_adjust.proofs.Adjustments.add_revisions.Goals as goal

pub with_revisions-requires-clause-known : goal.with_revisions-requires-clause-known
with_revisions-requires-clause-known c =
    rw c.deref.ensures.value (known_from c.args.assets.now c.in_ok-revisions.revisions.items c.args.sessions.now c.in_ok-revisions.ensures.revisions)

pub with_revisions-requires-clause-cells : goal.with_revisions-requires-clause-cells
with_revisions-requires-clause-cells c =
    rw c.deref.ensures.value (revised_puts c.args.assets.now c.in_ok-revisions.revisions.items c.args.sessions.now c.in_ok-revisions.ensures.revisions)

pub returns-in_err-revisions-clause-exact : goal.returns-in_err-revisions-clause-exact
returns-in_err-revisions-clause-exact c =
    let p = err_from_is_err_and c.from_residual.result c.from_residual.ensures.1 in
    rw (p.1, p.2) (refused_by c.args.sessions.now c.args.assets.now c.args.self.now (csv_records c.args.bytes.now) (fault_of c.in_err-revisions.field-0.0) c.in_err-revisions.ensures.exact)

pub returns-clause-exact : goal.returns-clause-exact
returns-clause-exact c =
    let made = rw c.deref.ensures.value at c.in_ok-self-inside.ensures in
    rw c.drop.view_is
    (added c.args.sessions.now c.args.assets.now c.args.self.now c.in_ok-self-inside.field-0 (csv_records c.args.bytes.now) c.in_ok-revisions.revisions.items c.in_ok-revisions.ensures.exact made)

pub returns-clause-cols : goal.returns-clause-cols
returns-clause-cols c all =
    let known = known_from c.args.assets.now c.in_ok-revisions.revisions.items c.args.sessions.now c.in_ok-revisions.ensures.revisions in
    let made = rw c.deref.ensures.value at c.in_ok-self-inside.ensures in
    rw (c.drop.view_is, made)
    (cols_with c.args.assets.now c.args.self.now (revised_columns c.args.assets.now c.in_ok-revisions.revisions.items)
    (revised_cols c.args.assets.now c.in_ok-revisions.revisions.items known) all)
