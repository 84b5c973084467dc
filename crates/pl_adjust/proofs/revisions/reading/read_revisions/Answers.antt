use Rattle.pl_records.specs.Records.{csv_records}
use Rattle.pl_adjust.proofs.RevisionsRead.{AreRevisions-read}
use Rattle.pl_adjust.proofs.revisions.reading.read_revisions.Goals as goal

pub returns-clause-revisions : goal.returns-clause-revisions
returns-clause-revisions c =
    rw c.into_list.ensures
    (AreRevisions-read c.args.sessions.now c.args.assets.now c.len-sessions.ensures.days c.len-assets.ensures.assets (csv_records c.args.bytes.now) c.in_ok-rows.rows c.in_ok-rows.ensures)
