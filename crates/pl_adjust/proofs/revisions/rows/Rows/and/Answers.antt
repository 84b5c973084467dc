use Rattle.pl_adjust.proofs.RevisionKeys.{found-more}
use Rattle.pl_adjust.proofs.revisions.rows.Rows.and.Goals as goal

pub invariant_of-self : goal.invariant_of-self
invariant_of-self c =
    rw c.in_ok-push.ensures.items
    (found-more c.self.inside.keys c.insert.new.self c.self.inside.list.items c.args.row c.key_of.result c.key_of.ensures.key c.key_of.ensures.days c.self.invariant c.in_ok-insert.ensures.updates.0)
