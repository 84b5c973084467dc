use Rattle.std.proofs.Common.{◌<◌, length, []}
use Rattle.pl_assets.proofs.labels.Labels.text.Goals as goal

pub returns-clause-printable : goal.returns-clause-printable
returns-clause-printable c =
    let inside : c.args.code < length c.self.inside.rows.texts = rw (← c.self.view_is) at c.requires in
    rw c.text.ensures (c.self.invariant.labels.right c.args.code [] inside).printable

pub returns-clause-short : goal.returns-clause-short
returns-clause-short c =
    let inside : c.args.code < length c.self.inside.rows.texts = rw (← c.self.view_is) at c.requires in
    rw c.text.ensures (c.self.invariant.labels.right c.args.code [] inside).short
