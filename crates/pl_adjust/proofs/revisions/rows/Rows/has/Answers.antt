use Rattle.std.proofs.Common.{◌∙◌, ap, nat_eq}
use Rattle.std.specs.HashSet.{contains}
use Rattle.std.specs.List.{list_any}
use Rattle.pl_adjust.specs.RevisionKeys.{key_of}
use Rattle.pl_adjust.specs.Revisions.{is_same}
use Rattle.pl_adjust.proofs.RevisionKeys.{found_by_key}
use Rattle.pl_adjust.proofs.revisions.rows.Rows.has.Goals as goal

pub returns : goal.returns
returns c =
    c.contains.ensures
    ∙ ap (contains nat_eq c.self.inside.keys) c.key_of.ensures.key
    ∙ c.self.invariant.each.each (key_of c.args.row.now)
    ∙ found_by_key c.self.inside.list.items c.args.row.now c.self.invariant.days c.key_of.ensures.days
    ∙ ap (list_any (is_same c.args.row.now)) c.self.view_is
