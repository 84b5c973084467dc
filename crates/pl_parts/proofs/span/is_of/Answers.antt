use Rattle.std.proofs.Common.{◌∙◌, sym, ap}
use Rattle.pl_cut.specs.Cuts.{is_of}
use Rattle.pl_parts.specs.Parts.{world_of}
use Rattle.pl_parts.specs.Spans.{span_of}
use Rattle.pl_parts.proofs.ByColumn.{of-col, sid-of}
use Rattle.pl_parts.proofs.span.is_of.Goals as goal

pub returns : goal.returns
returns c =
    let w = world_of c.args.world.now in
    let span = span_of c.args.span in
    let assets = c.args.world.now.assets.now in
    c.lives_in.ensures
    ∙ sym (ap (is_of w span) (sid-of assets c.args.col c.row.result c.row.ensures) ∙ of-col w span c.requires.made.sids_ascend c.args.col c.row.result c.row.ensures)
