use Rattle.std.proofs.Common.{◌≡◌, ◌<◌, ◌∙◌, length, sym}
use Rattle.pl_spec.specs.Parts.{label_of}
use Rattle.pl_assets.specs.LabelRowsShown.{shown_at}
use Rattle.pl_parts.specs.Parts.{world_of}
use Rattle.pl_parts.specs.Spans.{span_of}
use Rattle.pl_parts.specs.Kept.{keeps_label}
use Rattle.pl_parts.specs.Texts.{label_line}
use Rattle.pl_parts.proofs.KeptRows.{nothing-more, on-ok-more, at-kept, at-left, all-there}
use Rattle.pl_parts.proofs.labels.put_kept_label.Goals as goal

pub keeps_label-requires-clause-col : goal.keeps_label-requires-clause-col
keeps_label-requires-clause-col c = all-there (λ r. r.col < length c.args.world.now.assets.now) c.args.world.now.labels.now.rows c.args.i (shown_at c.row-row.result) c.requires.made.labels_in c.row-row.ensures.row

pub put_label-requires-clause-col : goal.put_label-requires-clause-col
put_label-requires-clause-col c = all-there (λ r. r.col < length c.args.world.now.assets.now) c.args.world.now.labels.now.rows c.args.i (shown_at c.row-row.result) c.requires.made.labels_in c.row-row.ensures.row

pub returns-then-not-keeps_label : goal.returns-then-not-keeps_label
returns-then-not-keeps_label c =
    nothing-more _ _ (at-left (keeps_label (world_of c.args.world.now) (span_of c.args.span)) label_line (label_of c.args.world.now.assets.now) c.args.world.now.labels.now.rows c.args.i (shown_at c.row-row.result) c.row-row.ensures.row (sym c.keeps_label.ensures ∙ c.if-not-keeps_label.true))

pub returns : goal.returns
returns c =
    on-ok-more c.put_label.result _ _ _ _ c.put_label.ensures
    (at-kept (keeps_label (world_of c.args.world.now) (span_of c.args.span)) label_line (label_of c.args.world.now.assets.now) c.args.world.now.labels.now.rows c.args.i (shown_at c.row-row.result) c.row-row.ensures.row (sym c.keeps_label.ensures ∙ c.if-not-keeps_label.false))
