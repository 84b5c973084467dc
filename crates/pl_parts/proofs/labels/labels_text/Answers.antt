use Rattle.std.proofs.Common.{◌≡◌, ◌≤◌, ◌++◌, [], length, arith}
use Rattle.pl_spec.specs.Parts.{label_of}
use Rattle.pl_parts.specs.Parts.{world_of}
use Rattle.pl_parts.specs.Spans.{span_of}
use Rattle.pl_parts.specs.Kept.{if_kept, keeps_label}
use Rattle.pl_parts.specs.Texts.{label_line, labels_header, labels_text}
use Rattle.pl_parts.proofs.KeptRows.{begun, more, mapped-end}
use Rattle.pl_parts.proofs.labels.labels_text.Goals as goal

pub loop-i-init : goal.loop-i-init
loop-i-init c = begun (λ r. if_kept (keeps_label (world_of c.args.world.now) (span_of c.args.span)) label_line (label_of c.args.world.now.assets.now r)) (c.args.world.now.labels.now.rows) labels_header _ _ c.new-out.ensures.items c.in_ok-put.ensures

pub loop-i-preserved : goal.loop-i-preserved
loop-i-preserved c = more (λ r. if_kept (keeps_label (world_of c.args.world.now) (span_of c.args.span)) label_line (label_of c.args.world.now.assets.now r)) (c.args.world.now.labels.now.rows) c.loop-i.i labels_header _ _ c.loop-i.invariant c.in_ok-put_kept_label.ensures

pub returns : goal.returns
unfolding labels_text
returns c =
    let end : length (c.args.world.now.labels.now.rows) ≤ c.loop-i.i = omega (arith, c.loop-i-test.false, c.len-i-end.ensures.length) in
    mapped-end (keeps_label (world_of c.args.world.now) (span_of c.args.span)) label_line (label_of c.args.world.now.assets.now) (c.args.world.now.labels.now.rows) c.loop-i.i labels_header _ end c.loop-i.invariant
