use Rattle.std.proofs.Common.{◌≡◌, ◌≤◌, ◌++◌, [], length, arith}
use Rattle.pl_spec.specs.Parts.{bar_of}
use Rattle.pl_parts.specs.Parts.{world_of}
use Rattle.pl_parts.specs.Spans.{span_of}
use Rattle.pl_parts.specs.Kept.{if_kept, keeps_bar}
use Rattle.pl_parts.specs.Texts.{bar_line, bars_header, bars_text}
use Rattle.pl_parts.proofs.KeptRows.{begun, more, mapped-end}
use Rattle.pl_parts.proofs.bars.bars_text.Goals as goal

pub loop-i-init : goal.loop-i-init
loop-i-init c = begun (λ r. if_kept (keeps_bar (world_of c.args.world.now) (span_of c.args.span)) (bar_line c.args.world.now.sessions.now) (bar_of c.args.world.now.assets.now r)) (c.args.world.now.bars.now) bars_header _ _ c.new-out.ensures.items c.in_ok-put.ensures

pub loop-i-preserved : goal.loop-i-preserved
loop-i-preserved c = more (λ r. if_kept (keeps_bar (world_of c.args.world.now) (span_of c.args.span)) (bar_line c.args.world.now.sessions.now) (bar_of c.args.world.now.assets.now r)) (c.args.world.now.bars.now) c.loop-i.i bars_header _ _ c.loop-i.invariant c.in_ok-put_kept_bar.ensures

pub returns : goal.returns
unfolding bars_text
returns c =
    let end : length (c.args.world.now.bars.now) ≤ c.loop-i.i = omega (arith, c.loop-i-test.false, c.len-i-end.ensures.length) in
    mapped-end (keeps_bar (world_of c.args.world.now) (span_of c.args.span)) (bar_line c.args.world.now.sessions.now) (bar_of c.args.world.now.assets.now) (c.args.world.now.bars.now) c.loop-i.i bars_header _ end c.loop-i.invariant
