use Rattle.std.proofs.Common.{◌≡◌, ◌≤◌, ◌++◌, [], length, arith}
use Rattle.pl_cut.specs.Cuts.{lives_in}
use Rattle.pl_parts.specs.Spans.{span_of}
use Rattle.pl_parts.specs.Kept.{if_kept}
use Rattle.pl_parts.specs.Texts.{asset_line, assets_header, assets_text}
use Rattle.pl_parts.proofs.KeptRows.{begun, more, kept-end}
use Rattle.pl_parts.proofs.assets.assets_text.Goals as goal

pub loop-col-init : goal.loop-col-init
loop-col-init c = begun (if_kept (lives_in (span_of c.args.span)) asset_line) (c.args.world.now.assets.now) assets_header _ _ c.new-out.ensures.items c.in_ok-put.ensures

pub loop-col-preserved : goal.loop-col-preserved
loop-col-preserved c = more (if_kept (lives_in (span_of c.args.span)) asset_line) (c.args.world.now.assets.now) c.loop-col.col assets_header _ _ c.loop-col.invariant c.in_ok-put_kept_asset.ensures

pub returns : goal.returns
unfolding assets_text
returns c =
    let end : length (c.args.world.now.assets.now) ≤ c.loop-col.col = omega (arith, c.loop-col-test.false, c.len-col-end.ensures.length) in
    kept-end (lives_in (span_of c.args.span)) asset_line (c.args.world.now.assets.now) c.loop-col.col assets_header _ end c.loop-col.invariant
