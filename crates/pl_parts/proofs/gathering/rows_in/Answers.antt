use Rattle.std.proofs.Common.{◌≡◌, ◌≤◌, [], length, ap, arith}
use Rattle.pl_cut.specs.Cuts.{lives_in, cut}
use Rattle.pl_parts.specs.Parts.{world_of}
use Rattle.pl_parts.specs.Spans.{span_of}
use Rattle.pl_parts.specs.Kept.{rows_kept, shown}
use Rattle.pl_parts.specs.Texts.{rows_of}
use Rattle.pl_parts.proofs.KeptRows.{more, kept-end}
use Rattle.pl_parts.proofs.gathering.rows_in.Goals as goal

pub loop-col-init : goal.loop-col-init
loop-col-init c = record {
  gathered = ap shown c.new-rows.ensures.items;
  cells = rw c.new-rows.ensures.items (λ k d l. absurd (omega arith));
}

pub loop-col-preserved : goal.loop-col-preserved
loop-col-preserved c = record {
  gathered = more (rows_kept c.args.kind (world_of c.args.world.now) (span_of c.args.span)) c.args.world.now.assets.now c.loop-col.col [] _ _ c.loop-col.invariant.gathered c.in_ok-add_asset.ensures.rows;
  cells = c.in_ok-add_asset.ensures.cells c.loop-col.invariant.cells;
}

pub returns-clause-rows : goal.returns-clause-rows
returns-clause-rows c =
    let w = world_of c.args.world.now in
    let span = span_of c.args.span in
    let end : length c.args.world.now.assets.now ≤ c.loop-col.col = omega (arith, c.loop-col-test.false, c.len-col-end.ensures.length) in
    kept-end (lives_in span) (λ a. rows_of c.args.kind (cut w span) a.sid) c.args.world.now.assets.now c.loop-col.col [] _ end c.loop-col.invariant.gathered
