use Rattle.std.proofs.Common.{◌≡◌, ◌∙◌, true, Some, map, filter, slice_get, sym, ap}
use Rattle.pl_adjust.specs.Columns.{events_at}
use Rattle.pl_adjust.specs.Events.{event_of}
use Rattle.pl_adjust.proofs.Sids.{column_events}
use Rattle.pl_cut.specs.Cuts.{is_of, lives_in, cut}
use Rattle.pl_parts.specs.Parts.{world_of}
use Rattle.pl_parts.specs.Spans.{span_of}
use Rattle.pl_parts.specs.Kept.{keeps_event, rows_kept, shown}
use Rattle.pl_parts.specs.Texts.{of_sid, rows_of}
use Rattle.pl_parts.proofs.KeptRows.{nothing-more, on-ok-more, at-kept, at-left}
use Rattle.pl_parts.proofs.ByColumn.{of-col, rows-at}
use Rattle.pl_parts.proofs.Cells.{cells-more}
use Rattle.pl_parts.proofs.gathering.add_asset.Goals as goal

pub returns-then-not-lives_in-clause-rows : goal.returns-then-not-lives_in-clause-rows
returns-then-not-lives_in-clause-rows c =
    let w = world_of c.args.world.now in
    let span = span_of c.args.span in
    nothing-more _ _ (at-left (lives_in span) (λ a. rows_of c.args.kind (cut w span) a.sid) (λ a. a) c.args.world.now.assets.now c.args.col c.row-asset.result c.row-asset.ensures (sym c.lives_in.ensures ∙ c.if-not-lives_in.true))

pub returns-clause-rows : goal.returns-clause-rows
returns-clause-rows c =
    let v = c.args.world.now in
    let w = world_of c.args.world.now in
    let span = span_of c.args.span in
    let a = c.row-asset.result in
    let at = c.row-asset.ensures in
    let lives : lives_in (span_of c.args.span) c.row-asset.result ≡ true = sym c.lives_in.ensures ∙ c.if-not-lives_in.false in
    let of : is_of (world_of c.args.world.now) (span_of c.args.span) c.row-asset.result.sid ≡ true = of-col w span c.requires.made.sids_ascend c.args.col a at ∙ lives in
    let events = column_events v.sessions.now v.assets.now v.labels.now.rows v.labels.now.texts v.bars.now v.adjustments.now v.numbers.now.rows c.requires.made.sids_ascend c.requires.made.adjustments_in c.args.col a at in
    on-ok-more c.add_rows.result _ _ _ _ c.add_rows.ensures
    (ap (λ es. map (of_sid a.sid) (filter (keeps_event c.args.kind span) es)) (c.of_col.ensures.events ∙ sym events)
    ∙ sym (rows-at c.args.kind w span a.sid of)
    ∙ at-kept (lives_in span) (λ x. rows_of c.args.kind (cut w span) x.sid) (λ x. x) v.assets.now c.args.col a at lives)

pub returns-clause-cells : goal.returns-clause-cells
returns-clause-cells c = λ old.
    cells-more c.args.kind (span_of c.args.span) c.row-asset.result.sid (map event_of c.of_col.result.now) _ _ _ c.of_col.ensures.cells old c.add_rows.ensures
