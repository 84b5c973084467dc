use Rattle.std.proofs.Common.{◌≡◌, ◌≤◌, ◌++◌, ◌∙◌, Some, length, slice_get, rules, sym, ap, arith}
use Rattle.std.specs.Prelude.{flat_map}
use Rattle.std.proofs.lemmas.Option.{slice_get-get_or}
use Rattle.pl_adjust.specs.Events.{PutsCell, event_of}
use Rattle.pl_parts.specs.Kept.{shown}
use Rattle.pl_parts.specs.Texts.{of_sid, revision_line, revisions_header, revisions_text}
use Rattle.pl_parts.proofs.KeptRows.{begun, more, all-end, row-more, at-place, shown-at, shown-long, shown-puts}
use Rattle.pl_parts.proofs.tables.revisions_text.Goals as goal

pub loop-i-init : goal.loop-i-init
loop-i-init c = begun revision_line (shown c.in_ok-rows.rows.items) revisions_header _ _ c.new-out.ensures.items c.in_ok-put.ensures

pub put_revision-requires : goal.put_revision-requires
put_revision-requires c =
    let at : slice_get c.in_ok-rows.rows.items c.loop-i.i ≡ Some c.index.result.now = slice_get-get_or c.in_ok-rows.rows.items c.loop-i.i c.index.result.now (omega arith) ∙ ap (λ x. Some x) (sym c.index.ensures) in
    record { cell = shown-puts c.in_ok-rows.rows.items c.loop-i.i c.index.result.now at c.in_ok-rows.ensures.cells }

pub loop-i-preserved : goal.loop-i-preserved
loop-i-preserved c =
    let row = c.index.result.now in
    let xs = shown c.in_ok-rows.rows.items in
    let at : slice_get c.in_ok-rows.rows.items c.loop-i.i ≡ Some c.index.result.now = slice_get-get_or c.in_ok-rows.rows.items c.loop-i.i c.index.result.now (omega arith) ∙ ap (λ x. Some x) (sym c.index.ensures) in
    more revision_line xs c.loop-i.i revisions_header _ _ c.loop-i.invariant
    (row-more _ _ _ _ c.in_ok-put_revision.ensures (at-place revision_line xs c.loop-i.i (of_sid row.sid (event_of row.adjust)) (shown-at c.in_ok-rows.rows.items c.loop-i.i row at)))

pub returns : goal.returns
unfolding revisions_text
returns c =
    let end : length c.in_ok-rows.rows.items ≤ c.loop-i.i = omega (arith, c.loop-i-test.false) in
    all-end revision_line (shown c.in_ok-rows.rows.items) c.loop-i.i revisions_header _ (shown-long c.in_ok-rows.rows.items c.loop-i.i end) c.loop-i.invariant
    ∙ ap (λ l. revisions_header ++ flat_map revision_line l) c.in_ok-rows.ensures.rows
