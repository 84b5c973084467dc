use Rattle.std.proofs.Common.{◌≡◌, ◌≤◌, ◌++◌, ◌∙◌, Some, length, slice_get, rules, sym, ap, arith}
use Rattle.std.proofs.lemmas.List.{append-nil, length-map, take_all}
use Rattle.std.proofs.lemmas.Option.{slice_get-get_or}
use Rattle.pl_adjust.specs.Events.{event_of}
use Rattle.pl_parts.specs.Kept.{shown}
use Rattle.pl_parts.specs.Texts.{lines_from, of_sid, ratios_header, ratios_text}
use Rattle.pl_parts.proofs.KeptRows.{lines-more, shown-at, shown-long}
use Rattle.pl_parts.proofs.tables.ratios_text.Goals as goal

pub loop-i-init : goal.loop-i-init
loop-i-init c = c.in_ok-put.ensures ∙ ap (λ l. l ++ ratios_header) c.new-out.ensures.items ∙ sym (append-nil ratios_header)

pub loop-i-preserved : goal.loop-i-preserved
loop-i-preserved c =
    let row = c.index.result.now in
    let at : slice_get c.in_ok-rows.rows.items c.loop-i.i ≡ Some c.index.result.now = slice_get-get_or c.in_ok-rows.rows.items c.loop-i.i c.index.result.now (omega arith) ∙ ap (λ x. Some x) (sym c.index.ensures) in
    lines-more (shown c.in_ok-rows.rows.items) c.loop-i.i (of_sid row.sid (event_of row.adjust)) ratios_header _ _ (shown-at c.in_ok-rows.rows.items c.loop-i.i row at) c.loop-i.invariant c.in_ok-put_ratio.ensures

pub returns : goal.returns
unfolding ratios_text
returns c =
    let end : length c.in_ok-rows.rows.items ≤ c.loop-i.i = omega (arith, c.loop-i-test.false) in
    c.loop-i.invariant ∙ ap (λ l. ratios_header ++ lines_from 1 l) (take_all c.loop-i.i (shown c.in_ok-rows.rows.items) (shown-long c.in_ok-rows.rows.items c.loop-i.i end) ∙ c.in_ok-rows.ensures.rows)
