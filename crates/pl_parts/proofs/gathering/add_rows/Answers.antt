use Rattle.std.proofs.Common.{◌≡◌, ◌≤◌, ◌++◌, ◌∷◌, [], ◌∙◌, Some, length, map, filter, slice_get, sym, ap, arith}
use Rattle.std.proofs.lemmas.List.{append-nil}
use Rattle.std.proofs.lemmas.List.Concat.{flat_map_single}
use Rattle.std.proofs.lemmas.Option.{slice_get-get_or}
use Rattle.pl_adjust.specs.Events.{event_of}
use Rattle.pl_parts.specs.Spans.{span_of}
use Rattle.pl_parts.specs.Kept.{if_kept, keeps_event, shown}
use Rattle.pl_parts.specs.Texts.{of_sid}
use Rattle.pl_parts.proofs.KeptRows.{more, mapped-end, at-place}
use Rattle.pl_parts.proofs.gathering.add_rows.Goals as goal

pub loop-i-init : goal.loop-i-init
loop-i-init c = sym (append-nil (shown c.args.rows.now.items))

pub loop-i-preserved : goal.loop-i-preserved
loop-i-preserved c =
    let xs = c.args.adjusts.now in
    let x = c.index-adjusts-i.result in
    let at : slice_get c.args.adjusts.now c.loop-i.i ≡ Some c.index-adjusts-i.result = slice_get-get_or xs c.loop-i.i x (omega (arith, c.loop-i-test.true)) ∙ ap (λ y. Some y) (sym c.index-adjusts-i.is) in
    let added : shown c.add_kept.new.rows.items ≡ shown c.loop-i.rows.items ++ if_kept (keeps_event c.args.kind (span_of c.args.span)) (λ e. of_sid c.args.sid e ∷ []) (event_of c.index-adjusts-i.result) = c.in_ok-add_kept.ensures in
    more (λ a. if_kept (keeps_event c.args.kind (span_of c.args.span)) (λ e. of_sid c.args.sid e ∷ []) (event_of a)) xs c.loop-i.i (shown c.args.rows.now.items) (shown c.loop-i.rows.items) (shown c.add_kept.new.rows.items) c.loop-i.invariant
    (added ∙ ap (λ l. shown c.loop-i.rows.items ++ l) (at-place (λ a. if_kept (keeps_event c.args.kind (span_of c.args.span)) (λ e. of_sid c.args.sid e ∷ []) (event_of a)) xs c.loop-i.i x at))

pub returns : goal.returns
returns c =
    let end : length c.args.adjusts.now ≤ c.loop-i.i = omega (arith, c.loop-i-test.false) in
    mapped-end (keeps_event c.args.kind (span_of c.args.span)) (λ e. of_sid c.args.sid e ∷ []) event_of c.args.adjusts.now c.loop-i.i _ _ end c.loop-i.invariant
    ∙ ap (λ l. shown c.args.rows.now.items ++ l) (flat_map_single (of_sid c.args.sid) (filter (keeps_event c.args.kind (span_of c.args.span)) (map event_of c.args.adjusts.now)))
