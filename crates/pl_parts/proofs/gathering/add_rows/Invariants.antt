use Rattle.std.proofs.Common.{◌≡◌, ◌++◌, ◌∷◌, [], take}
use Rattle.std.specs.Prelude.{flat_map}
use Rattle.pl_adjust.specs.Events.{event_of}
use Rattle.pl_parts.specs.Spans.{span_of}
use Rattle.pl_parts.specs.Kept.{if_kept, keeps_event, shown}
use Rattle.pl_parts.specs.Texts.{of_sid}
use Rattle.pl_parts.proofs.gathering.add_rows.Given as goal

abbrev pub invariant-loop-i : goal.invariant-loop-i
invariant-loop-i l = shown l.rows.items ≡ shown l.fn.rows.items
    ++ flat_map (λ a. if_kept (keeps_event l.kind (span_of l.span)) (λ e. of_sid l.sid e ∷ []) (event_of a)) (take l.i l.adjusts)
