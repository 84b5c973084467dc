-- What gathered revisions put is a cell.
use Rattle.std.proofs.Common.{◌≡◌, ◌++◌, ℕ, List, map, filter, All, Result, Ok, Err, OnOk}
use Rattle.std.proofs.lemmas.List.Elements.{All-append, All-filter, All-map}
use Rattle.pl_spec.specs.declared.AdjustmentKind.{AdjustmentKind}
use Rattle.pl_spec.specs.World.{Event, Adjustment}
use Rattle.pl_adjust.specs.Events.{PutsCell}
use Rattle.pl_cut.specs.Cuts.{Span}
use Rattle.pl_parts.specs.Kept.{keeps_event}
use Rattle.pl_parts.specs.Texts.{of_sid}

pub cells-more : {T E : Type 0} (kind : AdjustmentKind) (span : Span) (sid : ℕ) (es : List Event) (old new : List Adjustment) (r : Result T E) → All PutsCell es → All (λ x. PutsCell x.event) old
    → OnOk r (new ≡ old ++ map (of_sid sid) (filter (keeps_event kind span) es)) → OnOk r (All (λ x. PutsCell x.event) new)
cells-more kind span sid es old new (Ok x) cells before is =
    rw is (All-append (λ (y : Adjustment). PutsCell y.event) old _ before
    (All-map (λ (y : Adjustment). PutsCell y.event) (of_sid sid) (filter (keeps_event kind span) es) (All-filter (keeps_event kind span) PutsCell es cells)))
cells-more kind span sid es old new (Err x) cells before is = tt
