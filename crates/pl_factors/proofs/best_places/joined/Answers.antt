use Rattle.std.proofs.Common.{◌≡◌, ◌≤◌, ◌<◌, ◌-◌, length, ap, sym, ◌∙◌, FitsSigned, w64, to_z, of_z}
use Rattle.std.proofs.lemmas.Int.{to_z-of_z}
use Rattle.pl_lanes.specs.Heights.{rank, best_of}
use Rattle.pl_lanes.proofs.Bits.{at-cell, at-exact, cell-fits}
use Rattle.pl_factors.proofs.Casts.{wide}
use Rattle.pl_factors.specs.Terms.{first_place}
use Rattle.pl_factors.specs.Spans.{before, after, last}
use Rattle.pl_factors.proofs.Bounds.{before-cells}
use Rattle.pl_factors.proofs.Peaks.{best-cell, kept-is}
use Rattle.pl_factors.proofs.FirstPlaces.{Leaves, best-enters, best-remains}
use Rattle.pl_factors.proofs.best_places.joined.Goals as goal

pub is_better-requires-clause-best : goal.is_better-requires-clause-best
is_better-requires-clause-best c =
    let fb : FitsSigned w64 c.args.best = c.ranges.best in
    rw (to_z-of_z w64 c.args.best fb, c.requires.best) (best-cell c.args.low (before c.args.a.now) (before-cells _ c.requires.cells))

pub returns-then-is_better : goal.returns-then-is_better
returns-then-is_better c =
    let xs = c.args.a.now in
    let fb : FitsSigned w64 c.args.best = c.ranges.best in
    let b : to_z w64 (of_z w64 c.args.best) ≡ best_of c.args.low (before xs) = to_z-of_z w64 c.args.best fb ∙ c.requires.best in
    let y : to_z w64 (of_z w64 (last xs)) ≡ last xs = at-exact xs (length xs - 1) c.requires.cells in
    let leaves : Leaves c.args.low xs = rw (c.requires.place, c.requires.best) at c.requires.stays in
    let more : rank c.args.low (best_of c.args.low (before xs)) < rank c.args.low (last xs) = rw (b, y) at (c.is_better.ensures.yes c.if-is_better.true) in
    let e = best-enters c.args.low xs c.requires.cells c.requires.some leaves more in
    kept-is _ _ _ _ (wide (last xs) (cell-fits _ (at-cell xs (length xs - 1) c.requires.cells)) ∙ sym e.0)
    (sym (ap (λ v. first_place v (after xs)) e.0 ∙ e.1))

pub returns-else-is_better : goal.returns-else-is_better
returns-else-is_better c =
    let xs = c.args.a.now in
    let fb : FitsSigned w64 c.args.best = c.ranges.best in
    let b : to_z w64 (of_z w64 c.args.best) ≡ best_of c.args.low (before xs) = to_z-of_z w64 c.args.best fb ∙ c.requires.best in
    let y : to_z w64 (of_z w64 (last xs)) ≡ last xs = at-exact xs (length xs - 1) c.requires.cells in
    let leaves : Leaves c.args.low xs = rw (c.requires.place, c.requires.best) at c.requires.stays in
    let less : rank c.args.low (last xs) ≤ rank c.args.low (best_of c.args.low (before xs)) = rw (b, y) at (c.is_better.ensures.no c.if-is_better.false) in
    let e = best-remains c.args.low xs c.requires.cells c.requires.some leaves less in
    kept-is _ _ _ _ (wide c.args.best fb ∙ c.requires.best ∙ sym e.0)
    (c.saturating_sub.ensures ∙ ap (λ n. n - 1) c.requires.place ∙ sym (ap (λ v. first_place v (after xs)) e.0 ∙ e.1))
