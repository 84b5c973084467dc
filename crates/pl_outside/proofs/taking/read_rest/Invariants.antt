use Rattle.std.proofs.Common.{◌≡◌, ◌≤◌, ◌+◌, ◌-◌, IsTrue}
use Rattle.pl_outside.specs.Counts.{count_plus}
use Rattle.pl_outside.proofs.HandedOn.{IsHandedOn, RestIs, Gave}
use Rattle.pl_outside.proofs.taking.read_rest.Given as goal

abbrev pub invariant-loop-count : goal.invariant-loop-count
invariant-loop-count g l =
    let shelf = g.S.Shelf in
    let taker = g.T.Taker in
    record {
      within : l.count ≤ l.cap + 1;
      on : IsHandedOn l.count (λ bytes. taker.after l.fn.into bytes l.into) (RestIs (shelf.holds l.fn.shelf) (shelf.rest l.fn.shelf) (shelf.rest l.shelf))
          (Gave (shelf.gave l.fn.shelf) (shelf.gave l.shelf));
      named : shelf.begun l.shelf ≡ shelf.begun l.fn.shelf;
      later : shelf.faults l.fn.shelf ≤ shelf.faults l.shelf;
      given : shelf.given l.shelf ≡ count_plus (shelf.given l.fn.shelf) l.count;
      calls : shelf.calls l.shelf ≤ shelf.calls l.fn.shelf + l.count;
      quiet : IsTrue (shelf.sound l.fn.shelf) → shelf.faults l.shelf ≡ shelf.faults l.fn.shelf;
      keeps : shelf.holds l.shelf ≡ shelf.holds l.fn.shelf;
      stays : shelf.sound l.shelf ≡ shelf.sound l.fn.shelf;
    }

abbrev pub decreases-loop-count : goal.decreases-loop-count
decreases-loop-count g l = (l.cap + 1) - l.count
