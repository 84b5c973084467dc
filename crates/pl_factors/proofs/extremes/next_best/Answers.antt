use Rattle.std.proofs.Common.{◌≡◌, ◌≢◌, ◌⊎◌, ◌-◌, length, rules, ap₂, sym, ◌∙◌, FitsSigned, w64}
use Rattle.std.proofs.lemmas.Int.{to_z-of_z}
use Rattle.pl_spec.specs.Rounding.{MISSING}
use Rattle.pl_lanes.specs.Heights.{best_of}
use Rattle.pl_lanes.proofs.Bits.{at-exact}
use Rattle.pl_factors.specs.Spans.{before, first}
use Rattle.pl_factors.specs.Laws.{better}
use Rattle.pl_factors.proofs.Peaks.{leaves-unlike, best-moves}
use Rattle.pl_factors.proofs.extremes.next_best.Goals as goal

pub returns-else-a-best : goal.returns-else-a-best
returns-else-a-best c =
    let xs = c.args.a.now in
    let fb : FitsSigned w64 c.args.best = c.ranges.best in
    let fr : FitsSigned w64 c.better.result = search rules in
    let is : c.args.best ≡ best_of c.args.low (before xs) = c.requires.is in
    let unlike : (first xs ≢ best_of c.args.low (before xs)) ⊎ (best_of c.args.low (before xs) ≡ MISSING) = rw is at (leaves-unlike (first xs) c.args.best fb c.else-a-best.either) in
    to_z-of_z w64 _ fr ∙ c.better.ensures ∙ ap₂ (better c.args.low) (to_z-of_z w64 c.args.best fb ∙ is) (at-exact xs (length xs - 1) c.requires.cells)
    ∙ sym (best-moves c.args.low xs c.requires.cells c.requires.some unlike)
