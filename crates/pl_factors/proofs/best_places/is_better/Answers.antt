use Rattle.std.proofs.Common.{FitsSigned, w64, arith}
use Rattle.std.proofs.lemmas.Int.{to_z-of_z}
use Rattle.pl_lanes.specs.Heights.{rank}
use Rattle.pl_lanes.proofs.Cells.{is_gone, is_within}
use Rattle.pl_factors.proofs.Peaks.{higher-is, lower-is, depth-some, depth-none}
use Rattle.pl_fixed.proofs.CellLemmas.{is_missing-not}
use Rattle.pl_factors.proofs.best_places.is_better.Goals as goal

pub returns-then-x-eq-MISSING-clause-no : goal.returns-then-x-eq-MISSING-clause-no
unfolding rank
returns-then-x-eq-MISSING-clause-no c = λ _. rw c.if-low.true (let z = depth-none c.args.x (is_gone c.args.x c.ranges.x c.if-x-eq-MISSING.true) in omega (arith, z))

pub returns-then-best-eq-MISSING-clause-yes : goal.returns-then-best-eq-MISSING-clause-yes
unfolding rank
returns-then-best-eq-MISSING-clause-yes c = λ _.
    let z = depth-none c.args.best (is_gone c.args.best c.ranges.best c.if-best-eq-MISSING.true) in
    let s = depth-some c.args.x (is_within c.args.x c.requires.cell (is_missing-not c.args.x c.ranges.x c.if-x-eq-MISSING.false)) in
    rw c.if-low.true (omega (arith, z, s))

pub returns-else-best-eq-MISSING-clause-yes : goal.returns-else-best-eq-MISSING-clause-yes
unfolding rank
returns-else-best-eq-MISSING-clause-yes c =
    let fx : FitsSigned w64 c.args.x = c.ranges.x in
    let fb : FitsSigned w64 c.args.best = c.ranges.best in
    let x = is_within c.args.x c.requires.cell (is_missing-not c.args.x fx c.if-x-eq-MISSING.false) in
    let g = is_within c.args.best c.requires.best (is_missing-not c.args.best fb c.if-best-eq-MISSING.false) in
    rw (c.if-low.true, to_z-of_z w64 c.args.best fb, to_z-of_z w64 c.args.x fx) (lower-is c.args.x c.args.best x g).0

pub returns-else-best-eq-MISSING-clause-no : goal.returns-else-best-eq-MISSING-clause-no
unfolding rank
returns-else-best-eq-MISSING-clause-no c =
    let fx : FitsSigned w64 c.args.x = c.ranges.x in
    let fb : FitsSigned w64 c.args.best = c.ranges.best in
    let x = is_within c.args.x c.requires.cell (is_missing-not c.args.x fx c.if-x-eq-MISSING.false) in
    let g = is_within c.args.best c.requires.best (is_missing-not c.args.best fb c.if-best-eq-MISSING.false) in
    rw (c.if-low.true, to_z-of_z w64 c.args.best fb, to_z-of_z w64 c.args.x fx) (lower-is c.args.x c.args.best x g).1

pub returns-else-low-clause-yes : goal.returns-else-low-clause-yes
unfolding rank
returns-else-low-clause-yes c =
    let fx : FitsSigned w64 c.args.x = c.ranges.x in
    let fb : FitsSigned w64 c.args.best = c.ranges.best in
    rw (c.if-low.false, to_z-of_z w64 c.args.best fb, to_z-of_z w64 c.args.x fx) (higher-is c.args.x c.args.best c.requires.cell c.requires.best).0

pub returns-else-low-clause-no : goal.returns-else-low-clause-no
unfolding rank
returns-else-low-clause-no c =
    let fx : FitsSigned w64 c.args.x = c.ranges.x in
    let fb : FitsSigned w64 c.args.best = c.ranges.best in
    rw (c.if-low.false, to_z-of_z w64 c.args.best fb, to_z-of_z w64 c.args.x fx) (higher-is c.args.x c.args.best c.requires.cell c.requires.best).1
