use Rattle.std.proofs.Common.{rules, w32, w64, FitsSigned}
use Rattle.std.proofs.lemmas.Int.{to_z-of_z}
use Rattle.pl_adjust.specs.Events.{event_of}
use Rattle.pl_adjust.proofs.Folds.{seen_none, seen_one}
use Rattle.pl_adjust.proofs.seen.adjusted.Goals as goal

pub returns-in-Some-clause-value : goal.returns-in-Some-clause-value
returns-in-Some-clause-value g c =
    let cell : FitsSigned w64 c.args.cell = c.ranges.cell in
    let bar_day : FitsSigned w32 c.args.bar_day = c.ranges.bar_day in
    let result : FitsSigned w64 c.changed.result = search rules in
    simp to_z-of_z
    (seen_one c.args.column c.args.bar_day c.args.cell c.changed.result (event_of c.args.adjust.now) _
    (simp to_z-of_z at c.in-Some.ensures.some) (simp to_z-of_z at c.changed.ensures.value))

pub returns-in-None-clause-value : goal.returns-in-None-clause-value
returns-in-None-clause-value g c =
    let cell : FitsSigned w64 c.args.cell = c.ranges.cell in
    let bar_day : FitsSigned w32 c.args.bar_day = c.ranges.bar_day in
    simp to_z-of_z
    (seen_none c.args.column c.args.bar_day c.args.cell (event_of c.args.adjust.now) (simp to_z-of_z at c.in-None.ensures.none))
