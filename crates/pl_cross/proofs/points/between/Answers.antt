use Rattle.std.proofs.Common.{rules, FitsSigned}
use Rattle.std.specs.Int.{w128}
use Rattle.std.proofs.lemmas.Int.{to_z-of_z}
use Rattle.pl_cross.proofs.Shares.{parted-in}
use Rattle.pl_cross.proofs.points.between.Goals as goal

pub returns : goal.returns
returns c = λ k d h.
    let low : FitsSigned w128 c.edge-least.result = search rules in
    let high : FitsSigned w128 c.edge-greatest.result = search rules in
    let told = simp to_z-of_z at c.mark_between.ensures k d h in
    parted-in c.args.low c.args.high c.args.group.now c.edge-least.result c.edge-greatest.result _ c.edge-least.ensures.value c.edge-greatest.ensures.value k d told
