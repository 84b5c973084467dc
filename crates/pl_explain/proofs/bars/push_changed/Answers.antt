use Rattle.std.proofs.Common.{◌≡◌, ◌++◌, ◌∷◌, [], rules, w32, w64, FitsSigned}
use Rattle.std.proofs.lemmas.Int.{to_z-of_z}
use Rattle.pl_spec.specs.Rounding.{IsCell}
use Rattle.pl_world.proofs.Windowing.{all-more}
use Rattle.pl_explain.proofs.Growing.{grows-none, grows-some}
use Rattle.pl_explain.proofs.bars.push_changed.Goals as goal

pub returns-in-None-clause-value : goal.returns-in-None-clause-value
returns-in-None-clause-value g c =
    let cell : FitsSigned w64 c.args.cell = c.ranges.cell in
    let day : FitsSigned w32 c.args.bar_day = c.ranges.bar_day in
    simp to_z-of_z (grows-none c.args.cell _ c.args.cells.now.items (simp to_z-of_z at c.in-None.ensures.none))

pub returns-in_ok-push-in-Some-clause-value : goal.returns-in_ok-push-in-Some-clause-value
returns-in_ok-push-in-Some-clause-value g c =
    let cell : FitsSigned w64 c.args.cell = c.ranges.cell in
    let day : FitsSigned w32 c.args.bar_day = c.ranges.bar_day in
    let next : FitsSigned w64 c.changed-next.result = search rules in
    let pushed : c.push.new.self.items ≡ c.args.cells.now.items ++ c.changed-next.result ∷ [] = search rules in
    simp to_z-of_z (grows-some c.args.cell _ _ c.args.cells.now.items c.push.new.self.items c.changed-next.result (simp to_z-of_z at c.in-Some.ensures.some) (simp to_z-of_z at c.changed-next.ensures.value) pushed)

pub returns-in_ok-push-in-Some-clause-cells : goal.returns-in_ok-push-in-Some-clause-cells
returns-in_ok-push-in-Some-clause-cells g c =
    let next : FitsSigned w64 c.changed-next.result = search rules in
    let pushed : c.push.new.self.items ≡ c.args.cells.now.items ++ c.changed-next.result ∷ [] = search rules in
    all-more IsCell c.args.cells.now.items c.push.new.self.items c.changed-next.result pushed c.requires.cells c.changed-next.ensures.cell
