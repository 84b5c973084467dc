use Rattle.std.proofs.Common.{rules, w32, FitsSigned, sym, ap, ◌∙◌, pos, get_or, ℕ}
use Rattle.std.proofs.lemmas.Int.{to_z-of_z}
use Rattle.pl_spec.specs.World.{exists}
use Rattle.pl_world.proofs.Lifetimes.{exists-at}
use Rattle.pl_table.specs.Outcomes.{world_in}
use Rattle.pl_table.proofs.Outputs.{sid-of-place}
use Rattle.pl_table.proofs.existence.exists.Goals as goal

pub returns : goal.returns
returns c =
    let day : FitsSigned w32 c.day-day.result = search rules in
    let lives = simp to_z-of_z at c.exists.ensures.exact in
    let o = c.args.outcome.now in
    sym (ap (λ (a : ℕ). exists (world_in o) a (pos c.args.session)) (sid-of-place o.asked.world.assets.now o.cols.now c.args.place c.requires.place)
    ∙ exists-at (world_in o) (get_or o.cols.now c.args.place 0) c.args.session c.day-day.result c.exists.result c.exists.ensures.assets.ascend c.day-day.ensures.exact lives)
