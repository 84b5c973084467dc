use Rattle.std.proofs.Common.{rules, w64, FitsSigned, to_z-of_z}
use Rattle.pl_terms.specs.Checked.{pipeline_of}
use Rattle.pl_cli.proofs.Cut.{first-inside, plan-span}
use Rattle.pl_cli.proofs.parts.span_of.Goals as goal

pub day-requires : goal.day-requires
day-requires c =
    let l = c.args.loaded.now in
    let fits : FitsSigned w64 c.reach-first.result = search rules in
    rw (to_z-of_z fits, c.reach-first.ensures.value) (first-inside l.world.sessions (pipeline_of l.checked) l.plan c.requires.ready.plan)

pub returns : goal.returns
returns c =
    let l = c.args.loaded.now in
    plan-span l.world.sessions (pipeline_of l.checked) l.plan c.requires.ready.plan _ _ _ _ (search rules) (search rules) (search rules) (search rules)
