use Rattle.std.proofs.Common.{rules, List, subst}
use Rattle.pl_planner.specs.declared.cones.ConeTerm.{ConeTerm}
use Rattle.pl_daily.proofs.Depths.{Deepens, deepen-none, deepen-own, deepen-past, rest-is}
use Rattle.pl_daily.proofs.capacities.+deepen.Goals as goal

pub returns-in_default-clause-each : goal.returns-in_default-clause-each
returns-in_default-clause-each t c = deepen-none c.args.depths.now c.args.cone.now (search rules)

pub returns-then-own-depths-clause-each : goal.returns-then-own-depths-clause-each
returns-then-own-depths-clause-each t c =
    let cone = c.args.cone.now in
    deepen-own c.args.depths.now c.deepen.new.depths cone _ c.max.result (search rules) (search rules) (search rules)
    (subst (λ (l : List ConeTerm). Deepens c.args.depths.now c.deepen.new.depths l) (rest-is cone) c.deepen.ensures.each)

pub returns-else-own-depths-clause-each : goal.returns-else-own-depths-clause-each
returns-else-own-depths-clause-each t c =
    let cone = c.args.cone.now in
    let none : ConeTerm = record { term = record { 0 = 0 }; depth = 0 } in
    deepen-past c.args.depths.now c.deepen.new.depths cone none (search rules) (search rules)
    (subst (λ (l : List ConeTerm). Deepens c.args.depths.now c.deepen.new.depths l) (rest-is cone) c.deepen.ensures.each) c.deepen.ensures.long
