use Rattle.std.proofs.Common.{rules, ◌≡◌, ◌<◌, ◌∙◌, ap, refl, length, vec_len, arith}
use Rattle.pl_planner.specs.Cones.{pairs_of}
use Rattle.pl_planner.proofs.Coned.{cone-within, cone-at, cones-long}
use Rattle.pl_planner.proofs.plans.Plan.cone.Goals as goal

pub index-requires : goal.index-requires
index-requires c =
    let m : vec_len c.self.inside.cones ≡ length c.self.inside.cones.items = search rules in
    let l = cone-within _ c.args.self.now c.self.view_is c.self.invariant c.args.t.0 c.requires in
    omega (arith, m, l, cones-long c.self.inside.cones.items)

pub returns : goal.returns
returns c =
    let l = cone-within _ c.args.self.now c.self.view_is c.self.invariant c.args.t.0 c.requires in
    let inside : c.args.t.0 < length c.self.inside.cones.items = omega (arith, l, cones-long c.self.inside.cones.items) in
    ap pairs_of c.deref.ensures.value ∙ cone-at _ c.args.self.now c.self.view_is c.args.t.0 c.self.inside.cones.items c.index.result.now inside c.index.ensures refl
