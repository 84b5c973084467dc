use Rattle.std.proofs.Common.{◌∙◌, sym, pos}
use Rattle.pl_spec.specs.Parts.{sid_at}
use Rattle.pl_terms.specs.Checked.{pipeline_of}
use Rattle.pl_world.specs.Worlds.{world_of}
use Rattle.pl_explain.proofs.Known.{gone-unknown, other-unknown, known-named, number-known}
use Rattle.pl_explain.proofs.records.known_day.Goals as goal

pub returns-then-not-exists-clause-exact : goal.returns-then-not-exists-clause-exact
returns-then-not-exists-clause-exact c =
    let w = c.args.world.now in
    gone-unknown (world_of w) (pipeline_of c.args.checked.now) c.args.t.0 (sid_at w.assets.now c.args.col) (pos c.args.session) (sym c.exists.ensures.value ∙ c.if-not-exists.true)

pub number_day-requires-clause-name : goal.number_day-requires-clause-name
number_day-requires-clause-name c =
    known-named c.args.world.now c.args.checked.now c.args.t.0 c.node_in.result.now c.node_in.ensures (sid_at c.args.world.now.assets.now c.args.col) c.args.session c.requires.ready.checked c.in-Some.field-0.0 c.in-Some.name c.in-Some.ensures.some

pub returns-in-Some-clause-exact : goal.returns-in-Some-clause-exact
returns-in-Some-clause-exact c =
    let there = sym c.exists.ensures.value ∙ c.if-not-exists.false in
    c.number_day.ensures.exact
    ∙ number-known c.args.world.now c.args.checked.now c.args.t.0 c.node_in.result.now c.node_in.ensures (sid_at c.args.world.now.assets.now c.args.col) c.args.session there c.in-Some.field-0.0 c.in-Some.name c.in-Some.ensures.some

pub returns-in-None-clause-exact : goal.returns-in-None-clause-exact
returns-in-None-clause-exact c =
    let there = sym c.exists.ensures.value ∙ c.if-not-exists.false in
    other-unknown c.args.world.now c.args.checked.now c.args.t.0 c.node_in.result.now c.node_in.ensures (sid_at c.args.world.now.assets.now c.args.col) c.args.session there (rw c.in-None.is at c.number_name.ensures.none)
