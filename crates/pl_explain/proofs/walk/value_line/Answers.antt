use Rattle.std.proofs.Common.{◌≡◌, ◌∙◌, None, Some, ap, pos, rules, subst, sym, w32, w64, FitsSigned}
use Rattle.std.proofs.lemmas.Int.{to_z-of_z}
use Rattle.pl_spec.specs.Parts.{sid_at}
use Rattle.pl_terms.specs.Checked.{pipeline_of}
use Rattle.pl_derivation.specs.Facts.{value_fact}
use Rattle.pl_derivation.specs.Lines.Line.{SeenValueLine, ValueLine}
use Rattle.pl_derivation.specs.Walks.{line_for}
use Rattle.pl_world.specs.Worlds.{world_of}
use Rattle.pl_world.specs.Views.{seen_in, view_at}
use Rattle.pl_world.proofs.Evaluated.{sid-of}
use Rattle.pl_world.proofs.Views.{own-cell}
use Rattle.pl_explain.proofs.Behind.{view-within, worth-day, worth-within}
use Rattle.pl_explain.proofs.Finished.{seen-line, value-line}
use Rattle.pl_explain.proofs.walk.value_line.Goals as goal

pub day-day-requires : goal.day-day-requires
day-day-requires c =
    worth-day c.args.source.now.world c.args.source.now.checked.now c.requires.ready.checked c.args.t.0 (sid_at c.args.source.now.world.assets.now c.args.col) c.args.session c.args.view c.requires.fact

pub known_day-requires-clause-term : goal.known_day-requires-clause-term
known_day-requires-clause-term c =
    worth-within c.args.source.now.world c.args.source.now.checked.now c.requires.ready.checked c.args.t.0 (sid_at c.args.source.now.world.assets.now c.args.col) c.args.session c.args.view c.requires.fact

pub known_day-requires-clause-session : goal.known_day-requires-clause-session
known_day-requires-clause-session c =
    worth-day c.args.source.now.world c.args.source.now.checked.now c.requires.ready.checked c.args.t.0 (sid_at c.args.source.now.world.assets.now c.args.col) c.args.session c.args.view c.requires.fact

pub day-requires : goal.day-requires
day-requires c =
    view-within c.args.source.now.world c.args.source.now.checked.now c.requires.ready.checked c.args.t.0 (sid_at c.args.source.now.world.assets.now c.args.col) c.args.session c.args.view c.requires.fact c.in-Some.view c.in-Some.is

pub returns-in-None-clause-line : goal.returns-in-None-clause-line
returns-in-None-clause-line c =
    let w = c.args.source.now.world in
    let p = c.args.source.now.checked.now in
    let t0 = c.args.t.0 in
    let s = c.args.session in
    let a = sid_at w.assets.now c.args.col in
    let x = c.args.value in
    let day = c.day-day.result in
    let fits : FitsSigned w64 c.args.value = c.ranges.value in
    let fits_day : FitsSigned w32 c.day-day.result = search rules in
    let place = sid-of w.assets.now c.args.col c.sid-sid.result c.sid-sid.ensures in
    let value = c.requires.value ∙ ap (λ v. seen_in w p t0 v a s) c.in-None.is ∙ own-cell w p t0 a s in
    let line = ap (λ b. ValueLine t0 b day x c.known_day.result) place ∙ value-line w p t0 a s day x c.known_day.result c.day-day.ensures.exact value c.known_day.ensures.exact in
    simp to_z-of_z (subst (λ v. ValueLine t0 c.sid-sid.result day x c.known_day.result ≡ line_for (world_of w) (pipeline_of p) (value_fact t0 a (pos s) (view_at v))) (sym c.in-None.is) line)

pub returns-in-Some-clause-line : goal.returns-in-Some-clause-line
returns-in-Some-clause-line c =
    let w = c.args.source.now.world in
    let p = c.args.source.now.checked.now in
    let t0 = c.args.t.0 in
    let s = c.args.session in
    let v = c.in-Some.view in
    let a = sid_at w.assets.now c.args.col in
    let x = c.args.value in
    let own = c.day-day.result in
    let day = c.day.result in
    let fits : FitsSigned w64 c.args.value = c.ranges.value in
    let fits_own : FitsSigned w32 c.day-day.result = search rules in
    let fits_day : FitsSigned w32 c.day.result = search rules in
    let place = sid-of w.assets.now c.args.col c.sid-sid.result c.sid-sid.ensures in
    let value = c.requires.value ∙ ap (λ o. seen_in w p t0 o a s) c.in-Some.is in
    let line = ap (λ b. SeenValueLine t0 b own day x) place ∙ seen-line w p t0 a s v own day x c.day-day.ensures.exact c.day.ensures.exact value in
    simp to_z-of_z (subst (λ o. SeenValueLine t0 c.sid-sid.result own day x ≡ line_for (world_of w) (pipeline_of p) (value_fact t0 a (pos s) (view_at o))) (sym c.in-Some.is) line)
