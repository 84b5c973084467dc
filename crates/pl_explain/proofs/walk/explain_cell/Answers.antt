use Rattle.std.proofs.Common.{arith, ◌≡◌, ◌<◌, ◌+◌, ◌∷◌, [], ◌∙◌, suc, ap, sym, subst, length, pos}
use Rattle.std.proofs.lemmas.Result.{err_from_is_err_and}
use Rattle.pl_spec.specs.Limits.{most_lines}
use Rattle.pl_spec.specs.Parts.{sid_at}
use Rattle.pl_terms.specs.Checked.{pipeline_of}
use Rattle.pl_derivation.specs.Facts.Fact.{TermValue}
use Rattle.pl_derivation.specs.Laws.{IsDerivation}
use Rattle.pl_derivation.specs.Lean.{IsLean}
use Rattle.pl_derivation.specs.Walks.{derivation, facts_for}
use Rattle.pl_world.specs.Worlds.{world_of}
use Rattle.pl_world.proofs.Evaluated.{sid-of}
use Rattle.pl_explain.specs.declared.walk.Walk.{Walk}
use Rattle.pl_explain.specs.Walking.{MayBeDerived, Finishes, IsTooLong}
use Rattle.pl_explain.proofs.Standing.{stands-first, derived, derived-long}
use Rattle.pl_explain.proofs.Finished.{asked-stands, asked-right, asked-lean}
use Rattle.pl_explain.proofs.walk.explain_cell.Goals as goal

pub finish-requires-clause-stands : goal.finish-requires-clause-stands
finish-requires-clause-stands g c =
    let w = c.args.world.now in
    let p = c.args.checked.now in
    stands-first w p (record { stated = c.new.result; rows = c.new-2.result; lines = c.new-3.result }) c.new.ensures c.new-2.ensures c.new-3.ensures.items c.parts_are_ready.ensures

pub finish-requires-clause-fact : goal.finish-requires-clause-fact
finish-requires-clause-fact g c =
    let w = c.args.world.now in
    let p = c.args.checked.now in
    let t0 = c.args.t.0 in
    let d = c.args.session in
    let same = sid-of w.assets.now c.args.col c.sid.result c.sid.ensures in
    subst (λ a. MayBeDerived w p (TermValue t0 a (pos d))) (sym same) (asked-stands w p t0 c.args.col d c.requires.used c.requires.col c.requires.session c.requires.reach)

pub returns-in_err-finish-clause-long : goal.returns-in_err-finish-clause-long
returns-in_err-finish-clause-long g c =
    let w = c.args.world.now in
    let p = c.args.checked.now in
    let t0 = c.args.t.0 in
    let d = c.args.session in
    let a = c.sid.result in
    let walk : Walk = record { stated = c.new.result; rows = c.new-2.result; lines = c.new-3.result } in
    let same = sid-of w.assets.now c.args.col a c.sid.ensures in
    let deep : suc (suc t0) ≡ t0 + 2 = omega arith in
    let q = err_from_is_err_and c.from_residual.result c.from_residual.ensures.1 in
    rw (q.1, q.2) (λ e.
    let long = subst (λ k. IsTooLong w p k walk (TermValue t0 a (pos d) ∷ [])) deep (c.in_err-finish.ensures.long e) in
    subst (λ b. most_lines < length (facts_for (world_of w) (pipeline_of p) (TermValue t0 b (pos d)))) same
    (derived-long w p walk c.new.ensures c.new-2.ensures c.new-3.ensures.items t0 a d long))

pub returns-clause-exact : goal.returns-clause-exact
returns-clause-exact g c =
    let w = c.args.world.now in
    let p = c.args.checked.now in
    let t0 = c.args.t.0 in
    let d = c.args.session in
    let a = c.sid.result in
    let walk : Walk = record { stated = c.new.result; rows = c.new-2.result; lines = c.new-3.result } in
    let same = sid-of w.assets.now c.args.col a c.sid.ensures in
    let deep : suc (suc t0) ≡ t0 + 2 = omega arith in
    let done = subst (λ k. Finishes w p k walk c.finish.new.walk (TermValue t0 a (pos d) ∷ [])) deep c.in_ok-finish.ensures.finished in
    c.of.ensures ∙ derived w p walk c.new.ensures c.new-2.ensures c.new-3.ensures.items t0 a d c.finish.new.walk done
    ∙ ap (λ b. derivation (world_of w) (pipeline_of p) t0 b (pos d)) same

pub returns-clause-right : goal.returns-clause-right
returns-clause-right g c =
    let w = c.args.world.now in
    let p = c.args.checked.now in
    subst (λ ls. IsDerivation (world_of w) (pipeline_of p) c.args.t.0 (sid_at w.assets.now c.args.col) c.args.session ls) (sym (returns-clause-exact g c))
    (asked-right w p c.args.t.0 c.args.col c.args.session c.requires.used c.requires.col c.requires.session c.requires.reach c.parts_are_ready.ensures.checked c.parts_are_ready.ensures.texts c.parts_make_a_world.ensures)

pub returns-clause-lean : goal.returns-clause-lean
returns-clause-lean g c =
    let w = c.args.world.now in
    let p = c.args.checked.now in
    subst (IsLean (world_of w) (pipeline_of p)) (sym (returns-clause-exact g c))
    (asked-lean w p c.args.t.0 c.args.col c.args.session c.requires.used c.requires.col c.requires.session c.requires.reach c.parts_are_ready.ensures.checked c.parts_are_ready.ensures.texts c.parts_make_a_world.ensures)
