use Rattle.std.proofs.Common.{◌≡◌, ◌∷◌, [], ◌∙◌, Some, None, pos, ap, subst, sym}
use Rattle.pl_spec.specs.Rounding.{IsCell}
use Rattle.pl_pipeline.specs.Value.{Own, From}
use Rattle.pl_terms.specs.Checked.{pipeline_of}
use Rattle.pl_derivation.specs.Facts.{number_in, told_fact}
use Rattle.pl_derivation.proofs.Codes.{told_number}
use Rattle.pl_world.specs.Worlds.{world_of}
use Rattle.pl_world.proofs.Evaluated.{sid-of}
use Rattle.pl_world.specs.Views.{view_at}
use Rattle.pl_world.proofs.Views.{own-cell}
use Rattle.pl_explain.specs.Keys.{fact_of}
use Rattle.pl_explain.specs.Looking.{look}
use Rattle.pl_explain.specs.Given.{seen_value_in, sid_in, IsGiven}
use Rattle.pl_explain.specs.Reading.{told_by}
use Rattle.pl_explain.proofs.Given.{stated-one}
use Rattle.pl_explain.proofs.inputs.told_stated.Goals as goal

pub returns-in-None : goal.returns-in-None
returns-in-None c =
    let b = c.args.basis.now in
    let fact = told_fact (pipeline_of b.checked.now).graph c.args.t.0 (sid_in b c.args.col) (pos c.args.session) Own in
    let own = subst (λ x. IsGiven IsCell b.stated.now (fact ∷ []) x c.term_stated.result) (sym (own-cell b.world b.checked.now c.args.t.0 (sid_in b c.args.col) c.args.session)) c.term_stated.ensures in
    subst (λ o. IsGiven IsCell b.stated.now (told_fact (pipeline_of b.checked.now).graph c.args.t.0 (sid_in b c.args.col) (pos c.args.session) (view_at o) ∷ []) (seen_value_in b c.args.t.0 c.args.col c.args.session o) c.term_stated.result) (sym c.in-None.is) own

pub returns-in-Some : goal.returns-in-Some
returns-in-Some c =
    let b = c.args.basis.now in
    let w = world_of b.world in
    let p = pipeline_of b.checked.now in
    let s = c.args.session in
    let v = c.in-Some.view in
    let a = sid_in b c.args.col in
    let fact = told_fact p.graph c.args.t.0 a (pos s) (From (pos v)) in
    let at = sid-of b.world.assets.now c.args.col c.sid-sid.result c.sid-sid.ensures in
    let is : fact_of c.told_by.result ≡ fact = c.told_by.ensures ∙ ap (λ q. told_by q c.args.t.0 c.sid-sid.result (pos s) (pos v)) c.is_steady-steady.ensures ∙ ap (λ a. told_fact p.graph c.args.t.0 a (pos s) (From (pos v))) at in
    let one = stated-one b.stated.now w p c.requires.at.on.truth fact c.number.result (c.number.ensures ∙ ap (look b.stated.now) is) in
    let seen = subst (λ x. IsGiven IsCell b.stated.now (fact ∷ []) x c.number.result) (told_number w p (From (pos v)) c.args.t.0 a (pos s)) one in
    subst (λ o. IsGiven IsCell b.stated.now (told_fact p.graph c.args.t.0 a (pos s) (view_at o) ∷ []) (seen_value_in b c.args.t.0 c.args.col s o) c.number.result) (sym c.in-Some.is) seen
