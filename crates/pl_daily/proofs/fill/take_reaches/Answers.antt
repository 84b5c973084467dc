use Rattle.std.proofs.Common.{◌≡◌, ◌∙◌, ap, sym, subst, length, List, ℕ, Option}
use Rattle.std.proofs.lemmas.List.{length-map, take_at}
use Rattle.pl_terms.specs.Checked.{pipeline_of}
use Rattle.pl_daily.specs.declared.starts.StartCells.{StartCells}
use Rattle.pl_daily.specs.Reaches.{FollowFirst}
use Rattle.pl_daily.specs.Steps.{sessions_of}
use Rattle.pl_daily.proofs.fill.take_reaches.Goals as goal

pub returns-clause-follow : goal.returns-clause-follow
returns-clause-follow c =
    let p = pipeline_of c.args.checked.now in
    let s = sessions_of c.args.starts.now in
    let sessions = c.put_sessions.new.sessions in
    let since = c.advance_reaches.new.since in
    let put : c.deref.result.now ≡ s = c.deref.ensures.value ∙ take_at sessions _ _ (ap length c.put_sessions.ensures ∙ length-map c.args.starts.now (λ (x : StartCells). x.session) ∙ c.requires.starts ∙ sym c.requires.room ∙ sym (ap length c.deref_mut.ensures.value) ∙ c.deref_mut.ensures.len) ∙ c.put_sessions.ensures in
    subst (FollowFirst p s c.args.fed c.args.since.now.items) (sym (take_at since _ c.args.since.now.len (c.advance_reaches.ensures.long ∙ c.deref_mut-2.ensures.len)))
    (subst (λ (old : List (Option ℕ)). FollowFirst p s c.args.fed old since) c.deref_mut-2.ensures.value (subst (λ (x : List ℕ). FollowFirst p x c.args.fed c.deref_mut-2.result.now since) put c.advance_reaches.ensures.follow))
