use Rattle.std.proofs.Common.{◌++◌, List, length, take, drop, ap, sym, subst, ◌∙◌}
use Rattle.pl_daily.specs.Days.{FedDay}
use Rattle.pl_daily.proofs.Advances.{vec_back}
use Rattle.pl_daily.specs.declared.term_day.TermCells.{TermCells}
use Rattle.pl_daily.specs.declared.starts.StartCells.{StartCells}
use Rattle.pl_daily.specs.Terms.{AreStarts, AreTerms, FollowTerms, IsPlaced, assets_at, pipeline_at, rooms}
use Rattle.pl_daily.proofs.fill.fill_terms.Goals as goal

pub advance_terms-requires : goal.advance_terms-requires
advance_terms-requires c =
    let l = c.args.lent.now in
    let e = c.deref_mut.ensures.value in
    let f = c.deref_mut-2.ensures.value in
    record {
      placed = subst (λ (ts : List TermCells). (next : FedDay) × (days : List FedDay) × IsPlaced l ts c.deref_mut-2.result.now next days) (sym e)
          (subst (λ (ss : List StartCells). (next : FedDay) × (days : List FedDay) × IsPlaced l c.args.terms.now.items ss next days) (sym f) c.requires.placed);
      terms = subst (AreTerms (assets_at l) (pipeline_at l) l.bars.now) (sym e) c.requires.terms;
      starts = subst (AreStarts (assets_at l) (pipeline_at l)) (sym f) c.requires.starts;
      room = c.requires.room;
    }

pub returns : goal.returns
returns c =
    let l = c.args.lent.now in
    let terms = c.args.terms.now in
    let starts = c.args.starts.now in
    let new = c.advance_terms.new in
    let e = c.advance_terms.ensures in
    let many = sym c.deref_mut.ensures.len ∙ ap length c.deref_mut.ensures.value ∙ c.requires.terms.many ∙ sym e.terms.many in
    let all = sym c.deref_mut-2.ensures.len ∙ ap length c.deref_mut-2.ensures.value ∙ c.requires.starts.many ∙ sym e.starts.many in
    let back = vec_back terms.len new.terms (drop (length new.terms) terms.items) many in
    let other = vec_back starts.len new.starts (drop (length new.starts) starts.items) all in
    record {
      follow = subst (λ (ts : List TermCells). FollowTerms l terms.items starts.items ts (take starts.len (new.starts ++ drop (length new.starts) starts.items))) (sym back)
          (subst (λ (ss : List StartCells). FollowTerms l terms.items starts.items new.terms ss) (sym other)
          (subst (λ (ts : List TermCells). FollowTerms l ts starts.items new.terms new.starts) c.deref_mut.ensures.value
          (subst (λ (ss : List StartCells). FollowTerms l c.deref_mut.result.now ss new.terms new.starts) c.deref_mut-2.ensures.value e.follow)));
      terms = subst (AreTerms (assets_at l) (pipeline_at l) l.bars.now) (sym back) e.terms;
      rooms = ap rooms back ∙ e.rooms ∙ ap rooms c.deref_mut.ensures.value;
      starts = subst (AreStarts (assets_at l) (pipeline_at l)) (sym other) e.starts;
      room = e.room;
    }
