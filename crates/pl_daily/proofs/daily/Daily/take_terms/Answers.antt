use Rattle.std.proofs.Common.{◌<◌, ◌∷◌, ◌∙◌, true, List, Bool, ap, arith, map, length, drop, get_or, subst, sym, rules, All, FitsSigned, w32}
use Rattle.std.proofs.lemmas.Int.{to_z-of_z}
use Rattle.pl_adjust.specs.Columns.{events_at}
use Rattle.pl_terms.specs.Checked.{pipeline_of}
use Rattle.pl_daily.specs.declared.day.DayEvent.{DayEvent}
use Rattle.pl_daily.specs.Changes.{column_event}
use Rattle.pl_daily.specs.Daily.{Held, start_in}
use Rattle.pl_daily.specs.Inside.{AreDepths}
use Rattle.pl_daily.specs.Steps.{IsMidway}
use Rattle.pl_daily.specs.Terms.{HoldStarts, HoldTerms}
use Rattle.pl_daily.specs.View.{held_of}
use Rattle.pl_daily.proofs.Advances.{vec_back}
use Rattle.pl_daily.proofs.Begun.{windows_stay}
use Rattle.pl_daily.proofs.Marked.{marked_none}
use Rattle.pl_daily.proofs.Taken.{events_within}
use Rattle.pl_daily.proofs.daily.Daily.take_terms.Goals as goal

pub mark_changed-requires : goal.mark_changed-requires
mark_changed-requires c =
    let d = c.self.inside in
    let day = c.args.day.now in
    let next = c.requires.0 in
    let days = c.requires.1 in
    let m : IsMidway (held_of d) day.day (map column_event day.events.now) next days =
    subst (λ (h : Held). IsMidway h day.day (map column_event day.events.now) next days) (sym c.self.view_is) c.requires.2 in
    subst (λ n. All (λ (e : DayEvent). e.col < n) day.events.now) (sym (ap length c.deref_mut.ensures.value ∙ c.self.invariant.changed))
    (events_within (start_in (held_of d)) next days day.events.now m.are_fed m.brought)

pub invariant_of-self : goal.invariant_of-self
invariant_of-self c =
    let d = c.self.inside in
    let i = c.self.invariant in
    let e = c.fill_terms.ensures in
    let new = c.mark_changed.new.changed in
    let back = vec_back d.changed.len new (drop (length new) d.changed.items) (sym c.deref_mut.ensures.len ∙ sym c.mark_changed.ensures.long) in
    record {
      checked = i.checked;
      columns = i.columns;
      windows = windows_stay (pipeline_of d.checked.now) d.terms.items c.fill_terms.new.terms.items e.rooms i.windows;
      terms = e.terms;
      starts = e.starts;
      since = i.since;
      room = e.room;
      kept_room = i.kept_room;
      kept = i.kept;
      depths = i.depths;
      changed = ap length back ∙ c.mark_changed.ensures.long ∙ ap length c.deref_mut.ensures.value ∙ i.changed;
    }

pub fill_terms-requires-clause-placed : goal.fill_terms-requires-clause-placed
fill_terms-requires-clause-placed c =
    let d = c.self.inside in
    let i = c.self.invariant in
    let day = c.args.day.now in
    let fits : FitsSigned w32 day.day = search rules in
    let next = c.requires.0 in
    let days = c.requires.1 in
    let mid = c.requires.2 in
    let m : IsMidway (held_of d) day.day (map column_event day.events.now) next days =
    subst (λ (h : Held). IsMidway h day.day (map column_event day.events.now) next days) (sym c.self.view_is) mid in
    let new = c.mark_changed.new.changed in
    let back = vec_back d.changed.len new (drop (length new) d.changed.items) (sym c.deref_mut.ensures.len ∙ sym c.mark_changed.ensures.long) in
    let now = c.deref-2.ensures.value ∙ back in
    let long = c.mark_changed.ensures.long ∙ ap length c.deref_mut.ensures.value ∙ i.changed in (
      next,
      days,
      record {
        may = record {
          start = m.start;
          are_fed = m.are_fed;
          day = m.is ∙ sym (to_z-of_z w32 day.day fits);
          last = mid.last ∙ sym c.last_day-last.ensures;
          count = m.count;
          bars = m.bars;
          depths = subst (AreDepths (pipeline_of d.checked.now)) (sym c.deref.ensures.value) i.depths;
          marked = ap length now ∙ long;
          quiet = λ j h unmarked.
              ap (λ es. events_at es j) m.brought
              ∙ marked_none day.events.now j
              (sym (c.mark_changed.ensures.marked j (omega (arith, h, ap length c.deref_mut.ensures.value, i.changed))) ∙ ap (λ (l : List Bool). get_or l j true) (sym now) ∙ unmarked);
        };
        terms = m.terms;
        starts = m.starts;
      },
    )

pub returns-clause-terms : goal.returns-clause-terms
returns-clause-terms c =
    let d = c.self.inside in
    let i = c.self.invariant in
    let events = c.args.day.now.events.now in
    let day = c.args.day.now.day in
    let fits : FitsSigned w32 day = search rules in
    let new = c.mark_changed.new.changed in
    let back = vec_back d.changed.len new (drop (length new) d.changed.items) (sym c.deref_mut.ensures.len ∙ sym c.mark_changed.ensures.long) in
    let now = c.deref-2.ensures.value ∙ back in
    let long = c.mark_changed.ensures.long ∙ ap length c.deref_mut.ensures.value ∙ i.changed in
    λ next days mid.
    let m : IsMidway (held_of d) day (map column_event events) next days = subst (λ (h : Held). IsMidway h day (map column_event events) next days) (sym c.self.view_is) mid in
    subst (λ (h : Held). HoldTerms (start_in h) (next ∷ days) h.pipeline c.fill_terms.new.terms.items × HoldStarts (start_in h) (next ∷ days) h.pipeline c.fill_terms.new.starts.items) c.self.view_is
    (c.fill_terms.ensures.follow next days (record {
      may = record {
        start = m.start;
        are_fed = m.are_fed;
        day = m.is ∙ sym (to_z-of_z w32 day fits);
        last = mid.last ∙ sym c.last_day-last.ensures;
        count = m.count;
        bars = m.bars;
        depths = subst (AreDepths (pipeline_of d.checked.now)) (sym c.deref.ensures.value) i.depths;
        marked = ap length now ∙ long;
        quiet = λ j h unmarked.
            ap (λ es. events_at es j) m.brought
            ∙ marked_none events j
            (sym (c.mark_changed.ensures.marked j (omega (arith, h, ap length c.deref_mut.ensures.value, i.changed))) ∙ ap (λ (l : List Bool). get_or l j true) (sym now) ∙ unmarked);
      };
      terms = m.terms;
      starts = m.starts;
    }))
