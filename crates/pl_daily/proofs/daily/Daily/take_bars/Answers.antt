use Rattle.std.proofs.Common.{◌≡◌, ◌+◌, length, subst, ap, sym, ◌∙◌}
use Rattle.pl_daily.specs.Columns.{AreBarRings, FollowColumns}
use Rattle.pl_daily.specs.Changes.{IsHandedIn}
use Rattle.pl_terms.specs.Checked.{pipeline_of}
use Rattle.pl_daily.specs.Daily.{Held, day_work}
use Rattle.pl_daily.proofs.Worked.{terms_stay, work_is}
use Rattle.pl_daily.proofs.daily.Daily.take_bars.Goals as goal

pub advance-requires-clause-rings : goal.advance-requires-clause-rings
advance-requires-clause-rings g c =
    let are = c.self.invariant.terms.room.bar_rings in
    subst (λ n. AreBarRings n c.self.inside.bars) (sym are.row) are

pub advance-requires-clause-handed_in : goal.advance-requires-clause-handed_in
advance-requires-clause-handed_in g c =
    let are = c.self.invariant.terms.room.bar_rings in
    subst (λ n. IsHandedIn n c.self.inside.fed c.args.day.now.bars.now c.args.day.now.events.now) (sym are.row)
    (subst (λ (h : Held). IsHandedIn (length h.assets) h.fed c.args.day.now.bars.now c.args.day.now.events.now) (sym c.self.view_is) c.requires)

pub invariant_of-self : goal.invariant_of-self
invariant_of-self g c =
    let d = c.self.inside in
    let i = c.self.invariant in
    let e = c.advance.ensures in
    record {
      checked = i.checked;
      columns = λ k. e.room.rings k ∙ i.columns k;
      windows = i.windows;
      terms = terms_stay (length d.assets.now) (pipeline_of d.checked.now) d.bars c.advance.new.self d.terms.items e.rings e.room.rings i.terms;
      starts = i.starts;
      since = i.since;
      room = i.room;
      kept_room = i.kept_room;
      kept = i.kept;
      depths = i.depths;
      changed = i.changed;
    }

pub returns-clause-bars : goal.returns-clause-bars
returns-clause-bars g c =
    subst (λ (h : Held). FollowColumns c.args.day.now.day c.args.day.now.bars.now c.args.day.now.events.now h.fed h.bars c.advance.new.self) c.self.view_is c.advance.ensures.follow

pub returns-clause-cost : goal.returns-clause-cost
returns-clause-cost g c =
    let d = c.self.inside in
    let i = c.self.invariant in
    subst (λ (h : Held). c.advance.new.steps ≡ c.args.steps.now + day_work h.pipeline h.fed c.args.day.now.events.now) c.self.view_is
    (c.advance.ensures.cost ∙ ap (λ n. c.args.steps.now + n) (work_is (pipeline_of d.checked.now) d.bars d.fed c.args.day.now.events.now i.columns))
