use Rattle.std.proofs.Common.{rules, ◌≡◌, ◌≤◌, ◌+◌, ◌∙◌, ap, arith, drop, length, sym, subst, ℕ, List, pos, map, w32, FitsSigned, to_z, of_z}
use Rattle.std.proofs.lemmas.Int.{to_z-of_z}
use Rattle.std.proofs.lemmas.Option.{get_or_from_slice_get}
use Rattle.pl_daily.specs.Changes.{column_event}
use Rattle.pl_daily.specs.Days.{FedDay}
use Rattle.pl_daily.specs.Daily.{day_work}
use Rattle.pl_runner.specs.Days.{day_at, fed_days}
use Rattle.pl_runner.specs.Feeds.{session_work}
use Rattle.pl_pipeline.specs.Table.{Pipeline}
use Rattle.pl_table.specs.Asked.{asked_pipeline, asked_world}
use Rattle.pl_daily.proofs.Advances.{vec_back}
use Rattle.pl_runner.proofs.Sessions.{news-are, next-fed, next-follows, next-later}
use Rattle.pl_runner.proofs.Work.{day-work}
use Rattle.pl_runner.proofs.feed.feed.Goals as goal

pub advance-requires-clause-may_follow : goal.advance-requires-clause-may_follow
advance-requires-clause-may_follow g c =
    let w = c.args.asked.now.world in
    let s = c.args.session in
    let sound = c.requires.asked.sound in
    let fits : FitsSigned w32 c.day.result = search rules in
    let day : to_z w32 (of_z w32 c.day.result) ≡ day_at w.sessions.now s = to_z-of_z w32 c.day.result fits ∙ sym (get_or_from_slice_get w.sessions.now s c.day.result (pos 0) c.day.ensures.exact) in
    let d : FedDay = record { day = to_z w32 (of_z w32 c.day.result); bars = c.deref.result.now; events = map column_event c.deref-2.result.now } in
    let is = news-are w s d day (c.deref.ensures.value ∙ c.fill_bars.ensures.bars) (ap (map column_event) c.deref-2.ensures.value ∙ c.fill_events.ensures.events) in
    λ late. (fed_days w s, c.requires.state.fed.stands, next-follows w (asked_pipeline c.args.asked.now) s c.args.state.now.daily c.requires.state.fed sound c.requires.session d is)

pub unreachable-requires : goal.unreachable-requires
unreachable-requires g c =
    let w = c.args.asked.now.world in
    let s = c.args.session in
    let sound = c.requires.asked.sound in
    let fits : FitsSigned w32 c.day.result = search rules in
    let day : to_z w32 (of_z w32 c.day.result) ≡ day_at w.sessions.now s = to_z-of_z w32 c.day.result fits ∙ sym (get_or_from_slice_get w.sessions.now s c.day.result (pos 0) c.day.ensures.exact) in
    c.in-Err.ensures.not_later (next-later w (asked_pipeline c.args.asked.now) s c.args.state.now.daily c.requires.state.fed sound c.requires.session (to_z w32 (of_z w32 c.day.result)) day)

pub returns : goal.returns
returns g c =
    let w = c.args.asked.now.world in
    let p = asked_pipeline c.args.asked.now in
    let s = c.args.session in
    let h = c.args.state.now.daily in
    let sound = c.requires.asked.sound in
    let held = c.requires.state.fed in
    let fits : FitsSigned w32 c.day.result = search rules in
    let day : to_z w32 (of_z w32 c.day.result) ≡ day_at w.sessions.now s = to_z-of_z w32 c.day.result fits ∙ sym (get_or_from_slice_get w.sessions.now s c.day.result (pos 0) c.day.ensures.exact) in
    let d : FedDay = record { day = to_z w32 (of_z w32 c.day.result); bars = c.deref.result.now; events = map column_event c.deref-2.result.now } in
    let events = ap (map column_event) c.deref-2.ensures.value ∙ c.fill_events.ensures.events in
    let is = news-are w s d day (c.deref.ensures.value ∙ c.fill_bars.ensures.bars) events in
    let places = c.args.state.now.places in
    let new = c.fill_bars.new.places in
    let back = vec_back places.len new (drop (length new) places.items) (sym c.deref_mut.ensures.len ∙ sym c.fill_bars.ensures.places) in
    record {
      state = record {
        fed = next-fed w p s h held c.advance.new.self d is c.in-Ok.ensures.pipeline c.in-Ok.ensures.assets c.in-Ok.ensures.labels c.in-Ok.ensures.numbers c.in-Ok.ensures.fed
            (c.in-Ok.ensures.follow (fed_days w s) held.stands (next-follows w p s h held sound c.requires.session d is));
        places = subst (λ (l : List ℕ). length w.assets.now ≤ length l) (sym back) (omega (arith, c.fill_bars.ensures.places, ap length c.deref_mut.ensures.value, c.requires.state.places));
        bars = c.fill_bars.ensures.room;
        events = c.fill_events.ensures.room;
      };
      cost = c.in-Ok.ensures.cost
          ∙ ap (λ (n : ℕ). c.args.steps.now + day_work h.pipeline n c.deref-2.result.now) held.count
          ∙ ap (λ (n : ℕ). c.args.steps.now + n) (day-work w sound h.pipeline s c.deref-2.result.now events)
          ∙ ap (λ (q : Pipeline). c.args.steps.now + session_work (asked_world c.args.asked.now) q s) held.pipeline;
    }
