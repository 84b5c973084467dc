use Rattle.std.proofs.Common.{ℕ, List, length, subst, sym, ap}
use Rattle.pl_terms.specs.Checked.{pipeline_of}
use Rattle.pl_daily.specs.Daily.{Held}
use Rattle.pl_daily.specs.Reaches.{FollowFirst}
use Rattle.pl_daily.specs.Room.{IsRoom}
use Rattle.pl_daily.specs.Steps.{Answers, sessions_of}
use Rattle.pl_daily.proofs.daily.Daily.take_session.Goals as goal

pub invariant_of-self : goal.invariant_of-self
invariant_of-self c =
    let d = c.self.inside in
    let i = c.self.invariant in
    let e = c.take_reaches.ensures in
    record {
      checked = i.checked;
      columns = i.columns;
      windows = i.windows;
      terms = i.terms;
      starts = i.starts;
      since = e.long;
      room = subst (IsRoom (length d.assets.now) (length (pipeline_of d.checked.now).graph)) (sym e.rest)
          (record { cross = i.room.cross; first = i.room.first; second = i.room.second; third = i.room.third; keep = i.room.keep; out = i.room.out; sessions = e.sessions });
      kept_room = i.kept_room;
      kept = i.kept;
      depths = i.depths;
      changed = i.changed;
    }

pub returns-clause-since : goal.returns-clause-since
returns-clause-since c =
    let d = c.self.inside in
    let since = c.take_reaches.new.since.items in
    subst (λ (h : Held). FollowFirst h.pipeline (sessions_of h.starts) h.fed h.since since) c.self.view_is
    (subst (λ (s : List ℕ). FollowFirst (pipeline_of d.checked.now) s d.fed d.since.items since) (ap sessions_of c.deref.ensures.value) c.take_reaches.ensures.follow)

pub returns-clause-answer : goal.returns-clause-answer
returns-clause-answer c =
    let d = c.self.inside in
    let answer = c.is_ready-self-inside.result in
    subst (λ (h : Held). Answers h.pipeline c.take_reaches.new.since.items answer) c.self.view_is
    (subst (λ s. Answers (pipeline_of d.checked.now) s answer) c.deref-2.ensures.value c.is_ready-self-inside.ensures)
