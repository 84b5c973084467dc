use Rattle.std.proofs.Common.{◌≡◌, ◌≤◌, length, map, vec_len, vec_capacity}
use Rattle.pl_daily.specs.Changes.{column_event}
use Rattle.pl_runner.specs.Days.{events_due}
use Rattle.pl_runner.proofs.news.fill_events.Given as goal

abbrev pub invariant-loop-col : goal.invariant-loop-col
invariant-loop-col l =
    record {
      events : map column_event l.events.items ≡ events_due l.world.sessions.now l.world.adjustments.now l.col l.session;
      count : vec_len l.events ≡ length (events_due l.world.sessions.now l.world.adjustments.now l.col l.session);
      room : length l.world.adjustments.now ≤ vec_capacity l.events;
    }
