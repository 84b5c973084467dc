use Rattle.std.proofs.Common.{◌≡◌, ◌≤◌, ◌+◌, ◌++◌, map, take, vec_len, vec_capacity}
use Rattle.pl_adjust.specs.Events.{event_of}
use Rattle.pl_daily.specs.Changes.{column_event}
use Rattle.pl_runner.specs.Days.{in_col}
use Rattle.pl_runner.proofs.news.put_events.Given as goal

abbrev pub invariant-loop-adjust : goal.invariant-loop-adjust
invariant-loop-adjust l =
    record {
      events : map column_event l.events.items ≡ map column_event l.fn.events.items ++ map (in_col l.col) (map event_of (take l.adjust-index l.adjusts));
      count : vec_len l.events ≡ vec_len l.fn.events + l.adjust-index;
      room : vec_capacity l.fn.events ≤ vec_capacity l.events;
    }
