-- The array's fields as a buffer.
use Rattle.std.specs.Prelude.{◌+◌, ◌<◌, length}
use Rattle.pl_spec.specs.World.{IsWorld}
use Rattle.pl_calendar.specs.Days.{AreDays}
use Rattle.pl_adjarray.specs.Buffered.{Buffered, world_of}
use Rattle.pl_adjarray.specs.declared.array.AdjustedArray.TheInside.{Inside}

abbrev pub buffered_of : Inside → Buffered
buffered_of a =
    record {
      days = a.sessions.now;
      bars = a.bars.now;
      adjustments = a.adjustments.now;
      column = a.column;
      first = a.first;
      rows = a.rows;
      cols = a.cols.now;
    }

-- there is a session after the last row, and the days and the events of each asset are in order
pub record IsReadyBuffer (b : Buffered) : Type 0 where
  pub range : b.first + b.rows < length b.days
  pub days : AreDays b.days
  pub world : IsWorld (world_of b)

abbrev pub IsInside : Inside → Type 0
IsInside a = IsReadyBuffer (buffered_of a)
