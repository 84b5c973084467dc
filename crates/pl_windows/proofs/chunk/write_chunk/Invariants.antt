use Rattle.std.proofs.Common.{◌≡◌, ◌≤◌, ◌+◌, ◌-◌}
use Rattle.pl_outside.proofs.Pieces.{Writing}
use Rattle.pl_adjarray.specs.Traversals.{advances}
use Rattle.pl_windows.specs.Chunks.{IsBufferOf}
use Rattle.pl_windows.specs.Ranges.{asked_lines}
use Rattle.pl_windows.proofs.chunk.write_chunk.Given as goal

abbrev pub invariant-loop-session : goal.invariant-loop-session
invariant-loop-session g l =
    let out = g.O.Sink in
    record {
      from : l.fn.chunk.first ≤ l.session;
      to : l.session ≤ l.fn.chunk.last + 1;
      buffer : IsBufferOf l.asked l.windows.array;
      first : l.windows.array.first + l.asked.window ≡ l.fn.chunk.first;
      rows : l.windows.array.rows ≡ l.asked.window + (l.fn.chunk.last - l.fn.chunk.first);
      window : l.windows.window ≡ l.asked.window;
      advances : advances l.windows ≡ l.session - l.fn.chunk.first;
      writing : Writing out.taken out.faults out.sound out.room l.fn.out l.out (asked_lines l.asked l.fn.chunk.first (l.fn.chunk.last + 1 - l.fn.chunk.first))
          (asked_lines l.asked l.session (l.fn.chunk.last + 1 - l.session));
    }
