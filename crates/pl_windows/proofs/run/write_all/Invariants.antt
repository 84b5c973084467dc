use Rattle.std.proofs.Common.{◌≤◌, ◌+◌, ◌-◌}
use Rattle.pl_outside.proofs.Pieces.{Writing}
use Rattle.pl_windows.specs.Ranges.{asked_lines, asked_text}
use Rattle.pl_windows.proofs.run.write_all.Given as goal

abbrev pub invariant-loop-first : goal.invariant-loop-first
invariant-loop-first g l =
    let out = g.O.Sink in
    record {
      from : l.asked.from ≤ l.first;
      to : l.first ≤ l.asked.to + 1;
      writing : Writing out.taken out.faults out.sound out.room l.fn.out l.out (asked_text l.asked) (asked_lines l.asked l.first (l.asked.to + 1 - l.first));
    }

-- the sessions that are left
abbrev pub decreases-loop-first : goal.decreases-loop-first
decreases-loop-first g l = l.asked.to + 1 - l.first
