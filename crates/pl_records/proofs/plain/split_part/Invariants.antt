use Rattle.std.proofs.Common.{map, ◌+◌, ◌-◌, ◌≤◌}
use Rattle.pl_records.specs.PlainCuts.{IsBegun}
use Rattle.pl_records.proofs.Marks.{AreMarks}
use Rattle.pl_records.proofs.plain.split_part.Given as goal

abbrev pub invariant-lows : goal.invariant-lows
invariant-lows l = record {
  most : l.next ≤ l.at + 16;
  marks : AreMarks l.text l.next (l.at + 16) l.marks;
  begun : IsBegun l.text (map (λ f. f.now) l.fields) l.next l.begun;
}

abbrev pub decreases-lows : goal.decreases-lows
decreases-lows l = l.at + 16 - l.next
