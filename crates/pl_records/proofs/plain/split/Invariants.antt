use Rattle.std.proofs.Common.{map, length, ◌-◌, ◌≤◌}
use Rattle.pl_records.specs.PlainCuts.{IsBegun}
use Rattle.pl_records.proofs.plain.split.Given as goal

abbrev pub invariant-parts : goal.invariant-parts
invariant-parts l = record {
  most : l.at ≤ length l.text;
  begun : IsBegun l.text (map (λ f. f.now) l.fields) l.at l.begun;
}

abbrev pub decreases-parts : goal.decreases-parts
decreases-parts l = length l.text - l.at
