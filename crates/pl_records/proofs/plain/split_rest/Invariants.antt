use Rattle.std.proofs.Common.{map}
use Rattle.pl_records.specs.PlainCuts.{IsBegun}
use Rattle.pl_records.proofs.plain.split_rest.Given as goal

abbrev pub invariant-loop-i : goal.invariant-loop-i
invariant-loop-i l = IsBegun l.text (map (λ f. f.now) l.fields) l.i l.begun
