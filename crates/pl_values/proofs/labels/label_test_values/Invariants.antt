use Rattle.std.proofs.Common.{◌≡◌, ◌<◌, ℕ, get_or, pos}
use Rattle.pl_terms.specs.Kinds.{kind_of}
use Rattle.pl_values.specs.Families.{code_flag}
use Rattle.pl_values.proofs.labels.label_test_values.Given as goal

abbrev pub invariant-loop-i : goal.invariant-loop-i
invariant-loop-i l = (k : ℕ) → k < l.i → get_or l.out k (pos 0) ≡ code_flag l.labels.texts (kind_of l.kind) (get_or l.codes k (pos 0))
