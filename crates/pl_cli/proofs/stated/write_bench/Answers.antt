use Rattle.std.proofs.Common.{inl, inr}
use Rattle.pl_cli.proofs.Written.{writes-ok}
use Rattle.pl_cli.proofs.stated.write_bench.Goals as goal

pub returns-in-Ok-clause-writes : goal.returns-in-Ok-clause-writes
returns-in-Ok-clause-writes g c = elim c.in-Ok.ensures.writes [
  | inl m ↦ absurd (cc)
  | inr w ↦ inr (writes-ok w)
]
