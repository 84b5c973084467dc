use Rattle.pl_adjarray.proofs.Quiet.{still_fewer}
use Rattle.std.proofs.Common.{arith}
use Rattle.pl_exec.proofs.windows.still.Goals as goal

pub returns-clause-still : goal.returns-clause-still
returns-clause-still c = record {
  first = still_fewer _ _ _ _ (omega (arith, c.still-second.ensures.few, c.still.ensures.few)) c.still-first.ensures.still;
  second = still_fewer _ _ _ _ c.still.ensures.few c.still-second.ensures.still;
  third = c.still.ensures.still;
}
