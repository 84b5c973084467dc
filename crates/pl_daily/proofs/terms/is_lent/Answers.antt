use Rattle.std.proofs.Common.{arith}
use Rattle.pl_daily.proofs.terms.is_lent.Goals as goal

pub returns : goal.returns
returns c = record {
  checked = c.graph.ensures.checked;
  few = omega (arith, c.len.ensures.length, c.len.ensures.few);
  labels = c.len-2.ensures.labels;
}
