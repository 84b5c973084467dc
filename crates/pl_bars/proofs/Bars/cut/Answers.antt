use Rattle.pl_bars.proofs.BarsCut.{are_bars-before}
use Rattle.pl_bars.proofs.Bars.cut.Goals as goal

pub invariant_of-result : goal.invariant_of-result
invariant_of-result c = rw (c.in_ok-rows.ensures, c.deref.ensures.value) (are_bars-before c.args.sessions c.self.inside.rows.items c.self.invariant)
