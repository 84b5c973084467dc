use Rattle.pl_bars.proofs.BarPieces.{ended-faulty, ended-whole}
use Rattle.pl_bars.proofs.pieces.BarsReader.end.Goals as goal

pub returns-in_err-judged-clause-exact : goal.returns-in_err-judged-clause-exact
returns-in_err-judged-clause-exact c =
    ended-faulty _ _ c.self.inside c.args.self _ c.from_residual.ensures.1 c.in_err-judged.was c.self.view_is c.self.invariant

pub returns-clause-exact : goal.returns-clause-exact
returns-clause-exact c =
    ended-whole _ _ c.self.inside c.args.self _ c.in_ok-judged.was c.self.view_is c.self.invariant
    (rw c.deref.ensures.value at c.behind.ensures.exact)
