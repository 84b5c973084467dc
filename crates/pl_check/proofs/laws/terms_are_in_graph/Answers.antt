use Rattle.std.proofs.lemmas.Result.{IfOk-at_ok}
use Rattle.pl_check.specs.Standing.{Kept}
use Rattle.pl_check.proofs.Walk.{worth-kept}
use Rattle.pl_check.proofs.laws.terms_are_in_graph.Goals as goal

pub returns : goal.returns
returns c = λ v ds e s r passes sound stand h. IfOk-at_ok (Kept s) h (worth-kept v ds e s passes sound stand)
