use Rattle.std.proofs.Common.{rules}
use Rattle.pl_terms.specs.Kinds.{kind_of}
use Rattle.pl_pipeline.specs.Pointwise.{pointwise}
use Rattle.pl_pointwise.proofs.write_curves.Goals as goal

pub returns-in-Log-clause-values : goal.returns-in-Log-clause-values
unfolding kind_of pointwise
returns-in-Log-clause-values c = λ k y z h.
    let v = c.at_each.ensures.values k h in
    rw c.in-Log.is (search rules)

pub returns-in-Exp-clause-values : goal.returns-in-Exp-clause-values
unfolding kind_of pointwise
returns-in-Exp-clause-values c = λ k y z h.
    let v = c.at_each-in-Exp.ensures.values k h in
    rw c.in-Exp.is (search rules)

pub returns-in-Sqrt-clause-values : goal.returns-in-Sqrt-clause-values
unfolding kind_of pointwise
returns-in-Sqrt-clause-values c = λ k y z h.
    let v = c.at_each-in-Sqrt.ensures.values k h in
    rw c.in-Sqrt.is (search rules)

pub returns-in-Sign-clause-values : goal.returns-in-Sign-clause-values
unfolding kind_of pointwise
returns-in-Sign-clause-values c = λ k y z h.
    let v = c.at_each-in-Sign.ensures.values k h in
    rw c.in-Sign.is (search rules)
