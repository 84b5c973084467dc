use Rattle.std.proofs.Common.{rules}
use Rattle.pl_terms.specs.Kinds.{kind_of}
use Rattle.pl_pipeline.specs.Pointwise.{pointwise}
use Rattle.pl_pointwise.proofs.write_pairs.Goals as goal

pub returns-in-Add-clause-values : goal.returns-in-Add-clause-values
unfolding kind_of pointwise
returns-in-Add-clause-values c = λ k z h.
    let v = c.at_each_pair.ensures.values k h in
    rw c.in-Add.is (search rules)

pub returns-in-Sub-clause-values : goal.returns-in-Sub-clause-values
unfolding kind_of pointwise
returns-in-Sub-clause-values c = λ k z h.
    let v = c.at_each_pair-in-Sub.ensures.values k h in
    rw c.in-Sub.is (search rules)

pub returns-in-Mul-clause-values : goal.returns-in-Mul-clause-values
unfolding kind_of pointwise
returns-in-Mul-clause-values c = λ k z h.
    let v = c.at_each_pair-in-Mul.ensures.values k h in
    rw c.in-Mul.is (search rules)

pub returns-in-Div-clause-values : goal.returns-in-Div-clause-values
unfolding kind_of pointwise
returns-in-Div-clause-values c = λ k z h.
    let v = c.at_each_pair-in-Div.ensures.values k h in
    rw c.in-Div.is (search rules)

pub returns-in-FillNa-clause-values : goal.returns-in-FillNa-clause-values
unfolding kind_of pointwise
returns-in-FillNa-clause-values c = λ k z h.
    let v = c.at_each_pair-in-FillNa.ensures.values k h in
    rw c.in-FillNa.is (search rules)

pub returns-in-Maximum-clause-values : goal.returns-in-Maximum-clause-values
unfolding kind_of pointwise
returns-in-Maximum-clause-values c = λ k z h.
    let v = c.at_each_pair-in-Maximum.ensures.values k h in
    rw c.in-Maximum.is (search rules)

pub returns-in-Minimum-clause-values : goal.returns-in-Minimum-clause-values
unfolding kind_of pointwise
returns-in-Minimum-clause-values c = λ k z h.
    let v = c.at_each_pair-in-Minimum.ensures.values k h in
    rw c.in-Minimum.is (search rules)
