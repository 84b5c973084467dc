use Rattle.std.proofs.Common.{rules}
use Rattle.pl_terms.specs.Kinds.{kind_of}
use Rattle.pl_pipeline.specs.Pointwise.{pointwise}
use Rattle.pl_pointwise.proofs.ResultLemmas.{flags-cells}
use Rattle.pl_pointwise.proofs.write_places.Goals as goal

pub returns-in-Neg-clause-values : goal.returns-in-Neg-clause-values
unfolding kind_of pointwise
returns-in-Neg-clause-values c = λ k h.
    let v = c.at_each.ensures.values k h in
    rw c.in-Neg.is (search rules)

pub returns-in-Abs-clause-values : goal.returns-in-Abs-clause-values
unfolding kind_of pointwise
returns-in-Abs-clause-values c = λ k h.
    let v = c.at_each-in-Abs.ensures.values k h in
    rw c.in-Abs.is (search rules)

pub returns-in-Clip-clause-values : goal.returns-in-Clip-clause-values
unfolding kind_of pointwise
returns-in-Clip-clause-values c = λ k h.
    let v = c.at_each-in-Clip.ensures.values k h in
    rw c.in-Clip.is (search rules)

pub returns-in-Where-clause-values : goal.returns-in-Where-clause-values
unfolding kind_of pointwise
returns-in-Where-clause-values c = λ k h.
    let v = c.at_each_pair.ensures.values k h in
    rw c.in-Where.is (search rules)

pub at_each_pair-requires-clause-right : goal.at_each_pair-requires-clause-right
unfolding kind_of
at_each_pair-requires-clause-right c = flags-cells _ _ (search rules)
