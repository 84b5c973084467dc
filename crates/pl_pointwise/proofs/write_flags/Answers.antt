use Rattle.std.proofs.Common.{rules}
use Rattle.pl_terms.specs.Kinds.{kind_of}
use Rattle.pl_pipeline.specs.Pointwise.{pointwise}
use Rattle.pl_pointwise.proofs.write_flags.Goals as goal

pub returns-in-Not-clause-values : goal.returns-in-Not-clause-values
unfolding kind_of pointwise
returns-in-Not-clause-values c = λ k z h.
    let v = c.at_each.ensures.values k h in
    rw c.in-Not.is (search rules)

pub returns-in-IsNull-clause-values : goal.returns-in-IsNull-clause-values
unfolding kind_of pointwise
returns-in-IsNull-clause-values c = λ k z h.
    let v = c.at_each-in-IsNull.ensures.values k h in
    rw c.in-IsNull.is (search rules)

pub returns-in-NotNull-clause-values : goal.returns-in-NotNull-clause-values
unfolding kind_of pointwise
returns-in-NotNull-clause-values c = λ k z h.
    let v = c.at_each-in-NotNull.ensures.values k h in
    rw c.in-NotNull.is (search rules)

pub returns-in-LabelIs-clause-values : goal.returns-in-LabelIs-clause-values
unfolding kind_of pointwise
returns-in-LabelIs-clause-values c = λ k z h.
    let v = c.at_each-in-LabelIs.ensures.values k h in
    let e = rw c.number_of-number.ensures at c.in-LabelIs.is in
    rw e (search rules)

pub returns-in-LabelIsNot-clause-values : goal.returns-in-LabelIsNot-clause-values
unfolding kind_of pointwise
returns-in-LabelIsNot-clause-values c = λ k z h.
    let v = c.at_each-in-LabelIsNot.ensures.values k h in
    let e = rw c.number_of-number-in-LabelIsNot.ensures at c.in-LabelIsNot.is in
    rw e (search rules)
