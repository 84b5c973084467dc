use Rattle.std.proofs.Common.{◌∙◌, [], rules, FitsSigned, w64}
use Rattle.std.proofs.lemmas.Int.{to_z-of_z}
use Rattle.pl_terms.specs.Kinds.{kind_of}
use Rattle.pl_pipeline.proofs.Filters.{filters-count}
use Rattle.pl_factors.proofs.Kept.{kept_flag}
use Rattle.pl_factors.proofs.windows.window_filter.Goals as goal

pub returns-in-All-clause-value : goal.returns-in-All-clause-value
unfolding kind_of
returns-in-All-clause-value c =
    let fits : FitsSigned w64 c.at_least.result = search rules in
    rw c.in-All.is (to_z-of_z w64 _ fits ∙ c.at_least.ensures.value ∙ (filters-count c.args.a.now [] []).1)

pub returns-in-Any-clause-value : goal.returns-in-Any-clause-value
unfolding kind_of
returns-in-Any-clause-value c =
    let fits : FitsSigned w64 c.at_least-in-Any.result = search rules in
    rw c.in-Any.is (to_z-of_z w64 _ fits ∙ c.at_least-in-Any.ensures.value ∙ (filters-count c.args.a.now [] []).0)

pub returns-in-All-clause-flag : goal.returns-in-All-clause-flag
returns-in-All-clause-flag c = kept_flag _ c.at_least.ensures.flag

pub returns-in-Any-clause-flag : goal.returns-in-Any-clause-flag
returns-in-Any-clause-flag c = kept_flag _ c.at_least-in-Any.ensures.flag

pub returns-in-AtLeastN-clause-flag : goal.returns-in-AtLeastN-clause-flag
returns-in-AtLeastN-clause-flag c = kept_flag _ c.at_least-in-AtLeastN.ensures.flag

pub returns-in-AllPresent-clause-flag : goal.returns-in-AllPresent-clause-flag
returns-in-AllPresent-clause-flag c = kept_flag _ c.all_present.ensures.flag
