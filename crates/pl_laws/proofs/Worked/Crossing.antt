-- Ranks, quantiles and the other cross-sections.
use Rattle.std.specs.Prelude.{◌≡◌, ℤ, pos, negsuc, refl, List, [], ◌∷◌, map}
use Rattle.pl_spec.specs.Rounding.{MISSING}
use Rattle.pl_spec.specs.declared.Column.TheVariants.{Close}
use Rattle.pl_pipeline.specs.declared.RankMethod.TheVariants as method
use Rattle.pl_pipeline.specs.declared.RankOrder.TheVariants.{Ascending, Descending}
use Rattle.pl_pipeline.specs.Kind.{CrossKind as kind}
use Rattle.pl_pipeline.specs.declared.WindowKind.TheVariants as WindowKind
use Rattle.pl_pipeline.specs.declared.Summary.TheVariants as summaries
use Rattle.pl_pipeline.specs.Cross.{Entry, values, cross, summary}
use Rattle.pl_pipeline.specs.Order.{value_at}
use Rattle.pl_pipeline.specs.Term.Term.{absent}
use Rattle.pl_pipeline.specs.Value.{Value}
use Rattle.pl_pipeline.specs.Value.Value.{Number}
use Rattle.pl_laws.proofs.Worked.Worlds.{opened, units, four_bars, three_bars, leaving, window, across, latest, by_asset, by_session}

-- what a cross-section gives to each entry of a list
all_of : kind → List Entry → List ℤ
all_of k list = map (λ (e : Entry). cross k list e.0 e.1) list

-- ---- the values 1, 2, 3 and 4

four : List Entry
four = (1, units 1) ∷ (2, units 2) ∷ (3, units 3) ∷ (4, units 4) ∷ []

scores_are_in_deviations : all_of kind.ZScore four ≡ negsuc 1341641 ∷ negsuc 447213 ∷ pos 447214 ∷ pos 1341642 ∷ []
unfolding all_of four opened
scores_are_in_deviations = refl

top_and_bottom_two : all_of (kind.Top 2) four ∷ all_of (kind.Bottom 2) four ∷ [] ≡ (pos 0 ∷ pos 0 ∷ pos 1 ∷ pos 1 ∷ []) ∷ (pos 1 ∷ pos 1 ∷ pos 0 ∷ pos 0 ∷ []) ∷ []
unfolding all_of four opened
top_and_bottom_two = refl

middle_half : all_of (kind.PercentileBetween 2500 7500) four ≡ pos 0 ∷ pos 1 ∷ pos 1 ∷ pos 0 ∷ []
unfolding all_of four opened
middle_half = refl

-- the edges lie on the values 1 and 4, and both count
whole_range_takes_its_ends : all_of (kind.PercentileBetween 0 10000) four ≡ pos 1 ∷ pos 1 ∷ pos 1 ∷ pos 1 ∷ []
unfolding all_of four opened
whole_range_takes_its_ends = refl

descending_ranks : all_of (kind.Rank method.Ordinal Descending) four ≡ units 4 ∷ units 3 ∷ units 2 ∷ units 1 ∷ []
unfolding all_of four opened
descending_ranks = refl

halves_of_four_values : all_of (kind.Quantiles 2) four ≡ pos 0 ∷ pos 0 ∷ pos 1 ∷ pos 1 ∷ []
unfolding all_of four opened
halves_of_four_values = refl

-- ---- other values

halves_of_equal_values : all_of (kind.Quantiles 2) ((1, units 1) ∷ (2, units 1) ∷ (3, units 1) ∷ (4, units 5) ∷ []) ≡ pos 0 ∷ pos 0 ∷ pos 0 ∷ pos 1 ∷ []
unfolding all_of opened
halves_of_equal_values = refl

one_asset_alone : all_of (kind.Quantiles 2) ((1, units 7) ∷ []) ≡ pos 0 ∷ []
unfolding all_of opened
one_asset_alone = refl

-- the edges lie at 2 and at 3
thirds_take_the_lower_bin_at_an_edge : all_of (kind.Quantiles 3) four ≡ pos 0 ∷ pos 0 ∷ pos 1 ∷ pos 2 ∷ []
unfolding all_of four opened
thirds_take_the_lower_bin_at_an_edge = refl

tied : List Entry
tied = (1, units 3) ∷ (2, units 1) ∷ (3, units 3) ∷ []

-- by all five methods
ranks_of_tied_values : map (λ m. all_of (kind.Rank m Ascending) tied) (method.Ordinal ∷ method.Min ∷ method.Max ∷ method.Dense ∷ method.Average ∷ [])
    ≡ (units 2 ∷ units 1 ∷ units 3 ∷ []) ∷ (units 2 ∷ units 1 ∷ units 2 ∷ []) ∷ (units 3 ∷ units 1 ∷ units 3 ∷ []) ∷ (units 2 ∷ units 1 ∷ units 2 ∷ []) ∷ (pos 2500000 ∷ units 1 ∷ pos 2500000 ∷ []) ∷ []
unfolding all_of tied opened
ranks_of_tied_values = refl

-- equal values stand by ascending sid in both orders
ties_stand_by_sid : all_of (kind.Rank method.Ordinal Descending) tied ≡ units 1 ∷ units 3 ∷ units 2 ∷ []
unfolding all_of tied opened
ties_stand_by_sid = refl

values_in_order : map (value_at (values tied)) (0 ∷ 1 ∷ 2 ∷ []) ≡ units 1 ∷ units 3 ∷ units 3 ∷ []
unfolding tied
values_in_order = refl

peers_are_all_entries : all_of kind.PeerCount tied ≡ units 3 ∷ units 3 ∷ units 3 ∷ []
unfolding all_of tied opened
peers_are_all_entries = refl

-- there is no deviation to divide by
scores_of_equal_values_are_missing : all_of kind.ZScore ((1, units 2) ∷ (2, units 2) ∷ []) ≡ MISSING ∷ MISSING ∷ []
unfolding all_of opened
scores_of_equal_values_are_missing = refl

-- ---- in a world

of_closes : kind → List Value
of_closes k = by_asset four_bars [] (across k (latest Close) absent)

closes_against_each_other : map of_closes (kind.ZScore ∷ kind.Top 2 ∷ kind.PercentileBetween 2500 7500 ∷ kind.Rank method.Ordinal Descending ∷ [])
    ≡ (Number (negsuc 1341641) ∷ Number (negsuc 447213) ∷ Number (pos 447214) ∷ Number (pos 1341642) ∷ [])
    ∷ (Number (pos 0) ∷ Number (pos 0) ∷ Number (pos 1) ∷ Number (pos 1) ∷ [])
    ∷ (Number (pos 0) ∷ Number (pos 1) ∷ Number (pos 1) ∷ Number (pos 0) ∷ [])
    ∷ (Number (units 4) ∷ Number (units 3) ∷ Number (units 2) ∷ Number (units 1) ∷ []) ∷ []
unfolding of_closes opened
closes_against_each_other = refl

what_has_no_value_has_no_rank : by_asset three_bars [] (across (kind.Rank method.Dense Ascending) (latest Close) absent) ≡ Number (units 2) ∷ Number (units 1) ∷ Number (units 2) ∷ Number MISSING ∷ []
unfolding opened
what_has_no_value_has_no_rank = refl

-- asset 1 is the second of two until asset 2 leaves, and then the first of one: the sum of two ranks on
-- 2024-01-08 and 01-09
ranks_are_among_those_that_exist : by_session leaving (window WindowKind.WindowSum 2 (across (kind.Rank method.Ordinal Ascending) (latest Close) absent ∷ [])) (4 ∷ 5 ∷ []) ≡ Number (units 3) ∷ Number (units 2) ∷ []
unfolding opened
ranks_are_among_those_that_exist = refl

-- ---- summaries

five : List Entry
five = (1, units 1) ∷ (2, units 2) ∷ (3, units 3) ∷ (4, units 4) ∷ (5, units 100) ∷ []

told : List ℤ → List ℤ
told vs = map (λ s. summary s vs) (summaries.Mean ∷ summaries.StdDev ∷ summaries.Sum ∷ summaries.Least ∷ summaries.Greatest ∷ summaries.Median ∷ summaries.Percentile 1000 ∷ summaries.NotNullCount ∷ [])

five_are_told : told (values five) ≡ units 22 ∷ pos 39012818 ∷ units 110 ∷ units 1 ∷ units 100 ∷ units 3 ∷ pos 1400000 ∷ units 5 ∷ []
unfolding told five summary opened
five_are_told = refl

of_none_there_is_nothing_but_the_count : told [] ≡ MISSING ∷ MISSING ∷ MISSING ∷ MISSING ∷ MISSING ∷ MISSING ∷ MISSING ∷ pos 0 ∷ []
unfolding told summary opened
of_none_there_is_nothing_but_the_count = refl

-- a fifth is cut off at each end, and the values by sid are 5, 1, 4, 2 and 3
mixed : List Entry
mixed = (1, units 5) ∷ (2, units 1) ∷ (3, units 4) ∷ (4, units 2) ∷ (5, units 3) ∷ []

ends_are_drawn_in : all_of (kind.Winsorize 200000 800000) mixed ≡ units 4 ∷ units 2 ∷ units 4 ∷ units 2 ∷ units 3 ∷ []
unfolding all_of mixed opened
ends_are_drawn_in = refl

shares_of_magnitudes : all_of kind.Scale ((1, units 1) ∷ (2, units 2) ∷ (3, negsuc 4999999) ∷ []) ≡ pos 125000 ∷ pos 250000 ∷ negsuc 624999 ∷ []
unfolding all_of opened
shares_of_magnitudes = refl
