-- What a graph uses, how far it reaches back, and how many of its results are live at once.
use Rattle.std.specs.Prelude.{◌≡◌, ℕ, pos, negsuc, refl, List, [], ◌∷◌, map, Some}
use Rattle.pl_spec.specs.declared.Column.TheVariants.{Close, Volume}
use Rattle.pl_spec.specs.declared.Compare.TheVariants as compare
use Rattle.pl_pipeline.specs.Kind.{Kind, PointKind}
use Rattle.pl_pipeline.specs.declared.WindowKind.TheVariants as WindowKind
use Rattle.pl_pipeline.specs.Term.{Graph, term_at}
use Rattle.pl_pipeline.specs.Graph.{reach, used_terms, live_terms, columns_at, bound}
use Rattle.pl_laws.proofs.Worked.Worlds.{opened, plain, units, at_close, of_bars, of_terms, latest_close}

-- ---- one column of one term

latest_close_and_its_column : bound latest_close.graph (0 ∷ []) ≡ 2
latest_close_and_its_column = refl

-- the first session would need one before it
two_closes_reach_back_two_sessions : map (reach plain.days (at_close WindowKind.SimpleMovingAverage 2)) (pos 1 ∷ pos 2 ∷ []) ≡ negsuc 0 ∷ pos 0 ∷ []
unfolding opened
two_closes_reach_back_two_sessions = refl

-- ---- an average of two returns

of_returns : Graph
of_returns = of_bars WindowKind.Returns (Close ∷ []) 2 ∷ record (of_terms (Kind.Window WindowKind.SimpleMovingAverage) (0 ∷ [])) { window = 2 } ∷ []

-- on 2024-01-04 and 01-05
a_window_over_a_window_reaches_further : map (reach plain.days (term_at of_returns 1)) (pos 2 ∷ pos 3 ∷ []) ≡ negsuc 0 ∷ pos 0 ∷ []
unfolding of_returns opened
a_window_over_a_window_reaches_further = refl

bound_of_a_window_over_a_window : bound of_returns (1 ∷ []) ≡ 2
unfolding of_returns
bound_of_a_window_over_a_window = refl

-- ---- an average of dollar volume above 1000 as the mask of one of two averages; the other stands in two
-- columns

liquid : Graph
liquid =
    of_bars WindowKind.AverageDollarVolume (Close ∷ Volume ∷ []) 2 ∷ of_terms (Kind.Constant (units 1000)) [] ∷ of_terms (Kind.Point (PointKind.Comparison compare.Greater)) (0 ∷ 1 ∷ [])
    ∷ of_bars WindowKind.SimpleMovingAverage (Close ∷ []) 3 ∷ record (of_bars WindowKind.SimpleMovingAverage (Close ∷ []) 3) { mask = Some 2 } ∷ []

outputs : List ℕ
outputs = 3 ∷ 3 ∷ 4 ∷ []

all_terms_are_used : used_terms liquid outputs ≡ 0 ∷ 1 ∷ 2 ∷ 3 ∷ 4 ∷ []
unfolding liquid outputs
all_terms_are_used = refl

-- the mask is no longer read after term 4, and what it compares not after term 2
live_with_each_term : map (live_terms liquid outputs) (0 ∷ 1 ∷ 2 ∷ 3 ∷ 4 ∷ []) ≡ (0 ∷ []) ∷ (0 ∷ 1 ∷ []) ∷ (0 ∷ 1 ∷ 2 ∷ []) ∷ (2 ∷ 3 ∷ []) ∷ (2 ∷ 3 ∷ 4 ∷ []) ∷ []
unfolding liquid outputs
live_with_each_term = refl

columns_of_each_term : map (columns_at liquid) (0 ∷ 1 ∷ 2 ∷ 3 ∷ 4 ∷ []) ≡ 2 ∷ 0 ∷ 0 ∷ 1 ∷ 1 ∷ []
unfolding liquid
columns_of_each_term = refl

-- terms 2, 3 and 4 and the closes of term 4
four_results_are_live_at_once : bound liquid outputs ≡ 4
unfolding liquid outputs
four_results_are_live_at_once = refl

-- from 2024-01-05 on
averages_of_three_reach_the_first_session : map (λ t. reach plain.days (term_at liquid t) (pos 3)) (3 ∷ 4 ∷ []) ≡ pos 0 ∷ pos 0 ∷ []
unfolding liquid opened
averages_of_three_reach_the_first_session = refl

-- without the last column its mask is not used
what_is_not_mentioned_is_not_used : used_terms liquid (3 ∷ []) ≡ 3 ∷ []
unfolding liquid
what_is_not_mentioned_is_not_used = refl
