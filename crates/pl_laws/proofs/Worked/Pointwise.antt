-- Arithmetic, comparisons and selections on the values of one asset and session, and masks.
use Rattle.std.specs.Prelude.{◌≡◌, pos, negsuc, refl, [], ◌∷◌, map}
use Rattle.pl_spec.specs.Rounding.{MISSING}
use Rattle.pl_spec.specs.declared.Column.TheVariants.{Close}
use Rattle.pl_spec.specs.declared.Compare.TheVariants as compare
use Rattle.pl_pipeline.specs.Kind.{Kind, PointKind as kind}
use Rattle.pl_pipeline.specs.declared.WindowKind.TheVariants as WindowKind
use Rattle.pl_pipeline.specs.Pointwise.{pointwise}
use Rattle.pl_pipeline.specs.Term.{Term}
use Rattle.pl_pipeline.specs.Term.Term.{absent, column, node}
use Rattle.pl_pipeline.specs.Value.Value.{Number}
use Rattle.pl_laws.proofs.Worked.Worlds.{opened, units, closed, alone, plain, no_tables, point, number, latest, by_session, on}

-- (close - 50).clip(0, 10) and (close - 60).clip(-8, 8), where the close is 51
clips_hold_a_value_between : on plain 3
    (point (kind.Clip (pos 0) (units 10)) (point kind.Sub (latest Close ∷ number (units 50) ∷ []) ∷ [])
    ∷ point (kind.Clip (negsuc 7999999) (units 8)) (point kind.Sub (latest Close ∷ number (units 60) ∷ []) ∷ []) ∷ [])
    ≡ Number (units 1) ∷ Number (negsuc 7999999) ∷ []
unfolding opened
clips_hold_a_value_between = refl

nothing_differs_from_itself : on plain 3 (point (kind.Comparison compare.NotEqual) (latest Close ∷ latest Close ∷ []) ∷ []) ≡ Number (pos 0) ∷ []
unfolding opened
nothing_differs_from_itself = refl

one_by_zero_is_missing : on plain 3 (point kind.Div (number (units 1) ∷ number (pos 0) ∷ []) ∷ []) ≡ Number MISSING ∷ []
unfolding opened
one_by_zero_is_missing = refl

sum_out_of_range_is_missing : on (alone (closed 1 0 (units 100000000000) ∷ []) no_tables) 1 (latest Close ∷ point kind.Add (latest Close ∷ latest Close ∷ []) ∷ []) ≡ Number (units 100000000000) ∷ Number MISSING ∷ []
unfolding opened
sum_out_of_range_is_missing = refl

missing_differs_from_nothing : pointwise (kind.Comparison compare.NotEqual) (pos 1) (pos 1) MISSING ∷ pointwise (kind.Comparison compare.NotEqual) MISSING (pos 1) MISSING
    ∷ pointwise (kind.Comparison compare.NotEqual) (pos 2) (pos 3) MISSING ∷ pointwise (kind.Comparison compare.NotEqual) MISSING MISSING MISSING ∷ []
    ≡ pos 0 ∷ pos 0 ∷ pos 1 ∷ pos 0 ∷ []
unfolding opened
missing_differs_from_nothing = refl

-- 2 against 3 and 3 against 3
six_comparisons : map (λ c. pointwise (kind.Comparison c) (pos 2) (pos 3) MISSING ∷ pointwise (kind.Comparison c) (pos 3) (pos 3) MISSING ∷ [])
    (compare.Less ∷ compare.LessEqual ∷ compare.Greater ∷ compare.GreaterEqual ∷ compare.Equal ∷ compare.NotEqual ∷ [])
    ≡ (pos 1 ∷ pos 0 ∷ []) ∷ (pos 1 ∷ pos 1 ∷ []) ∷ (pos 0 ∷ pos 0 ∷ []) ∷ (pos 0 ∷ pos 1 ∷ []) ∷ (pos 0 ∷ pos 1 ∷ []) ∷ (pos 1 ∷ pos 0 ∷ []) ∷ []
unfolding opened
six_comparisons = refl

logic_of_truth_values : pointwise kind.And (pos 1) (pos 1) MISSING ∷ pointwise kind.And (pos 1) (pos 0) MISSING ∷ pointwise kind.Or (pos 0) (pos 1) MISSING ∷ pointwise kind.Or (pos 0) (pos 0) MISSING ∷ pointwise kind.Not (pos 1) MISSING MISSING ∷ pointwise kind.Not (pos 0) MISSING MISSING ∷ []
    ≡ pos 1 ∷ pos 0 ∷ pos 1 ∷ pos 0 ∷ pos 0 ∷ pos 1 ∷ []
unfolding opened
logic_of_truth_values = refl

signs_are_turned_and_dropped : map (λ x. pointwise kind.Neg x MISSING MISSING) (units 3 ∷ negsuc 1999999 ∷ MISSING ∷ []) ∷ map (λ x. pointwise kind.Abs x MISSING MISSING) (units 3 ∷ negsuc 1999999 ∷ MISSING ∷ []) ∷ []
    ≡ (negsuc 2999999 ∷ units 2 ∷ MISSING ∷ []) ∷ (units 3 ∷ units 2 ∷ MISSING ∷ []) ∷ []
unfolding opened
signs_are_turned_and_dropped = refl

filter_selects_a_value : pointwise kind.IfElse (pos 1) (pos 5) (pos 8) ∷ pointwise kind.IfElse (pos 0) (pos 6) (pos 9) ∷ pointwise kind.IfElse (pos 1) (pos 7) MISSING ∷ [] ≡ pos 5 ∷ pos 9 ∷ pos 7 ∷ []
unfolding opened
filter_selects_a_value = refl

what_is_missing_is_filled : pointwise kind.FillNa MISSING (pos 4) MISSING ∷ pointwise kind.FillNa (pos 3) (pos 4) MISSING ∷ pointwise kind.IsNull MISSING MISSING MISSING ∷ pointwise kind.NotNull MISSING MISSING MISSING ∷ [] ≡ pos 4 ∷ pos 3 ∷ pos 1 ∷ pos 0 ∷ []
unfolding opened
what_is_missing_is_filled = refl

-- a numbered classifier has whole numbers, and is compared with a number in millionths
third_bin_is_three : pointwise (kind.NumberIs (units 3)) (pos 3) MISSING MISSING ∷ pointwise (kind.NumberIs (pos 3)) (pos 3) MISSING MISSING ∷ pointwise (kind.NumberIsNot (units 3)) MISSING MISSING MISSING ∷ [] ≡ pos 1 ∷ pos 0 ∷ pos 0 ∷ []
unfolding opened
third_bin_is_three = refl

-- ---- a mask is read on the session itself

-- the mean of two closes where the latest close is above 51: on 2024-01-05 it is 51, and on 01-08 it is 52
masked_mean : Term
masked_mean = node (Kind.Window WindowKind.SimpleMovingAverage) 2 (column Close) absent absent (point (kind.Comparison compare.Greater) (latest Close ∷ number (units 51) ∷ [])) absent

mean_is_missing_where_its_mask_is_false : by_session plain masked_mean (3 ∷ 4 ∷ []) ≡ Number MISSING ∷ Number (pos 51500000) ∷ []
unfolding masked_mean opened
mean_is_missing_where_its_mask_is_false = refl

-- the term that takes an empty value may fill it, where the asset exists: it doesn't yet on 2024-01-02
empty_values_may_be_filled : by_session plain (point kind.IsNull (masked_mean ∷ [])) (0 ∷ 3 ∷ 4 ∷ []) ≡ Number (pos 0) ∷ Number (pos 1) ∷ Number (pos 0) ∷ []
unfolding masked_mean opened
empty_values_may_be_filled = refl

-- ---- a list of sids

-- of asset 1
sids_of_a_list : on plain 1 (node (Kind.StaticSids (1 ∷ 3 ∷ [])) 1 absent absent absent absent absent ∷ node (Kind.StaticSids (2 ∷ 3 ∷ [])) 1 absent absent absent absent absent ∷ []) ≡ Number (pos 1) ∷ Number (pos 0) ∷ []
unfolding opened
sids_of_a_list = refl
