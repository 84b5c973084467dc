-- The cross-sections: the place of one asset's value among those of a session, by counting.
use Rattle.std.specs.Prelude.{ℕ, ◌+◌, ◌-◌, ◌*◌, ◌/◌, Bool, true, ◌&&◌, ◌||◌, false, if◌then◌else◌, ◌==◌, nat_lt, nat_le, ℤ, pos, ◌+ℤ◌, ◌-ℤ◌, ◌*ℤ◌, List, [], ◌∷◌, length, map, filter, find, Option, Some, None, unwrap_or, count_by, get_or, sum_by}
use Rattle.std.specs.List.{list_any, range_with_len}
use Rattle.std.specs.Int.{int_max, int_min}
use Rattle.std.specs.Int.RustNames.{int_lt, int_le, unsigned_abs}
use Rattle.std.specs.Ordering.{int_eq}
use Rattle.pl_pipeline.specs.declared.RankMethod.{RankMethod}
use Rattle.pl_pipeline.specs.declared.RankMethod.TheVariants.{Ordinal, Min, Max, Dense, Average}
use Rattle.pl_pipeline.specs.declared.RankOrder.{RankOrder}
use Rattle.pl_pipeline.specs.declared.RankOrder.TheVariants.{Ascending, Descending}
use Rattle.pl_pipeline.specs.declared.Summary.{Summary}
use Rattle.pl_pipeline.specs.declared.Summary.TheVariants.{Mean, StdDev, Sum, Least, Greatest, Median, Percentile, NotNullCount}
use Rattle.pl_spec.specs.Rounding.{MISSING, MILLION, is_present, quot, sub, div_round, to_cell}
use Rattle.pl_spec.specs.Cells.{total, truth, is_true}
use Rattle.pl_pipeline.specs.Formula.{spread}
use Rattle.pl_pipeline.specs.Order.{preceding, count_equal, edge, percentile, value_at}
use Rattle.pl_pipeline.specs.Kind.{CrossKind}
use Rattle.pl_pipeline.specs.Kind.CrossKind.{Rank, Demean, ZScore, Quantiles, Top, Bottom, PercentileBetween, PeerCount, Winsorize, Scale, Summarize}

-- a sid and its value
abbrev pub Entry : Type 0
Entry = ℕ × ℤ

abbrev pub values : List Entry → List ℤ
values list = map (λ e. e.1) list

-- the equal values of smaller sids
abbrev pub earlier_same : ℕ → ℤ → List Entry → ℕ
earlier_same a x list = count_by (λ e. int_eq x e.1 && nat_lt e.0 a) list

-- each value once
abbrev pub distinct_values : List ℤ → List ℤ
distinct_values [] = []
distinct_values (v ∷ vs) = if list_any (int_eq v) vs then distinct_values vs else v ∷ distinct_values vs

-- the place of asset a with the value x, from 1; equal values stand by ascending sid
abbrev pub ordinal : RankOrder → List Entry → ℕ → ℤ → ℕ
ordinal order list a x = preceding order x (values list) + earlier_same a x list + 1

-- the rank in millionths of a unit
abbrev pub rank : RankMethod → RankOrder → List Entry → ℕ → ℤ → ℕ
rank Ordinal order list a x = ordinal order list a x * MILLION
rank Min order list a x = (preceding order x (values list) + 1) * MILLION
rank Max order list a x = (preceding order x (values list) + count_equal x (values list)) * MILLION
rank Dense order list a x = (preceding order x (distinct_values (values list)) + 1) * MILLION
rank Average order list a x = preceding order x (values list) * MILLION + (count_equal x (values list) + 1) * MILLION / 2

-- how many of the edges between the bins lie below x
abbrev pub bin_of : ℕ → List ℤ → ℤ → ℕ
bin_of bins vs x =
    count_by (λ k. int_lt (edge vs (k * (length vs - 1)) bins) (x *ℤ pos bins)) (range_with_len 1 (bins - 1))

-- x is not below the low edge and not above the high one
abbrev pub is_percentile_between : ℕ → ℕ → List ℤ → ℤ → Bool
is_percentile_between low high vs x =
    int_le (edge vs (low * (length vs - 1)) 10000) (x *ℤ pos 10000)
    && int_le (x *ℤ pos 10000) (edge vs (high * (length vs - 1)) 10000)

abbrev pub center : List ℤ → ℤ
center vs = div_round (total vs) (length vs)

-- x, but not below the value low millionths of the way through the sorted values, nor above that at high
abbrev pub winsorized : ℕ → ℕ → List ℤ → ℤ → ℤ
winsorized low high vs x =
    let n = length vs in
    int_max (value_at vs (low * n / MILLION)) (int_min (value_at vs ((high * n + MILLION - 1) / MILLION - 1)) x)

-- x over the sum of the magnitudes
abbrev pub scaled_to_one : List ℤ → ℤ → ℤ
scaled_to_one vs x = quot (x *ℤ pos MILLION) (pos (sum_by unsigned_abs vs))

-- v, where the list has a value
abbrev pub if_some : List ℤ → ℤ → ℤ
if_some [] v = MISSING
if_some vs v = v

unfoldable pub summary : Summary → List ℤ → ℤ
summary Mean vs = quot (total vs) (pos (length vs))
summary StdDev vs = if_some vs (to_cell (pos (spread vs)))
summary Sum vs = if_some vs (to_cell (total vs))
summary Least vs = if_some vs (value_at vs 0)
summary Greatest vs = if_some vs (value_at vs (length vs - 1))
summary Median vs = if_some vs (percentile 5000 vs)
summary (Percentile percent) vs = if_some vs (percentile percent vs)
summary NotNullCount vs = pos (length vs * MILLION)

-- a summary is given to each asset, whether it is in the list or not
abbrev pub is_for_all : CrossKind → Bool
is_for_all (Summarize s) = true
is_for_all k = false

-- list has the entries that count, and x is the value of asset a among them
unfoldable pub cross : CrossKind → List Entry → ℕ → ℤ → ℤ
cross (Rank method order) list a x = pos (rank method order list a x)
cross Demean list a x = sub x (center (values list))
cross ZScore list a x = quot ((x -ℤ center (values list)) *ℤ pos MILLION) (pos (spread (values list)))
cross (Quantiles bins) list a x = pos (bin_of bins (values list) x)
cross (Top n) list a x = truth (nat_le (ordinal Descending list a x) n)
cross (Bottom n) list a x = truth (nat_le (ordinal Ascending list a x) n)
cross (PercentileBetween low high) list a x = truth (is_percentile_between low high (values list) x)
cross PeerCount list a x = pos (length list * MILLION)
cross (Winsorize low high) list a x = winsorized low high (values list) x
cross Scale list a x = scaled_to_one (values list) x
cross (Summarize s) list a x = summary s (values list)

-- ---- one session's cross-section as arrays have it, asset by asset

abbrev pub array_at : List ℤ → ℕ → ℤ
array_at xs i = get_or xs i MISSING

abbrev pub same_group : Option (List ℤ) → ℕ → ℕ → Bool
same_group None i j = true
same_group (Some labels) i j = is_present (array_at labels i) && int_eq (array_at labels i) (array_at labels j)

-- place j counts for place i: it passes the mask, its value is present, and it is of i's group
abbrev pub counts_at : List ℤ → List ℤ → Option (List ℤ) → ℕ → ℕ → Bool
counts_at vs keep labels i j = is_true (array_at keep j) && is_present (array_at vs j) && same_group labels i j

-- the entries that count for the asset at place i
abbrev pub entries_for : List ℤ → List ℤ → Option (List ℤ) → ℕ → List Entry
entries_for vs keep labels i = map (λ j. (j, array_at vs j)) (filter (counts_at vs keep labels i) (range_with_len 0 (length vs)))

-- what a cross-section gives at place i, and the empty value where it gives none: the asset is not in its own
-- list, or, of what is for all, it is not kept
abbrev pub cross_at : CrossKind → ℤ → List ℤ → List ℤ → Option (List ℤ) → ℕ → ℤ
cross_at k none vs keep labels i =
    let list = entries_for vs keep labels i in
    if (is_for_all k && is_true (array_at keep i)) || list_any (λ e. e.0 == i) list
    then cross k list i (array_at vs i)
    else none
