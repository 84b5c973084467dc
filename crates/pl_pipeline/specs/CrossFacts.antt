-- Facts of cross-sections.
use Rattle.std.specs.Prelude.{◌≡◌, ℕ, ◌+◌, ◌-◌, ◌*◌, ◌<◌, ◌≤◌, ℤ, neg_ℤ, List, length, map, Contains}
use Rattle.pl_pipeline.specs.declared.RankMethod.TheVariants.{Ordinal, Min, Max, Dense, Average}
use Rattle.pl_pipeline.specs.declared.RankOrder.{RankOrder}
use Rattle.pl_pipeline.specs.Cross.{Entry, rank}
use Rattle.pl_pipeline.specs.Order.{count_less, count_equal, edge}

-- v is a value, with at most i values below it and more than i at most it
pub record IsValueAt (vs : List ℤ) (i : ℕ) (v : ℤ) : Type 0 where
  pub own : Contains vs v
  pub few : count_less v vs ≤ i
  pub many : i < count_less v vs + count_equal v vs

-- the edge before bin k, times the number of bins
abbrev pub edge_of : ℕ → List ℤ → ℕ → ℤ
edge_of bins vs k = edge vs (k * (length vs - 1)) bins

-- how the five ranks of a value lie to one another
pub record AreRanks (order : RankOrder) (list : List Entry) (a : ℕ) (x : ℤ) : Type 0 where
  pub least : rank Min order list a x ≤ rank Ordinal order list a x
  pub greatest : Contains list (a, x) → rank Ordinal order list a x ≤ rank Max order list a x
  pub middle : 2 * rank Average order list a x ≡ rank Min order list a x + rank Max order list a x
  pub dense : rank Dense order list a x ≤ rank Min order list a x

-- the entries with their values negated
abbrev pub negated : List Entry → List Entry
negated list = map (λ e. (e.0, neg_ℤ e.1)) list
