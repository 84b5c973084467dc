-- How many entries stand among the first.
use Rattle.std.proofs.Common.{◌≡◌, ◌≢◌, ℕ, zero, suc, ◌+◌, ◌-◌, min, cond, nat_le, List, length, map, sym, ◌∙◌, arith}
use Rattle.std.specs.List.{AllPairs, count_by, range_with_len}
use Rattle.std.proofs.lemmas.Bool.Decides.{nat_tests}
use Rattle.std.proofs.lemmas.List.Sorted.{sum_by-IsPermutation}
use Rattle.pl_pipeline.specs.declared.RankOrder.{RankOrder}
use Rattle.pl_pipeline.specs.declared.RankOrder.TheVariants.{Ascending, Descending}
use Rattle.pl_spec.specs.Cells.{is_true}
use Rattle.pl_pipeline.specs.Kind.CrossKind.{Top, Bottom}
use Rattle.pl_pipeline.specs.Cross.{Entry, ordinal, cross}
use Rattle.pl_spec.proofs.Counts.{count-cons, count-agree, count-map}
use Rattle.pl_pipeline.proofs.Cells.{is_true-truth}
use Rattle.pl_laws.proofs.Ordinals.{ordinals-numbers}

-- how many of the m numbers from a on are at most n
upto : (n a m : ℕ) → count_by (λ k. nat_le k n) (range_with_len a m) ≡ min (n + 1 - a) m
upto n a zero = omega arith
upto n a (suc m) =
    let rest = upto n (a + 1) m in
    rw (count-cons (λ k. nat_le k n) a (range_with_len (a + 1) m)) (one_more n a m (count_by (λ k. nat_le k n) (range_with_len (a + 1) m)) rest)
  where
    one_more : (n a m c : ℕ) → c ≡ min (n + 1 - (a + 1)) m → cond (nat_le a n) 1 0 + c ≡ min (n + 1 - a) (suc m)
    one_more n a m c e = grind (arith, nat_tests)

among_first : (order : RankOrder) (n : ℕ) (list : List Entry) → AllPairs (λ e f. e.0 ≢ f.0) list → count_by (λ (e : Entry). nat_le (ordinal order list e.0 e.1) n) list ≡ min n (length list)
among_first order n list h =
    let moved = sum_by-IsPermutation (λ k. cond (nat_le k n) 1 0) (map (λ (e : Entry). ordinal order list e.0 e.1) list) (range_with_len 1 (length list)) (ordinals-numbers order list h) in
    sym (count-map (λ k. nat_le k n) (λ (e : Entry). ordinal order list e.0 e.1) list) ∙ sym moved ∙ upto n 1 (length list) ∙ omega arith

pub tops-many : (n : ℕ) (list : List Entry) → AllPairs (λ e f. e.0 ≢ f.0) list
    → (count_by (λ e. is_true (cross (Top n) list e.0 e.1)) list ≡ min n (length list)) × (count_by (λ e. is_true (cross (Bottom n) list e.0 e.1)) list ≡ min n (length list))
unfolding cross
tops-many n list h = (
  count-agree (λ (e : Entry). is_true (cross (Top n) list e.0 e.1)) (λ (e : Entry). nat_le (ordinal Descending list e.0 e.1) n) list (λ e i. is_true-truth (nat_le (ordinal Descending list e.0 e.1) n))
      ∙ among_first Descending n list h,
  count-agree (λ (e : Entry). is_true (cross (Bottom n) list e.0 e.1)) (λ (e : Entry). nat_le (ordinal Ascending list e.0 e.1) n) list (λ e i. is_true-truth (nat_le (ordinal Ascending list e.0 e.1) n))
      ∙ among_first Ascending n list h,
)
