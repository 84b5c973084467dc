-- Quantiles have their number of bins, and these grow with the value.
use Rattle.std.proofs.Common.{◌≡◌, ℕ, ◌+◌, ◌-◌, ◌*◌, ◌≤◌, true, ℤ, pos, ◌*ℤ◌, ◌≤ℤ◌, List, length, arith}
use Rattle.std.specs.List.{range_with_len}
use Rattle.std.specs.Int.RustNames.{int_lt}
use Rattle.std.proofs.lemmas.Int.{ints}
use Rattle.std.proofs.lemmas.List.Sums.{count_by-le-length}
use Rattle.std.proofs.lemmas.Nat.{mul-le}
use Rattle.std.proofs.lemmas.List.FromFn.{length-range_with_len}
use borrow.Author.Differences.{up, down}
use Rattle.pl_pipeline.specs.Cross.{bin_of}
use Rattle.pl_pipeline.specs.Order.{edge}
use Rattle.pl_spec.proofs.Counts.{count-within}

pub times-le : (x y : ℤ) (n : ℕ) → x ≤ℤ y → (x *ℤ pos n) ≤ℤ (y *ℤ pos n)
times-le x y n h =
    let le : up x + down y ≤ up y + down x = omega (arith, ints) in
    let times : (up x + down y) * n ≤ (up y + down x) * n = mul-le (up x + down y) n (up y + down x) n le (omega arith) in
    omega (arith, ints)

below-more : (e x y : ℤ) → x ≤ℤ y → int_lt e x ≡ true → int_lt e y ≡ true
below-more e x y h t = grind (arith, ints)

pub bins-few : (bins : ℕ) (vs : List ℤ) (x y : ℤ) → (bin_of bins vs x ≤ bins - 1) × (x ≤ℤ y → bin_of bins vs x ≤ bin_of bins vs y)
bins-few bins vs x y = (
  omega (arith, count_by-le-length (λ k. int_lt (edge vs (k * (length vs - 1)) bins) (x *ℤ pos bins)) (range_with_len 1 (bins - 1)), length-range_with_len 1 (bins - 1)),
  λ h. count-within (λ k. int_lt (edge vs (k * (length vs - 1)) bins) (x *ℤ pos bins)) (λ k. int_lt (edge vs (k * (length vs - 1)) bins) (y *ℤ pos bins)) (range_with_len 1 (bins - 1))
      (λ k i. below-more (edge vs (k * (length vs - 1)) bins) (x *ℤ pos bins) (y *ℤ pos bins) (times-le x y bins h)),
)
