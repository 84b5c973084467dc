-- How large a price may be.
use Rattle.std.proofs.Common.{◌≡◌, ℕ, zero, suc, ◌+◌, ◌*◌, ◌/◌, ◌^◌, ◌≤◌, Bool, true, false, ℤ, pos, negsuc, ◌-◌, ◌+ℤ◌, ◌-ℤ◌, ◌*ℤ◌, refl, ap, arith, FitsSigned, w64}
use Rattle.std.specs.Int.{w128}
use Rattle.std.specs.Prelude.{nat_le, if◌then◌else◌}
use Rattle.std.specs.Int.RustNames.{unsigned_abs, int_lt}
use Rattle.std.proofs.lemmas.Bool.Decides.{nat_tests}
use Rattle.std.proofs.lemmas.Int.{ints, unsigned_abs-mul, fits_signed_mul}
use Rattle.std.proofs.lemmas.Nat.{mul-le}
use Rattle.jiff_core.proofs.SignedLemmas.{unsigned_abs-parts}
use Rattle.pl_spec.specs.Rounding.{MILLION, div_round}
use Rattle.pl_fixed.proofs.RoundingLemmas.{unsigned_abs-div_round}
use Rattle.pl_bench.specs.Draws.{behind, drawn}
use Rattle.pl_bench.specs.StatedWorld.{IsPrice, next_price, price}
use Rattle.pl_bench.proofs.Sequences.{number-below}

-- by how much a price changes
unfoldable pub change : ℤ → ℕ → ℤ
change p d = div_round (p *ℤ (pos d -ℤ pos 200)) 10000

pub near_200 : (d : ℕ) → d ≤ 400 → unsigned_abs (pos d -ℤ pos 200) ≤ 200
near_200 d h = omega (arith, ints, unsigned_abs-parts (pos d -ℤ pos 200))

rounded-size : (n x : ℕ) → x ≤ n * 200 → (2 * x + 10000) / (2 * 10000) ≤ n / 50 + 1
rounded-size n x h = omega arith

pub part-size : (n : ℕ) (parts : ℤ) → unsigned_abs parts ≤ 200 → unsigned_abs (div_round (pos n *ℤ parts) 10000) ≤ n / 50 + 1
part-size n parts h =
    let few : n * unsigned_abs parts ≤ n * 200 = mul-le n (unsigned_abs parts) n 200 (omega arith) h in
    rw (unsigned_abs-div_round (pos n *ℤ parts) 10000, unsigned_abs-mul (pos n) parts)
    (rounded-size n (n * unsigned_abs parts) few)

pub part-small : (m : ℕ) (p parts : ℤ) → IsPrice m p → m ≤ 10 ^ 15 → unsigned_abs parts ≤ 200 → unsigned_abs (div_round (p *ℤ parts) 10000) ≤ 10 ^ 15
part-small m (pos n) parts h few k = omega (arith, ints, h.low, h.high, part-size n parts k)
part-small m (negsuc n) parts h few k = absurd (omega (arith, ints, h.low))

pub product-fits : (p parts : ℤ) → IsPrice (10 ^ 15) p → unsigned_abs parts ≤ 200 → FitsSigned w128 (p *ℤ parts)
product-fits p parts h k =
    fits_signed_mul w128 p parts (10 ^ 15) 200 (omega (arith, ints, unsigned_abs-parts p, h.low, h.high)) k (omega arith)

pub next-by_change : (p : ℤ) (d : ℕ) → next_price p d ≡ (if int_lt (p +ℤ change p d) (pos MILLION) then pos MILLION else p +ℤ change p d)
unfolding next_price change
next-by_change p d = refl

grows : (m n : ℕ) (x : ℤ) → 1000000 ≤ n → n ≤ m → unsigned_abs x ≤ n / 50 + 1 → IsPrice (51 * m / 50 + 1) (if int_lt (pos n +ℤ x) (pos MILLION) then pos MILLION else pos n +ℤ x)
grows m n x low high size = here (int_lt (pos n +ℤ x) (pos MILLION)) refl
  where
    here : (b : Bool) → int_lt (pos n +ℤ x) (pos MILLION) ≡ b → IsPrice (51 * m / 50 + 1) (if b then pos MILLION else pos n +ℤ x)
    here true e = record { low = omega (arith, ints); high = omega (arith, ints) }
    here false e = record { low = grind (arith, ints); high = omega (arith, ints, unsigned_abs-parts x) }

pub price-steps : (m d : ℕ) (p : ℤ) → IsPrice m p → d ≤ 400 → IsPrice (51 * m / 50 + 1) (next_price p d)
unfolding change
price-steps m d (pos n) h few = rw (next-by_change (pos n) d) (grows m n (change (pos n) d) (omega (arith, ints, h.low)) (omega (arith, ints, h.high)) (part-size n (pos d -ℤ pos 200) (near_200 d few)))
price-steps m d (negsuc n) h few = absurd (omega (arith, ints, h.low))

-- the greatest price after so many sessions
unfoldable pub most : ℕ → ℕ
most zero = 99000000
most (suc n) = 51 * most n / 50 + 1

last_most : nat_le (most 600) (10 ^ 15) ≡ true
unfolding most
last_most = refl

most-rises : (n k : ℕ) → most n ≤ most (n + k)
unfolding most
most-rises n zero = let e : n ≡ n + 0 = omega arith in omega (arith, ap most e)
most-rises n (suc k) = let e : suc (n + k) ≡ n + suc k = omega arith in omega (arith, ap most e, most-rises n k)

pub prices-within : (state n : ℕ) → IsPrice (most n) (price state n)
unfolding price most
prices-within state zero =
    let few = number-below (behind state 1) 80 (omega arith) in
    record { low = omega (arith, ints); high = omega (arith, ints) }
prices-within state (suc n) =
    price-steps (most n) (drawn state (1 + 2 * n) 401) (price state n) (prices-within state n)
    (let few = number-below (behind state (1 + 2 * n + 1)) 401 (omega arith) in omega arith)

pub prices-small : (state n : ℕ) → n ≤ 600 → IsPrice (10 ^ 15) (price state n)
prices-small state n h =
    let p = prices-within state n in
    let e : n + (600 - n) ≡ 600 = omega arith in
    let few : most n ≤ 10 ^ 15 = omega (arith, most-rises n (600 - n), ap most e, le-of last_most) in
    record { low = p.low; high = omega (arith, ints, p.high) }
  where
    le-of : nat_le (most 600) (10 ^ 15) ≡ true → most 600 ≤ 10 ^ 15
    le-of t = grind (arith, nat_tests)

pub small-fits : (x : ℤ) → unsigned_abs x ≤ 10 ^ 15 → FitsSigned w64 x × FitsSigned w128 x
small-fits x h = (record { sfits = omega (arith, ints, unsigned_abs-parts x) }, record { sfits = omega (arith, ints, unsigned_abs-parts x) })

pub next-low : (p g : ℤ) (d : ℕ) → g ≡ p +ℤ change p d → int_lt g (pos MILLION) ≡ true → pos MILLION ≡ next_price p d
next-low p g d e t = rw (next-by_change p d, rw e at t) refl

pub next-high : (p g : ℤ) (d : ℕ) → g ≡ p +ℤ change p d → int_lt g (pos MILLION) ≡ false → g ≡ next_price p d
next-high p g d e t = rw (next-by_change p d, rw e at t) e

pub changed : (p x : ℤ) (d : ℕ) → x ≡ div_round (p *ℤ (pos d -ℤ pos 200)) 10000 → p +ℤ x ≡ p +ℤ change p d
unfolding change
changed p x d e = ap (λ (y : ℤ). p +ℤ y) e

pub sum-fits : (p x : ℤ) → IsPrice (10 ^ 15) p → unsigned_abs x ≤ 10 ^ 15 → FitsSigned w64 (p +ℤ x)
sum-fits p x h k = record { sfits = omega (arith, ints, unsigned_abs-parts x, unsigned_abs-parts (p +ℤ x), h.low, h.high) }
