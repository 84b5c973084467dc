-- Draws after draws.
use Rattle.std.proofs.Common.{◌≡◌, ℕ, zero, suc, ◌+◌, ◌<◌, refl, sym, ap, ◌∙◌, arith}
use Rattle.pl_bench.specs.Draws.{next_state, behind, number_at}

pub behind-none : (s : ℕ) → behind s 0 ≡ s
unfolding behind
behind-none s = refl

pub behind-next : (s n : ℕ) → behind s (n + 1) ≡ next_state (behind s n)
unfolding behind
behind-next s n = let e : n + 1 ≡ suc n = omega arith in ap (behind s) e

pub behind-more : (s a b : ℕ) → behind (behind s a) b ≡ behind s (a + b)
unfolding behind
behind-more s a zero = let e : a ≡ a + 0 = omega arith in ap (behind s) e
behind-more s a (suc b) = let e : suc (a + b) ≡ a + suc b = omega arith in ap next_state (behind-more s a b) ∙ ap (behind s) e

pub number-below : (state m : ℕ) → 0 < m → number_at state m < m
unfolding number_at
number-below state m h = omega arith

pub drawn-next : (s n at to : ℕ) → at ≡ behind s n → to ≡ next_state at → to ≡ behind s (n + 1)
drawn-next s n at to e f = f ∙ ap next_state e ∙ sym (behind-next s n)
