-- The steps of events, one after the other.
use Rattle.std.proofs.Common.{◌≡◌, ℕ, ◌+◌, ◌*◌, arith}
use Rattle.pl_spec.specs.Limits.{saturated}

-- the steps of one event, and of those that are left
pub cost_more : (old now count one left all start : ℕ) → now ≡ old + count * one → one + left ≡ all → old + count * all ≡ start → now + count * left ≡ start
cost_more old now count one left all start e f g = rw (← g, ← f) (omega arith)

pub tally_more : (old now count one left all start : ℕ) → saturated now ≡ saturated (old + count * one) → one + left ≡ all → saturated (old + count * all) ≡ saturated start → saturated (now + count * left) ≡ saturated start
tally_more old now count one left all start e f g =
    let split : count * all ≡ count * one + count * left = rw (← f) (omega arith) in
    omega (arith, split)
