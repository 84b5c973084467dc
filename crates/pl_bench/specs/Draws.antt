-- Numbers that are drawn one after the other from a state of 64 bits.
use Rattle.std.specs.Prelude.{ℕ, zero, suc, ◌+◌, ◌*◌, ◌/◌, ◌%◌, ◌^◌}

unfoldable pub next_state : ℕ → ℕ
next_state state = (state * 6364136223846793005 + 1442695040888963407) % 2 ^ 64

-- the state after n draws
unfoldable pub behind : ℕ → ℕ → ℕ
behind state zero = state
behind state (suc n) = next_state (behind state n)

-- the number below m that a draw gives which leaves this state
unfoldable pub number_at : ℕ → ℕ → ℕ
number_at state m = state / 2 ^ 33 % m

-- the number below m of draw k after the state, counted from 0
abbrev pub drawn : ℕ → ℕ → ℕ → ℕ
drawn state k m = number_at (behind state (k + 1)) m
