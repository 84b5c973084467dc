-- The counts of a pipeline are those of the parts that the code has.
use Rattle.std.proofs.Common.{◌≡◌, ℕ, List, [], ◌++◌, refl, append_assoc, append-nil}

-- pieces one after the other
pub pieces-are : (a t b c d e : List ℕ) → a ++ (t ++ (b ++ (c ++ ((d ++ e) ++ [])))) ≡ ((((a ++ t) ++ b) ++ c) ++ d) ++ e
pieces-are a t b c d e = simp (append_assoc, append-nil) refl
