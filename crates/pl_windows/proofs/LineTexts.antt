-- The text of a line.
use Rattle.std.proofs.Common.{◌≡◌, ℕ, ◌≤◌, ℤ, pos, List, [], ◌∷◌, ◌++◌, length, drop, get_or, ap, arith}
use Rattle.pl_spec.specs.Decimals.{cell_text}
use Rattle.pl_windows.specs.Windows.{further_text}

-- a further cell, and those behind it
pub further-first : (cells : List ℤ) → 1 ≤ length cells → (l : List ℕ) → l ≡ 59 ∷ cell_text (get_or cells 0 (pos 0)) → l ++ further_text (drop 1 cells) ++ 10 ∷ [] ≡ further_text cells ++ 10 ∷ []
further-first [] some l e = absurd (omega (arith, some))
further-first (x ∷ xs) some l e = ap (λ t. t ++ further_text xs ++ 10 ∷ []) e
