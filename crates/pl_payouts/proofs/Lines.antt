-- A line that is put together field by field.
use Rattle.std.proofs.Common.{◌≡◌, ℕ, List, [], ◌∷◌, ◌++◌, arith}
use Rattle.std.proofs.lemmas.Grind.{common_steps}
use Rattle.pl_payouts.specs.Texts.{line}

-- three fields, each with the comma after it
three : (a b e l0 l1 l2 l3 : List ℕ) → l0 ≡ [] → l1 ≡ l0 ++ (a ++ 44 ∷ []) → l2 ≡ l1 ++ (b ++ 44 ∷ []) → l3 ≡ l2 ++ (e ++ 44 ∷ [])
    → l3 ≡ a ++ (44 ∷ b ++ (44 ∷ e ++ (44 ∷ [])))
three a b e l0 l1 l2 l3 p q s t = grind (arith, common_steps)

pub row_line : (a b e n d l0 l1 l2 l3 l4 l5 l6 : List ℕ) → l0 ≡ [] → l1 ≡ l0 ++ (a ++ 44 ∷ []) → l2 ≡ l1 ++ (b ++ 44 ∷ []) → l3 ≡ l2 ++ (e ++ 44 ∷ [])
    → l4 ≡ l3 ++ (n ++ 44 ∷ []) → l5 ≡ l4 ++ (d ++ 44 ∷ []) → l6 ≡ l5 ++ 10 ∷ [] → l6 ≡ line (a ∷ b ∷ e ∷ n ∷ d ∷ [] ∷ [])
row_line a b e n d l0 l1 l2 l3 l4 l5 l6 p q s t u v w = let front = three a b e l0 l1 l2 l3 p q s t in grind (arith, common_steps)

pub skip_line : (a b e reason l0 l1 l2 l3 l4 l5 l6 : List ℕ) → l0 ≡ [] → l1 ≡ l0 ++ (a ++ 44 ∷ []) → l2 ≡ l1 ++ (b ++ 44 ∷ []) → l3 ≡ l2 ++ (e ++ 44 ∷ [])
    → l4 ≡ l3 ++ (44 ∷ 44 ∷ []) → l5 ≡ l4 ++ reason → l6 ≡ l5 ++ 10 ∷ [] → l6 ≡ line (a ∷ b ∷ e ∷ [] ∷ [] ∷ reason ∷ [])
skip_line a b e reason l0 l1 l2 l3 l4 l5 l6 p q s t u v w = let front = three a b e l0 l1 l2 l3 p q s t in grind (arith, common_steps)
