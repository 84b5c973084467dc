-- A test of the elements of a list, under tests that agree.
use Rattle.std.proofs.Common.{◌≡◌, suc, ◌||◌, Bool, List, [], ◌∷◌, All, refl, ◌∙◌, ap, arith}
use Rattle.std.specs.List.{list_any}

pub any-same : {A : Type 0} (p q : A → Bool) (xs : List A) → All (λ x. p x ≡ q x) xs → list_any p xs ≡ list_any q xs
any-same p q [] same = refl
any-same p q (x ∷ xs) same =
    ap (λ b. b || list_any p xs) (same 0 x (omega arith)) ∙ ap (λ b. q x || b) (any-same p q xs (λ k d h. same (suc k) d (omega arith)))
