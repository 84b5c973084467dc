-- The first cells of windows that follow on each other.
use Rattle.std.proofs.Common.{◌≡◌, ℕ, ◌+◌, ◌<◌, ◌≤◌, ℤ, pos, List, [], ◌∷◌, length, take, drop, get_or, All, refl, sym, ◌∙◌, ap, subst, arith, length-drop}
use Rattle.std.proofs.lemmas.List.{get_or-take, get_or-drop}
use Rattle.std.proofs.lemmas.List.Elements.{All-get_or}
use Rattle.pl_spec.specs.Rounding.{IsCell, MISSING}
use Rattle.pl_pipeline.specs.Formula.{formula, oldest}
use Rattle.pl_pipeline.specs.Kind.Kind.{Window}
use Rattle.pl_pipeline.specs.declared.WindowKind.TheVariants.{Latest, WindowFirst}
use Rattle.pl_factors.specs.Lanes.{AreValues, window_at}

any_default : (xs : List ℤ) (x y : ℤ) → 0 < length xs → get_or xs 0 x ≡ get_or xs 0 y
any_default [] x y h = absurd (omega arith)
any_default (z ∷ xs) x y h = refl

module _ (size n : ℕ) (a : List ℤ) (cells : All IsCell a) (some : 1 ≤ size) (room : size + n ≤ length a + 1) (out : List ℤ) (is : out ≡ take n a) where
  copied : (j : ℕ) → j < n → get_or out j (pos 0) ≡ get_or a j (pos 0)
  copied j h = ap (λ l. get_or l j (pos 0)) is ∙ get_or-take n a j (pos 0) h

  oldest_at : (j : ℕ) → j < n → oldest (window_at size j a) ≡ get_or a j (pos 0)
  oldest_at j h =
      let long : 0 < length (drop j a) = (let d = length-drop j a in omega (arith, d, h, some, room)) in
      let e : j + 0 ≡ j = omega arith in
      get_or-take size (drop j a) 0 MISSING (omega (arith, some)) ∙ any_default (drop j a) MISSING (pos 0) long ∙ get_or-drop j a 0 (pos 0) ∙ ap (λ i. get_or a i (pos 0)) e

  pub latest_are : (b c : List ℤ) → AreValues (Window Latest) size a b c n out
  unfolding formula
  latest_are b c = record {
    each = λ j h. copied j h ∙ sym (oldest_at j h);
    cell = λ j h. subst IsCell (sym (copied j h)) (All-get_or IsCell a j (pos 0) (omega (arith, h, some, room)) cells);
  }

  pub first_are : (b c : List ℤ) → AreValues (Window WindowFirst) size a b c n out
  unfolding formula
  first_are b c = record { each = (latest_are b c).each; cell = (latest_are b c).cell }
