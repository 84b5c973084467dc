-- Logarithms, exponentials, roots and signs, the greater and the lesser of two numbers.
use Rattle.std.specs.Prelude.{◌≡◌, ℤ, pos, negsuc, refl, List, [], ◌∷◌, map}
use Rattle.pl_spec.specs.Rounding.{MISSING}
use Rattle.pl_pipeline.specs.Kind.{PointKind as kind}
use Rattle.pl_pipeline.specs.Pointwise.{pointwise}
use Rattle.pl_laws.proofs.Worked.Worlds.{opened}

-- 1, 0, -1, the least number, some between, the greatest, and where the exponential ends
abbrev numbers : List ℤ
numbers =
    pos 1000000 ∷ pos 0 ∷ negsuc 999999 ∷ pos 1 ∷ pos 380004 ∷ pos 1000001 ∷ pos 2000000 ∷ pos 10000000 ∷
    pos 100000000000000000 ∷ pos 25328436 ∷ pos 25328437 ∷ negsuc 14508656 ∷ negsuc 14508657 ∷ MISSING ∷ []

logarithms_are_natural : map (λ x. pointwise kind.Log x MISSING MISSING) numbers ≡
    pos 0 ∷ MISSING ∷ MISSING ∷ negsuc 13815510 ∷ negsuc 967573 ∷ pos 1 ∷ pos 693147 ∷ pos 2302585 ∷
    pos 25328436 ∷ pos 3231928 ∷ pos 3231928 ∷ MISSING ∷ MISSING ∷ MISSING ∷ []
unfolding opened
logarithms_are_natural = refl

exponentials_end_with_the_cells : map (λ x. pointwise kind.Exp x MISSING MISSING) numbers ≡
    pos 2718282 ∷ pos 1000000 ∷ pos 367879 ∷ pos 1000001 ∷ pos 1462290 ∷ pos 2718285 ∷ pos 7389056 ∷
    pos 22026465795 ∷ MISSING ∷ pos 99999997706549774 ∷ MISSING ∷ pos 1 ∷ pos 0 ∷ MISSING ∷ []
unfolding opened
exponentials_end_with_the_cells = refl

roots_are_the_nearest : map (λ x. pointwise kind.Sqrt x MISSING MISSING) numbers ≡
    pos 1000000 ∷ pos 0 ∷ MISSING ∷ pos 1000 ∷ pos 616445 ∷ pos 1000000 ∷ pos 1414214 ∷ pos 3162278 ∷
    pos 316227766017 ∷ pos 5032736 ∷ pos 5032737 ∷ MISSING ∷ MISSING ∷ MISSING ∷ []
unfolding opened
roots_are_the_nearest = refl

signs_are_units : map (λ x. pointwise kind.Sign x MISSING MISSING) numbers ≡
    pos 1000000 ∷ pos 0 ∷ negsuc 999999 ∷ pos 1000000 ∷ pos 1000000 ∷ pos 1000000 ∷ pos 1000000 ∷
    pos 1000000 ∷ pos 1000000 ∷ pos 1000000 ∷ pos 1000000 ∷ negsuc 999999 ∷ negsuc 999999 ∷ MISSING ∷ []
unfolding opened
signs_are_units = refl

abbrev pairs : List (ℤ × ℤ)
pairs =
    (pos 1000000, pos 2000000) ∷ (negsuc 999999, negsuc 1999999) ∷ (pos 3000000, pos 3000000) ∷
    (MISSING, pos 1000000) ∷ (pos 1000000, MISSING) ∷ (MISSING, MISSING) ∷
    (pos 100000000000000000, negsuc 99999999999999999) ∷ (pos 0, negsuc 0) ∷ (pos 1, pos 0) ∷
    (pos 5000000, negsuc 4999999) ∷ []

greater_of_two : map (λ p. pointwise kind.Maximum p.0 p.1 MISSING) pairs ≡
    pos 2000000 ∷ negsuc 999999 ∷ pos 3000000 ∷ MISSING ∷ MISSING ∷ MISSING ∷ pos 100000000000000000 ∷
    pos 0 ∷ pos 1 ∷ pos 5000000 ∷ []
unfolding opened
greater_of_two = refl

lesser_of_two : map (λ p. pointwise kind.Minimum p.0 p.1 MISSING) pairs ≡
    pos 1000000 ∷ negsuc 1999999 ∷ pos 3000000 ∷ MISSING ∷ MISSING ∷ MISSING ∷ negsuc 99999999999999999 ∷
    negsuc 0 ∷ pos 0 ∷ negsuc 4999999 ∷ []
unfolding opened
lesser_of_two = refl
