-- The ends of lists over the numbers below one, the greatest first, without the last ones.
use Rattle.std.proofs.Common.{◌≡◌, ℕ, zero, suc, ◌+◌, ◌-◌, ◌<◌, ◌≤◌, Bool, true, ℤ, List, ◌∷◌, length, map, take, get_or, slice_get, nat_lt, if◌then◌else◌, Some, None, refl, ◌∙◌, ap, arith, All}
use Rattle.std.proofs.lemmas.Bool.Decides.{nat_tests}
use Rattle.std.proofs.lemmas.List.Elements.{All-drop, All-take}
use Rattle.std.proofs.lemmas.Option.{slice_get-get_or}
use Rattle.circular_buffer.specs.Buffer.{keep_last}
use Rattle.pl_spec.specs.Window.{downward}
use Rattle.pl_values.proofs.Formulas.{length-below}
use Rattle.pl_daily.specs.Earlier.{nth_back}
use Rattle.pl_daily.specs.Rows.{ending}
use Rattle.pl_daily.proofs.Moves.{ends}

-- all but the last ones
front : (f : ℕ → ℤ) (size after : ℕ) → take size (map f (downward (size + after))) ≡ map (λ n. f (n + after)) (downward size)
front f zero after = refl
front f (suc size) after =
    let e : suc size + after ≡ suc (size + after) = omega arith in
    ap (λ n. take (suc size) (map f (downward n))) e ∙ ap (λ l. f (size + after) ∷ l) (front f size after)

pub ending-is : (f : ℕ → ℤ) (size after whole : ℕ) → size + after ≤ whole → ending size after (map f (downward whole)) ≡ map (λ n. f (n + after)) (downward size)
ending-is f size after whole h =
    let long : length (map f (downward whole)) ≡ whole = length-below f whole in
    let parts : whole ≡ (whole - after) + after = omega arith in
    ap (λ n. keep_last size (take (n - after) (map f (downward whole)))) long
    ∙ ap (λ n. keep_last size (take (whole - after) (map f (downward n)))) parts
    ∙ ap (keep_last size) (front f (whole - after) after)
    ∙ ends (λ n. f (n + after)) size (whole - after) (omega arith)

pub all-ending : (P : ℤ → Type 0) (size after : ℕ) (xs : List ℤ) → All P xs → All P (ending size after xs)
all-ending P size after xs h = All-drop P (length (take (length xs - after) xs) - size) (take (length xs - after) xs) (All-take P (length xs - after) xs h)

-- one by one
pub nth-downward : {X : Type 0} (f : ℕ → X) (size m : ℕ) (d : X) → m < size → get_or (map f (downward size)) (size - m - 1) d ≡ f m
nth-downward f zero m d h = absurd (omega (arith, h))
nth-downward f (suc size) m d h = here (size - m) refl (nth-downward f size m d)
  where
    here : (k : ℕ) → size - m ≡ k → (m < size → get_or (map f (downward size)) (size - m - 1) d ≡ f m) → get_or (map f (downward (suc size))) (suc size - m - 1) d ≡ f m
    here zero e more =
        let place : suc size - m - 1 ≡ 0 = omega (arith, e, h) in
        let same : size ≡ m = omega (arith, e, h) in
        ap (λ i. get_or (map f (downward (suc size))) i d) place ∙ ap f same
    here (suc k) e more =
        let place : suc size - m - 1 ≡ suc (size - m - 1) = omega (arith, e) in
        ap (λ i. get_or (map f (downward (suc size))) i d) place ∙ more (omega (arith, e))

pub nth_back-is : {X : Type 0} (f : ℕ → X) (size m : ℕ) (xs : List X) → xs ≡ map f (downward size) → m < size → nth_back m xs ≡ Some (f m)
nth_back-is f size m xs e h =
    let long : length xs ≡ size = ap length e ∙ length-below f size in
    let t : nat_lt m (length xs) ≡ true = grind (arith, nat_tests, long, h) in
    ap (λ (b : Bool). if b then slice_get xs (length xs - m - 1) else None) t
    ∙ slice_get-get_or xs (length xs - m - 1) (f m) (omega (arith, long, h))
    ∙ ap Some
    (ap (λ n. get_or xs (n - m - 1) (f m)) long ∙ ap (λ l. get_or l (size - m - 1) (f m)) e ∙ nth-downward f size m (f m) h)
