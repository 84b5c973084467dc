-- The windows of the definitions as spans.
use Rattle.std.proofs.Common.{◌≡◌, ◌<◌, ◌-◌, ℕ, zero, suc, ℤ, ◌∷◌, length, map, take, refl, ap, ap₂, arith, ◌∙◌}
use Rattle.std.proofs.lemmas.List.{length-map}
use Rattle.pl_spec.specs.Window.{downward}
use Rattle.pl_spec.proofs.Windows.{length-downward}
use Rattle.pl_factors.specs.Laws.{WindowsSlide}

take-downward : (f g : ℕ → ℤ) (size : ℕ) → ((n : ℕ) → n < size → f (suc n) ≡ g n) → take size (map f (downward (suc size))) ≡ map g (downward size)
take-downward f g zero h = refl
take-downward f g (suc k) h = ap₂ (λ x l. x ∷ l) (h k (omega arith)) (take-downward f g k (λ n l. h n (omega arith)))

pub windows-slide : WindowsSlide
windows-slide f g size h =
    let long : length (map f (downward (suc size))) - 1 ≡ size = let m : length (map f (downward (suc size))) ≡ length (downward (suc size)) = rw length-map refl in omega (arith, m, length-downward (suc size)) in
    (ap (λ n. take n (map f (downward (suc size)))) long ∙ take-downward f g size h, refl)
