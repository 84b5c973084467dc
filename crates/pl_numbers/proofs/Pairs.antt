-- Pairs that are alike both ways stay in another order.
use Rattle.std.proofs.Common.{suc, List, ◌∷◌, All, AllPairs, IsPermutation, arith}
use Rattle.std.proofs.lemmas.List.Elements.{All-cons}
use Rattle.std.proofs.lemmas.List.Kept.{AllPairs-cons}
use Rattle.std.proofs.lemmas.List.Sorted.{All-permutation, IsPermutation-refl, IsPermutation-cons, IsPermutation-trans}
use Rattle.pl_spec.proofs.Permuted.{flipped, permuted}

pub pairs-permuted : {A : Type 0} (R : A → A → Type 0) → ((x y : A) → R x y → R y x) → (xs ys : List A) → IsPermutation xs ys → AllPairs R xs → AllPairs R ys
pairs-permuted {A} R turned xs ys moved apart = (permuted Kept same chain under flip xs ys moved).1 apart
  where
    Kept : List A → List A → Type 0
    Kept us vs = IsPermutation us vs × (AllPairs R us → AllPairs R vs)

    same : (us : List A) → Kept us us
    same us = (IsPermutation-refl us, λ h. h)

    chain : (us vs ws : List A) → Kept us vs → Kept vs ws → Kept us ws
    chain us vs ws f g = (IsPermutation-trans us vs ws f.0 g.0, λ h. g.1 (f.1 h))

    others : (x : A) (us : List A) → AllPairs R (x ∷ us) → All (R x) us
    others x us h k d l = h 0 (suc k) d (omega arith) (omega arith)

    rest : (x : A) (us : List A) → AllPairs R (x ∷ us) → AllPairs R us
    rest x us h i j d m l = h (suc i) (suc j) d (omega arith) (omega arith)

    under : (x : A) (us vs : List A) → Kept us vs → Kept (x ∷ us) (x ∷ vs)
    under x us vs f =
        (IsPermutation-cons x us vs f.0, λ h. AllPairs-cons R x vs (All-permutation (R x) us vs f.0 (others x us h)) (f.1 (rest x us h)))

    flip : (x y : A) (us : List A) → Kept (x ∷ y ∷ us) (y ∷ x ∷ us)
    flip x y us = (
      flipped x y us,
      λ h.
          AllPairs-cons R y (x ∷ us) (All-cons (R y) x us (turned x y (others x (y ∷ us) h 0 x (omega arith))) (others y us (rest x (y ∷ us) h)))
          (AllPairs-cons R x us (λ k d l. others x (y ∷ us) h (suc k) d (omega arith)) (rest y us (rest x (y ∷ us) h))),
    )
