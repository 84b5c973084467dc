-- Filters over windows by counting.
use Rattle.std.proofs.Common.{◌≡◌, ℕ, suc, ◌+◌, ◌≤◌, Bool, true, false, ◌&&◌, ◌||◌, cond, nat_le, ℤ, List, [], ◌∷◌, length, refl, ap, arith}
use Rattle.std.specs.List.{count_by, list_any, list_all}
use Rattle.std.proofs.lemmas.Bool.Decides.{nat_tests}
use Rattle.std.proofs.lemmas.List.Sums.{count_by-le-length}
use Rattle.pl_spec.specs.Cells.{truth, is_true}
use Rattle.pl_pipeline.specs.Formula.{formula}
use Rattle.pl_pipeline.specs.declared.WindowKind.TheVariants as window
use Rattle.pl_spec.proofs.Counts.{count-cons}

some_by_count : {A : Type 0} (p : A → Bool) (xs : List A) → nat_le 1 (count_by p xs) ≡ list_any p xs
some_by_count p [] = refl
some_by_count p (x ∷ xs) = rw (count-cons p x xs) (here (p x) (list_any p xs) (count_by p xs) (some_by_count p xs))
  where
    here : (b s : Bool) (n : ℕ) → nat_le 1 n ≡ s → nat_le 1 (cond b 1 0 + n) ≡ (b || s)
    here true s n e = grind (arith, nat_tests)
    here false s n e = grind (arith, nat_tests)

all_by_count : {A : Type 0} (p : A → Bool) (xs : List A) → nat_le (length xs) (count_by p xs) ≡ list_all p xs
all_by_count p [] = refl
all_by_count p (x ∷ xs) =
    rw (count-cons p x xs) (here (p x) (list_all p xs) (count_by p xs) (length xs) (count_by-le-length p xs) (all_by_count p xs))
  where
    here : (b s : Bool) (n m : ℕ) → n ≤ m → nat_le m n ≡ s → nat_le (suc m) (cond b 1 0 + n) ≡ (b && s)
    here true s n m h e = grind (arith, nat_tests)
    here false s n m h e = grind (arith, nat_tests)

pub filters-count : (xs ys zs : List ℤ) → (formula (window.AtLeastN 1) xs ys zs ≡ formula window.Any xs ys zs) × (formula (window.AtLeastN (length xs)) xs ys zs ≡ formula window.All xs ys zs)
unfolding formula
filters-count xs ys zs = (ap truth (some_by_count is_true xs), ap truth (all_by_count is_true xs))
