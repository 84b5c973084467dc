-- Which results are cells.
use Rattle.std.proofs.Common.{◌≡◌, zero, suc, Bool, true, false, if◌then◌else◌, ℤ, pos, negsuc, unsigned_abs, nat_le, ◌-ℤ◌, ◌||◌, inl, inr, refl, arith}
use Rattle.std.proofs.lemmas.Bool.Decides.{nat_tests}
use Rattle.pl_spec.specs.Rounding.{LIMIT, MISSING, IsCell, is_missing, of_both, to_cell, quot, sub}
use Rattle.pl_spec.specs.Cells.{is_true, truth}
use Rattle.pl_pipeline.specs.Kind.{Kind}
use Rattle.pl_pipeline.specs.Value.{empty, is_filter, number_of}
use Rattle.pl_pipeline.specs.Value.Value.{Number}

pub missing-cell : IsCell MISSING
missing-cell = inl refl

pub zero-cell : IsCell (pos 0)
zero-cell = inr (omega arith)

-- either value has the property, so what a test chooses has it
pub chosen-has : (P : ℤ → Type 0) (b : Bool) (x y : ℤ) → P x → P y → P (if b then x else y)
chosen-has P true x y p q = p
chosen-has P false x y p q = q

pub chosen-cell : (b : Bool) (x y : ℤ) → IsCell x → IsCell y → IsCell (if b then x else y)
chosen-cell b x y p q = chosen-has IsCell b x y p q

pub truth-cell : (b : Bool) → IsCell (truth b)
truth-cell true = inr (omega arith)
truth-cell false = inr (omega arith)

pub is_true-truth : (b : Bool) → is_true (truth b) ≡ b
is_true-truth true = refl
is_true-truth false = refl

-- what stands where a term of this kind has no value
pub empty-cell : (k : Kind) → IsCell (number_of (empty k))
empty-cell k = here (is_filter k)
  where
    here : (b : Bool) → IsCell (number_of (if b then Number (pos 0) else Number MISSING))
    here true = zero-cell
    here false = missing-cell

tested-cell : (b : Bool) (v : ℤ) → nat_le (unsigned_abs v) LIMIT ≡ b → IsCell (if b then v else MISSING)
tested-cell true v e = inr (grind (arith, nat_tests))
tested-cell false v e = inl refl

pub to_cell-cell : (v : ℤ) → IsCell (to_cell v)
unfolding to_cell
to_cell-cell v = tested-cell (nat_le (unsigned_abs v) LIMIT) v refl

pub quot-cell : (a b : ℤ) → IsCell (quot a b)
unfolding quot
quot-cell a (pos zero) = inl refl
quot-cell a (pos (suc b)) = to_cell-cell _
quot-cell a (negsuc b) = to_cell-cell _

pub sub-cell : (x y : ℤ) → IsCell (sub x y)
unfolding sub
sub-cell x y = chosen-cell (is_missing x || is_missing y) MISSING (to_cell (x -ℤ y)) missing-cell (to_cell-cell _)

pub of_both-cell : (x y v : ℤ) → IsCell v → IsCell (of_both x y v)
of_both-cell x y v h = chosen-cell (is_missing x || is_missing y) MISSING v missing-cell h
