-- Fields that are put after one another.
use Rattle.std.proofs.Common.{◌≡◌, ◌++◌, ◌∙◌, ◌≤◌, ℕ, ℤ, List, Result, Ok, Err, OnOk, FitsSigned, to_z, of_z, w64, inl, inr, ap, arith}
use Rattle.std.proofs.lemmas.Int.{fits_signed_from_abs, to_z-of_z}
use Rattle.std.proofs.lemmas.List.{append_assoc}
use Rattle.pl_spec.specs.Decimals.{cell_text}
use Rattle.pl_spec.specs.Rounding.{IsCell}
use Rattle.pl_parts.specs.Texts.{behind_comma}

pub joined : (o first second a b : List ℕ) → first ≡ o ++ a → second ≡ first ++ b → second ≡ o ++ (a ++ b)
joined o first second a b is then = then ∙ ap (λ l. l ++ b) is ∙ append_assoc o a b

pub on-ok-joined : {T E : Type 0} (r : Result T E) (o first second a b : List ℕ) → first ≡ o ++ a → OnOk r (second ≡ first ++ b) → OnOk r (second ≡ o ++ (a ++ b))
on-ok-joined (Ok x) o first second a b is then = joined o first second a b is then
on-ok-joined (Err x) o first second a b is then = tt

-- ---- a cell that a call was given

cell-fits : (x : ℤ) → IsCell x → FitsSigned w64 x
cell-fits x (inl e) = rw e (record { sfits = omega arith })
cell-fits x (inr h) = fits_signed_from_abs w64 x (omega arith)

pub cell-put : (v : ℤ) (old new : List ℕ) → IsCell v → new ≡ old ++ behind_comma (cell_text (to_z w64 (of_z w64 v))) → new ≡ old ++ behind_comma (cell_text v)
cell-put v old new h is = is ∙ ap (λ x. old ++ behind_comma (cell_text x)) (to_z-of_z w64 v (cell-fits v h))

pub on-ok-cell : {T E : Type 0} (r : Result T E) (v : ℤ) (old new : List ℕ) → IsCell v → OnOk r (new ≡ old ++ behind_comma (cell_text (to_z w64 (of_z w64 v)))) → OnOk r (new ≡ old ++ behind_comma (cell_text v))
on-ok-cell (Ok x) v old new h is = cell-put v old new h is
on-ok-cell (Err x) v old new h is = tt
