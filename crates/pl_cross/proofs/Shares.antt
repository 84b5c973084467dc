-- Winsorized values, shares and summaries of groups.
use Rattle.std.proofs.Common.{◌&&◌, ◌≡◌, ◌≢◌, ℕ, ◌+◌, ◌-◌, ◌*◌, ◌/◌, ◌<◌, ◌≤◌, ℤ, pos, ◌*ℤ◌, unsigned_abs, List, [], ◌∷◌, length, get_or, refl, sym, ◌∙◌, ap, arith, inl, inr, sum_by, set, w64, to_z, of_z, FitsSigned, get_or-set_other, get_or-set_same}
use Rattle.std.specs.Int.{int_max, int_min}
use Rattle.std.specs.Int.RustNames.{int_le}
use Rattle.std.proofs.lemmas.Bool.{cases_lt}
use Rattle.std.specs.Int.{w128}
use Rattle.std.proofs.lemmas.Int.{to_z-of_z, fits_signed_from_abs, fits_signed_mul}
use Rattle.std.proofs.lemmas.List.{get_or_default}
use Rattle.pl_spec.specs.Limits.{most_assets}
use Rattle.pl_spec.specs.Rounding.{MISSING, LIMIT, MILLION, quot}
use Rattle.pl_spec.specs.Cells.{truth}
use Rattle.pl_pipeline.specs.Kind.CrossKind.{Winsorize, Scale, PercentileBetween}
use Rattle.pl_pipeline.specs.Cross.{array_at, values, if_some, cross}
use Rattle.pl_pipeline.specs.Order.{value_at, edge}
use Rattle.pl_cross.specs.declared.listing.Listed.{Listed}
use Rattle.pl_cross.specs.Listing.{entries_of}
use Rattle.pl_cross.proofs.Distinct.{length-values}

-- ---- values

pub some-is : (group : List Listed) (v : ℤ) → 0 < length group → v ≡ if_some (values (entries_of group)) v
some-is [] v h = absurd (omega arith)
some-is (e ∷ es) v h = refl

pub drawn-in : (low high : ℕ) (group : List Listed) (i : ℕ) (e : Listed) (least greatest answer : ℤ) → i < length group
    → least ≡ value_at (values (entries_of group)) (low * length group / MILLION)
    → greatest ≡ value_at (values (entries_of group)) ((high * length group + MILLION - 1) / MILLION - 1)
    → answer ≡ int_max least (int_min greatest (get_or group i e).value)
    → (d : Listed) → answer ≡ cross (Winsorize low high) (entries_of group) (get_or group i d).place (get_or group i d).value
unfolding cross
drawn-in low high group i e least greatest answer inside under over h d =
    let vs : List ℤ = values (entries_of group) in
    let x : ℤ = (get_or group i d).value in
    h ∙ ap (λ v. int_max least (int_min greatest v)) (ap (λ (f : Listed). f.value) (get_or_default group i e d inside))
    ∙ ap (λ v. int_max v (int_min greatest x)) (under ∙ ap (λ n. value_at vs (low * n / MILLION)) (sym (length-values group)))
    ∙ ap (λ v. int_max (value_at vs (low * length vs / MILLION)) (int_min v x)) (over ∙ ap (λ n. value_at vs ((high * n + MILLION - 1) / MILLION - 1)) (sym (length-values group)))

pub share-is : (group : List Listed) (i : ℕ) (e : Listed) (whole answer : ℤ) → i < length group → whole ≡ pos (sum_by unsigned_abs (values (entries_of group)))
    → answer ≡ quot ((get_or group i e).value *ℤ pos MILLION) whole
    → (d : Listed) → answer ≡ cross Scale (entries_of group) (get_or group i d).place (get_or group i d).value
unfolding cross
share-is group i e whole answer inside sum h d =
    h ∙ ap (λ v. quot (v *ℤ pos MILLION) whole) (ap (λ (f : Listed). f.value) (get_or_default group i e d inside))
    ∙ ap (quot ((get_or group i d).value *ℤ pos MILLION)) sum

-- the quotient as the code has it
pub portion : (v whole : ℤ) (group : List Listed) → unsigned_abs v ≤ LIMIT → length group ≤ most_assets → unsigned_abs whole ≤ length group * LIMIT
    → quot (to_z w128 (of_z w128 (to_z w128 (of_z w128 (to_z w64 (of_z w64 v))) *ℤ pos MILLION))) (to_z w128 (of_z w128 whole)) ≡ quot (v *ℤ pos MILLION) whole
portion v whole group few short size =
    let fv : FitsSigned w64 v = fits_signed_from_abs w64 v (omega arith) in
    let wv : FitsSigned w128 v = fits_signed_from_abs w128 v (omega arith) in
    let wp : FitsSigned w128 (v *ℤ pos MILLION) = fits_signed_mul w128 v (pos MILLION) LIMIT MILLION few (omega arith) (omega arith) in
    let ww : FitsSigned w128 whole = fits_signed_from_abs w128 whole (omega (arith, size, short)) in
    rw (to_z-of_z w64 v fv, to_z-of_z w128 v wv, to_z-of_z w128 (v *ℤ pos MILLION) wp, to_z-of_z w128 whole ww) refl

-- ---- values that are written one after the other

pub written-more : (f : ℕ → ℤ) (out : List ℤ) (place : ℕ) (v : ℤ) → FitsSigned w64 v → place < length out → ((k : ℕ) → k < place → array_at out k ≡ f k) → v ≡ f place
    → (k : ℕ) → k < place + 1 → array_at (set out place (to_z w64 (of_z w64 v))) k ≡ f k
written-more f out place v fits inside before now k h = elim (cases_lt k place) [
  | inl lt ↦ (let other : k ≢ place = omega arith in get_or-set_other out place k (to_z w64 (of_z w64 v)) MISSING other ∙ before k lt)
  | inr ge ↦
      let here : place ≡ k = omega arith in
      ap (λ i. array_at (set out place (to_z w64 (of_z w64 v))) i) (sym here) ∙ get_or-set_same out place (to_z w64 (of_z w64 v)) MISSING inside
      ∙ to_z-of_z w64 v fits ∙ now ∙ ap f here
]

-- whether a value lies between two points
pub parted-in : (low high : ℕ) (group : List Listed) (least greatest answer : ℤ) → least ≡ edge (values (entries_of group)) (low * (length group - 1)) 10000
    → greatest ≡ edge (values (entries_of group)) (high * (length group - 1)) 10000
    → (k : ℕ) (d : Listed) → answer ≡ truth (int_le least ((get_or group k d).value *ℤ pos 10000) && int_le ((get_or group k d).value *ℤ pos 10000) greatest)
    → answer ≡ cross (PercentileBetween low high) (entries_of group) (get_or group k d).place (get_or group k d).value
unfolding cross
parted-in low high group least greatest answer under over k d h =
    let vs : List ℤ = values (entries_of group) in
    let x : ℤ = (get_or group k d).value in
    h
    ∙ ap (λ v. truth (int_le v (x *ℤ pos 10000) && int_le (x *ℤ pos 10000) greatest)) (under ∙ ap (λ m. edge vs (low * (m - 1)) 10000) (sym (length-values group)))
    ∙ ap (λ v. truth (int_le (edge vs (low * (length vs - 1)) 10000) (x *ℤ pos 10000) && int_le (x *ℤ pos 10000) v)) (over ∙ ap (λ m. edge vs (high * (m - 1)) 10000) (sym (length-values group)))
