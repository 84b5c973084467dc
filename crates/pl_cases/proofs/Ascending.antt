-- A row after rows whose ids ascend.
use Rattle.std.proofs.Common.{◌≡◌, ℕ, ◌<◌, ◌-◌, ℤ, ◌<ℤ◌, List, [], ◌∷◌, ◌++◌, length, Some, slice_get, get_or, arith, inl, inr}
use Rattle.std.proofs.lemmas.Int.{ints}
use Rattle.std.proofs.lemmas.Bool.{cases_lt}
use Rattle.std.proofs.lemmas.List.Quantifiers.{all_pairs_push}
use Rattle.std.proofs.lemmas.Option.{slice_get-get_or}
use Rattle.pl_spec.specs.declared.RawAdjust.{RawAdjust}
use Rattle.pl_outside.specs.Lists.{IsAscending}

both : (a b z : ℤ) → a <ℤ b → b <ℤ z → a <ℤ z
both a b z f g = omega (arith, ints)

pub ascends : (rows : List RawAdjust) (row : RawAdjust) → IsAscending rows
    → ((last : RawAdjust) → slice_get rows (length rows - 1) ≡ Some last → last.id <ℤ row.id) → IsAscending (rows ++ row ∷ [])
ascends rows row up later = all_pairs_push (λ a b. a.id <ℤ b.id) rows row up under
  where
    behind : (d : RawAdjust) → 0 < length rows → (get_or rows (length rows - 1) d).id <ℤ row.id
    behind d some = later (get_or rows (length rows - 1) d) (slice_get-get_or rows (length rows - 1) d (omega arith))

    under : (k : ℕ) (d : RawAdjust) → k < length rows → (get_or rows k d).id <ℤ row.id
    under k d h = elim (cases_lt k (length rows - 1)) [
      | inl l ↦ both _ _ _ (up k (length rows - 1) d l (omega arith)) (behind d (omega arith))
      | inr g ↦ (let same : k ≡ length rows - 1 = omega arith in rw same (behind d (omega arith)))
    ]
