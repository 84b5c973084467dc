-- Rows of a table that are of days of their own may stand in any order.
use Rattle.std.proofs.Common.{◌≡◌, ◌≢◌, ℕ, ◌≤◌, ◌==◌, Bool, true, ℤ, ◌≤ℤ◌, List, [], ◌∷◌, filter, length, All, sym, ◌∙◌, arith}
use Rattle.std.specs.Int.RustNames.{int_le}
use Rattle.std.proofs.lemmas.Bool.{and_parts, eqb-true}
use Rattle.std.proofs.lemmas.Int.{ints}
use Rattle.std.proofs.lemmas.List.Elements.{filter_passes}
use Rattle.std.proofs.lemmas.List.Kept.{AllPairs-filter}
use Rattle.pl_spec.specs.Agree.{is_known}
use Rattle.pl_spec.specs.Order.{acts_at}
use Rattle.pl_spec.specs.World.{Adjustment}
use Rattle.pl_spec.proofs.Lists.{filter-filter}
use Rattle.pl_spec.proofs.Permuted.{filter-permuted, one-permuted}
use Rattle.pl_spec.proofs.Signed.{int_eq-true}
use Rattle.pl_lookahead.specs.Agreement.{is_of}
use Rattle.pl_lookahead.specs.Laws.{HaveOwnDays, OwnDaysInAnyOrder}

module _ (sid : ℕ) (x : ℤ) where
  of_parts : (z : Adjustment) → is_of sid x z ≡ true → (z.sid ≡ sid) × (z.event.day ≡ x)
  of_parts z e = let p = and_parts (z.sid == sid) (acts_at x z) e in (eqb-true z.sid sid p.0, int_eq-true z.event.day x p.1)

  of_known : (day : ℤ) → x ≤ℤ day → (z : Adjustment) → is_of sid x z ≡ true → is_known day z.event ≡ true
  of_known day h z e = known (of_parts z e).1
    where
      known : z.event.day ≡ x → int_le z.event.day day ≡ true
      known same = grind (arith, ints)

  few : (zs : List Adjustment) → HaveOwnDays zs → All (λ z. is_of sid x z ≡ true) zs → length zs ≤ 1
  few [] own all = omega arith
  few (z ∷ []) own all = omega arith
  few (z ∷ y ∷ zs) own all =
      let p = of_parts z (all 0 z (omega arith)) in
      let q = of_parts y (all 1 z (omega arith)) in
      absurd (own 0 1 z (omega arith) (omega arith) (p.0 ∙ sym q.0) (p.1 ∙ sym q.1))

pub own-days-in-any-order : OwnDaysInAnyOrder
own-days-in-any-order xs ys day own moved sid x h =
    sym (by_known xs) ∙ one-permuted (filter p (us xs)) (filter p (us ys)) one (filter-permuted p (us xs) (us ys) moved) ∙ by_known ys
  where
    p : Adjustment → Bool
    p = is_of sid x

    us : List Adjustment → List Adjustment
    us zs = filter (λ z. is_known day z.event) zs

    by_known : (zs : List Adjustment) → filter p (us zs) ≡ filter p zs
    by_known zs = filter-filter p (λ z. is_known day z.event) (of_known sid x day h) zs

    one : length (filter p (us xs)) ≤ 1
    one = few sid x (filter p (us xs))
        (AllPairs-filter (λ x y. x.sid ≡ y.sid → x.event.day ≢ y.event.day) p (us xs)
        (AllPairs-filter (λ x y. x.sid ≡ y.sid → x.event.day ≢ y.event.day) (λ z. is_known day z.event) xs own))
        (filter_passes p (us xs))
