-- The rank of a price is the same in every unit.
use Rattle.std.proofs.Common.{◌≡◌, ℕ, ◌+◌, ◌*◌, ◌/◌, ◌<◌, Bool, true, false, ◌&&◌, if◌then◌else◌, cond, nat_lt, nat_le, ℤ, pos, ◌*ℤ◌, ◌<ℤ◌, ◌≤ℤ◌, List, [], ◌∷◌, map, fold, refl, sym, ◌∙◌, ap, arith, inl, inr}
use Rattle.std.specs.List.{list_any}
use Rattle.std.specs.Int.RustNames.{int_lt}
use Rattle.std.specs.Ordering.{int_eq}
use Rattle.std.specs.Cmp.{both_ways}
use Rattle.std.proofs.lemmas.Bool.{true≢false}
use Rattle.std.proofs.lemmas.Int.{ints, by_lt_z}
use Rattle.pl_spec.specs.Cells.{truth}
use Rattle.pl_spec.specs.Rounding.{MILLION, Fraction, is_missing, scaled}
use Rattle.pl_spec.proofs.Each.{Each}
use Rattle.pl_spec.proofs.Signed.{int_eq-true, eq-int_eq, lt-int_lt, le-both}
use Rattle.pl_pipeline.specs.declared.RankMethod.{RankMethod}
use Rattle.pl_pipeline.specs.declared.RankMethod.TheVariants.{Ordinal, Min, Max, Dense, Average}
use Rattle.pl_pipeline.specs.declared.RankOrder.{RankOrder}
use Rattle.pl_pipeline.specs.declared.RankOrder.TheVariants.{Ascending, Descending}
use Rattle.pl_pipeline.specs.Cross.{Entry, values, earlier_same, distinct_values, ordinal, rank, cross}
use Rattle.pl_pipeline.specs.Order.{precedes, preceding, count_equal}
use Rattle.pl_pipeline.proofs.Bins.{times-le}
use Rattle.pl_invariance.specs.Ranked.{IsExact, scaled_entry, RanksHaveNoUnit}
use Rattle.pl_invariance.proofs.Exact.{cancel}
use Rattle.pl_invariance.proofs.Lists.{count-map, maps, any-map}

counted : {X : Type 0} (p q : X → Bool) (xs : List X) → Each (λ x. p x ≡ q x) xs → (n : ℕ) → fold (λ a x. a + cond (p x) 1 0) n xs ≡ fold (λ a x. a + cond (q x) 1 0) n xs
counted p q [] h n = refl
counted p q (x ∷ xs) h n =
    ap (λ b. fold (λ a x. a + cond (p x) 1 0) (n + cond b 1 0) xs) h.0 ∙ counted p q xs h.1 (n + cond (q x) 1 0)

any-each : {X : Type 0} (p q : X → Bool) (xs : List X) → Each (λ x. p x ≡ q x) xs → list_any p xs ≡ list_any q xs
any-each p q [] h = refl
any-each p q (x ∷ xs) h = rw (h.0, any-each p q xs h.1) refl

each-change : {X : Type 0} (P Q : X → Type 0) (xs : List X) → ((x : X) → P x → Q x) → Each P xs → Each Q xs
each-change P Q [] f h = tt
each-change P Q (x ∷ xs) f h = (f x h.0, each-change P Q xs f h.1)

less-true : (x y : ℤ) → int_lt x y ≡ true → x <ℤ y
less-true x y h = grind (arith, ints)

module _ (r : Fraction) (above : 0 < r.num) where
  pub product : (x : ℤ) → IsExact r x → ((scaled r x *ℤ pos r.den) ≡ (x *ℤ pos r.num))
  product x h = elim h.1.1 [
    | inl e ↦ absurd (true≢false (sym (ap is_missing e) ∙ h.0))
    | inr p ↦ p.1
  ]

  less_than : (x y : ℤ) → IsExact r x → IsExact r y → x <ℤ y → scaled r x <ℤ scaled r y
  less_than x y hx hy l =
      by_lt_z (scaled r x) (scaled r y) (λ less. less)
      (λ ge.
      let back : (y *ℤ pos r.num) ≤ℤ (x *ℤ pos r.num) = rw (product x hx, product y hy) at (times-le (scaled r y) (scaled r x) r.den ge) in
      let there : (x *ℤ pos r.num) ≤ℤ (y *ℤ pos r.num) = times-le x y r.num (weak x y l) in
      let same : x ≡ y = cancel x y r.num above (le-both (x *ℤ pos r.num) (y *ℤ pos r.num) there back) in
      absurd (never x y l same))
    where
      weak : (x y : ℤ) → x <ℤ y → x ≤ℤ y
      weak x y l = omega (arith, ints)

      never : (x y : ℤ) → x <ℤ y → x ≡ y → ⊥
      never x y l e = omega (arith, ints)

  less_back : (x y : ℤ) → IsExact r x → IsExact r y → scaled r x <ℤ scaled r y → x <ℤ y
  less_back x y hx hy l =
      by_lt_z x y (λ less. less)
      (λ ge. by_lt_z y x (λ more. absurd (never (scaled r x) (scaled r y) l (less_than y x hy hx more))) (λ le. absurd (itself (scaled r x) (scaled r y) l (ap (scaled r) (le-both x y le ge)))))
    where
      never : (x y : ℤ) → x <ℤ y → y <ℤ x → ⊥
      never x y l m = omega (arith, ints)

      itself : (x y : ℤ) → x <ℤ y → x ≡ y → ⊥
      itself x y l e = omega (arith, ints)

  less_same : (x y : ℤ) → IsExact r x → IsExact r y → int_lt (scaled r x) (scaled r y) ≡ int_lt x y
  less_same x y hx hy =
      both_ways _ _ (λ e. lt-int_lt x y (less_back x y hx hy (less-true (scaled r x) (scaled r y) e)))
      (λ e. lt-int_lt (scaled r x) (scaled r y) (less_than x y hx hy (less-true x y e)))

  equal_same : (x y : ℤ) → IsExact r x → IsExact r y → int_eq (scaled r x) (scaled r y) ≡ int_eq x y
  equal_same x y hx hy =
      both_ways _ _ (λ e. eq-int_eq x y (one (int_eq-true (scaled r x) (scaled r y) e)))
      (λ e. eq-int_eq (scaled r x) (scaled r y) (ap (scaled r) (int_eq-true x y e)))
    where
      one : scaled r x ≡ scaled r y → x ≡ y
      one e = cancel x y r.num above (sym (product x hx) ∙ ap (λ t. t *ℤ pos r.den) e ∙ product y hy)

  -- ---- lists of values

  precedes_same : (order : RankOrder) (v x : ℤ) → IsExact r v → IsExact r x → precedes order (scaled r v) (scaled r x) ≡ precedes order v x
  precedes_same Ascending v x hv hx = less_same v x hv hx
  precedes_same Descending v x hv hx = less_same x v hx hv

  pub preceding_same : (order : RankOrder) (x : ℤ) (vs : List ℤ) → IsExact r x → Each (IsExact r) vs → preceding order (scaled r x) (map (scaled r) vs) ≡ preceding order x vs
  preceding_same order x vs hx h =
      count-map (λ v. precedes order v (scaled r x)) (scaled r) vs
      ∙ counted (λ v. precedes order (scaled r v) (scaled r x)) (λ v. precedes order v x) vs
      (each-change (IsExact r) (λ v. precedes order (scaled r v) (scaled r x) ≡ precedes order v x) vs (λ v hv. precedes_same order v x hv hx) h) 0

  pub equals_same : (x : ℤ) (vs : List ℤ) → IsExact r x → Each (IsExact r) vs → count_equal (scaled r x) (map (scaled r) vs) ≡ count_equal x vs
  equals_same x vs hx h =
      count-map (int_eq (scaled r x)) (scaled r) vs
      ∙ counted (λ v. int_eq (scaled r x) (scaled r v)) (int_eq x) vs
      (each-change (IsExact r) (λ v. int_eq (scaled r x) (scaled r v) ≡ int_eq x v) vs (λ v hv. equal_same x v hx hv) h) 0

  distinct_exact : (vs : List ℤ) → Each (IsExact r) vs → Each (IsExact r) (distinct_values vs)
  distinct_exact [] h = tt
  distinct_exact (v ∷ vs) h = step (list_any (int_eq v) vs) (distinct_exact vs h.1)
    where
      step : (b : Bool) → Each (IsExact r) (distinct_values vs) → Each (IsExact r) (if b then distinct_values vs else v ∷ distinct_values vs)
      step true rest = rest
      step false rest = (h.0, rest)

  distinct_same : (vs : List ℤ) → Each (IsExact r) vs → distinct_values (map (scaled r) vs) ≡ map (scaled r) (distinct_values vs)
  distinct_same [] h = refl
  distinct_same (v ∷ vs) h =
      ap (λ b. if b then distinct_values (map (scaled r) vs) else scaled r v ∷ distinct_values (map (scaled r) vs)) there
      ∙ ap (λ l. if list_any (int_eq v) vs then l else scaled r v ∷ l) (distinct_same vs h.1)
      ∙ step (list_any (int_eq v) vs)
    where
      there : list_any (int_eq (scaled r v)) (map (scaled r) vs) ≡ list_any (int_eq v) vs
      there =
          any-map (int_eq (scaled r v)) (scaled r) vs
          ∙ any-each (λ u. int_eq (scaled r v) (scaled r u)) (int_eq v) vs
          (each-change (IsExact r) (λ u. int_eq (scaled r v) (scaled r u) ≡ int_eq v u) vs (λ u hu. equal_same v u h.0 hu) h.1)

      step : (b : Bool) → (if b then map (scaled r) (distinct_values vs) else scaled r v ∷ map (scaled r) (distinct_values vs)) ≡ map (scaled r) (if b then distinct_values vs else v ∷ distinct_values vs)
      step true = refl
      step false = refl

  -- ---- entries

  pub values_exact : (list : List Entry) → Each (λ (e : Entry). IsExact r e.1) list → Each (IsExact r) (values list)
  values_exact [] h = tt
  values_exact (e ∷ list) h = (h.0, values_exact list h.1)

  pub values_same : (list : List Entry) → values (map (scaled_entry r) list) ≡ map (scaled r) (values list)
  values_same list = maps (λ (e : Entry). e.1) (scaled_entry r) list ∙ sym (maps (scaled r) (λ (e : Entry). e.1) list)

  before_same : (order : RankOrder) (list : List Entry) (x : ℤ) → Each (λ (e : Entry). IsExact r e.1) list → IsExact r x → preceding order (scaled r x) (values (map (scaled_entry r) list)) ≡ preceding order x (values list)
  before_same order list x h hx = ap (preceding order (scaled r x)) (values_same list) ∙ preceding_same order x (values list) hx (values_exact list h)

  beside_same : (list : List Entry) (x : ℤ) → Each (λ (e : Entry). IsExact r e.1) list → IsExact r x → count_equal (scaled r x) (values (map (scaled_entry r) list)) ≡ count_equal x (values list)
  beside_same list x h hx = ap (count_equal (scaled r x)) (values_same list) ∙ equals_same x (values list) hx (values_exact list h)

  earlier_is : (list : List Entry) (a : ℕ) (x : ℤ) → Each (λ (e : Entry). IsExact r e.1) list → IsExact r x → earlier_same a (scaled r x) (map (scaled_entry r) list) ≡ earlier_same a x list
  earlier_is list a x h hx =
      count-map (λ (e : Entry). int_eq (scaled r x) e.1 && nat_lt e.0 a) (scaled_entry r) list
      ∙ counted (λ (e : Entry). int_eq (scaled r x) (scaled r e.1) && nat_lt e.0 a) (λ (e : Entry). int_eq x e.1 && nat_lt e.0 a) list
      (each-change (λ (e : Entry). IsExact r e.1) (λ (e : Entry). (int_eq (scaled r x) (scaled r e.1) && nat_lt e.0 a) ≡ (int_eq x e.1 && nat_lt e.0 a)) list
      (λ (e : Entry) he. ap (λ b. b && nat_lt e.0 a) (equal_same x e.1 hx he)) h) 0

  ordinal_same : (order : RankOrder) (list : List Entry) (a : ℕ) (x : ℤ) → Each (λ (e : Entry). IsExact r e.1) list → IsExact r x → ordinal order (map (scaled_entry r) list) a (scaled r x) ≡ ordinal order list a x
  ordinal_same order list a x h hx =
      ap (λ n. n + earlier_same a (scaled r x) (map (scaled_entry r) list) + 1) (before_same order list x h hx)
      ∙ ap (λ n. preceding order x (values list) + n + 1) (earlier_is list a x h hx)

  rank_same : (method : RankMethod) (order : RankOrder) (list : List Entry) (a : ℕ) (x : ℤ) → Each (λ (e : Entry). IsExact r e.1) list → IsExact r x
      → rank method order (map (scaled_entry r) list) a (scaled r x) ≡ rank method order list a x
  rank_same Ordinal order list a x h hx = ap (λ n. n * MILLION) (ordinal_same order list a x h hx)
  rank_same Min order list a x h hx = ap (λ n. (n + 1) * MILLION) (before_same order list x h hx)
  rank_same Max order list a x h hx =
      ap (λ n. (n + count_equal (scaled r x) (values (map (scaled_entry r) list))) * MILLION) (before_same order list x h hx)
      ∙ ap (λ n. (preceding order x (values list) + n) * MILLION) (beside_same list x h hx)
  rank_same Dense order list a x h hx =
      ap (λ vs. (preceding order (scaled r x) (distinct_values vs) + 1) * MILLION) (values_same list)
      ∙ ap (λ vs. (preceding order (scaled r x) vs + 1) * MILLION) (distinct_same (values list) (values_exact list h))
      ∙ ap (λ n. (n + 1) * MILLION) (preceding_same order x (distinct_values (values list)) hx (distinct_exact (values list) (values_exact list h)))
  rank_same Average order list a x h hx =
      ap (λ n. n * MILLION + (count_equal (scaled r x) (values (map (scaled_entry r) list)) + 1) * MILLION / 2) (before_same order list x h hx)
      ∙ ap (λ n. preceding order x (values list) * MILLION + (n + 1) * MILLION / 2) (beside_same list x h hx)

pub ranks-have-no-unit : RanksHaveNoUnit
unfolding cross
ranks-have-no-unit = record {
  ranks = λ method order r above list a x h hx. ap pos (rank_same r above method order list a x h hx);
  top = λ n r above list a x h hx. ap (λ k. truth (nat_le k n)) (ordinal_same r above Descending list a x h hx);
  bottom = λ n r above list a x h hx. ap (λ k. truth (nat_le k n)) (ordinal_same r above Ascending list a x h hx);
}
