-- One asset's value for all.
use Rattle.std.proofs.Common.{◌≡◌, ℕ, ◌-◌, ◌<◌, Bool, true, false, ◌&&◌, ◌==◌, cond, if◌then◌else◌, ℤ, List, [], ◌∷◌, length, map, filter, refl, sym, ap, ◌∙◌, arith, inl, inr}
use Rattle.std.specs.List.{list_any}
use Rattle.std.specs.Cmp.{both_ways}
use Rattle.std.proofs.lemmas.Bool.{or_left, or_right, eqb-true, eq-eqb, true≢false}
use Rattle.std.proofs.Math.Bool.{and-true}
use Rattle.pl_spec.specs.Cells.{truth, is_true}
use Rattle.pl_spec.specs.Rounding.{MISSING, is_present, is_missing}
use Rattle.pl_spec.specs.World.{World, exists, living_sids}
use Rattle.pl_spec.proofs.Each.{Each}
use Rattle.pl_spec.proofs.Members.{In, contains-in}
use Rattle.pl_spec.proofs.Signed.{int_eq-true}
use Rattle.pl_pipeline.specs.Cross.{Entry, values, if_some, cross, summary}
use Rattle.pl_pipeline.specs.Kind.Kind.{StaticSids, Point}
use Rattle.pl_pipeline.specs.Kind.PointKind.{Where}
use Rattle.pl_pipeline.specs.Kind.CrossKind.{Summarize}
use Rattle.pl_pipeline.specs.declared.Summary.TheVariants.{Greatest}
use Rattle.pl_pipeline.specs.Order.{value_at}
use Rattle.pl_pipeline.specs.Pointwise.{pointwise}
use Rattle.pl_pipeline.specs.Term.{Term}
use Rattle.pl_pipeline.specs.Term.Term.{absent, column, node}
use Rattle.pl_pipeline.specs.Value.{View, Own, Operands, part_from, number_of, value_of_part, entry, counts_for, eligible, kind_value, seen, seen_operands, value}
use Rattle.pl_pipeline.specs.Value.Value.{Number}
use Rattle.pl_pipeline.proofs.SortedValues.{value_at-counted}
use Rattle.pl_invariance.specs.OneAsset.{of_asset, OneAssetForAll}
use Rattle.pl_invariance.proofs.Lists.{maps}

-- ---- lists of one value

-- each value is v, and there is one where b holds
record AreAll (v : ℤ) (b : Bool) (vs : List ℤ) : Type 0 where
  pub same : Each (λ u. u ≡ v) vs
  pub some : b ≡ true → 0 < length vs
  pub none : b ≡ false → vs ≡ []

each-in : (v : ℤ) (vs : List ℤ) (x : ℤ) → Each (λ u. u ≡ v) vs → In x vs → x ≡ v
each-in v [] x h i = absurd i
each-in v (u ∷ vs) x h (inl e) = e ∙ h.0
each-in v (u ∷ vs) x h (inr i) = each-in v vs x h.1 i

one-of : (v : ℤ) (vs : List ℤ) → Each (λ u. u ≡ v) vs → 0 < length vs → if_some vs (value_at vs (length vs - 1)) ≡ v
one-of v [] h some = absurd (omega arith)
one-of v (u ∷ vs) h some =
    let own = (value_at-counted (u ∷ vs) (length (u ∷ vs) - 1) (omega arith)).own in
    each-in v (u ∷ vs) (value_at (u ∷ vs) (length (u ∷ vs) - 1)) h (contains-in (u ∷ vs) _ own)

greatest-all : (v : ℤ) (b : Bool) (vs : List ℤ) → AreAll v b vs → if_some vs (value_at vs (length vs - 1)) ≡ (if b then v else MISSING)
greatest-all v true vs h = one-of v vs h.same (h.some refl)
greatest-all v false vs h = rw (h.none refl) refl

same-test : (a b : ℕ) → (a == b) ≡ (b == a)
same-test a b = both_ways _ _ (λ e. eq-eqb b a (sym (eqb-true a b e))) (λ e. eq-eqb a b (sym (eqb-true b a e)))

-- V is v for sid and missing for the others, and q tells where it is present
collected : (V : ℕ → ℤ) (q : ℕ → Bool) (sid : ℕ) (v : ℤ) (xs : List ℕ)
    → ((b : ℕ) → list_any (λ x. x == b) xs ≡ true → V b ≡ (if b == sid then v else MISSING))
    → ((b : ℕ) → q b ≡ is_present (V b))
    → AreAll v (list_any (λ x. x == sid) xs && is_present v) (map V (filter q xs))
collected V q sid v [] h k = record { same = tt; some = λ e. absurd (true≢false (sym e)); none = λ e. refl }
collected V q sid v (x ∷ xs) h k =
    let here : V x ≡ (if x == sid then v else MISSING) = h x (or_left (x == x) (list_any (λ z. z == x) xs) (eq-eqb x x refl)) in
    let rest = collected V q sid v xs (λ b e. h b (or_right (x == b) (list_any (λ z. z == b) xs) e)) k in
    step (x == sid) (is_present v) refl refl here rest
  where
    kept : (c : Bool) → q x ≡ c → map V (filter q (x ∷ xs)) ≡ cond c (V x ∷ map V (filter q xs)) (map V (filter q xs))
    kept true e = rw e refl
    kept false e = rw e refl

    step : (c p : Bool) → (x == sid) ≡ c → is_present v ≡ p → V x ≡ (if x == sid then v else MISSING)
        → AreAll v (list_any (λ x. x == sid) xs && is_present v) (map V (filter q xs))
        → AreAll v (list_any (λ x. x == sid) (x ∷ xs) && is_present v) (map V (filter q (x ∷ xs)))
    step true true e f here rest =
        let same : V x ≡ v = rw e at here in
        let there : q x ≡ true = k x ∙ ap is_present same ∙ f in
        rw (e, f, kept true there) (record { same = (same, rest.same); some = λ g. omega arith; none = λ g. absurd (true≢false g) })
    step true false e f here rest =
        let same : V x ≡ v = rw e at here in
        let gone : q x ≡ false = k x ∙ ap is_present same ∙ f in
        let empty : map V (filter q xs) ≡ [] = rest.none (ap (λ b. list_any (λ z. z == sid) xs && b) f ∙ and-none (list_any (λ z. z == sid) xs)) in
        rw (e, f, kept false gone) (record { same = rest.same; some = λ g. absurd (true≢false (sym g)); none = λ g. empty })
      where
        and-none : (b : Bool) → (b && false) ≡ false
        and-none true = refl
        and-none false = refl
    step false p e f here rest =
        let none : V x ≡ MISSING = rw e at here in
        let gone : q x ≡ false = k x ∙ ap is_present none in
        rw (e, kept false gone) rest

-- ---- the term

module _ (w : World) (names : List (List ℕ)) (y : Term) (size sid : ℕ) (d : ℤ) where
  chosen : Term
  chosen = node (StaticSids (sid ∷ [])) size absent absent absent absent absent

  kept_term : Term
  kept_term = node (Point Where) size y (node (StaticSids (sid ∷ [])) size absent absent absent absent absent) absent absent absent

  -- y, and missing for the others
  own_value : ℕ → ℤ
  own_value b = number_of (seen w names kept_term Own b d)

  first-is : (t : Term) (b : ℕ) → number_of (value_of_part (part_from Own t (seen w names t Own)) b d) ≡ number_of (value w names t b d)
  unfolding value seen
  first-is absent b = refl
  first-is (column c) b = refl
  first-is (node k n s t u m g) b = refl

  own-is : (b : ℕ) → exists w b d ≡ true → own_value b ≡ (if b == sid then number_of (value w names y sid d) else MISSING)
  unfolding own_value kept_term seen kind_value pointwise
  own-is b e =
      let first : number_of (value_of_part (part_from Own y (seen w names y Own)) b d) ≡ number_of (value w names y b d) = first-is y b in
      rw (e, first) (step (b == sid) refl)
    where
      step : (c : Bool) → (b == sid) ≡ c
          → (if is_true (truth (list_any (λ c. c == b) (sid ∷ []))) then number_of (value w names y b d) else MISSING) ≡ (if b == sid then number_of (value w names y sid d) else MISSING)
      step true f = rw (same-test sid b, f) (ap (λ n. number_of (value w names y n d)) (eqb-true b sid f))
      step false f = rw (same-test sid b, f) refl

  ended : (v : ℤ) (b : Bool) → (if b && is_present v then v else MISSING) ≡ (if b then v else MISSING)
  ended v false = refl
  ended v true = step (is_missing v) refl
    where
      step : (c : Bool) → is_missing v ≡ c → (if is_present v then v else MISSING) ≡ v
      step true e = rw e (sym (int_eq-true v MISSING e))
      step false e = rw e refl

  given : (a : ℕ) (view : View) → exists w a d ≡ true
      → seen w names (of_asset size sid y) view a d ≡ Number (if exists w sid d then number_of (value w names y sid d) else MISSING)
  unfolding seen kind_value cross summary own_value kept_term
  given a view e =
      let o : Operands = seen_operands w names (of_asset size sid y) view d in
      let q : ℕ → Bool = counts_for (Summarize Greatest) o a d in
      let xs = living_sids w d in
      let v = number_of (value w names y sid d) in
      let all = collected own_value q sid v xs own-is (λ b. and-true (is_present (own_value b))) in
      let list : values (eligible w (Summarize Greatest) o a d) ≡ map own_value (filter q xs) = maps (λ (e : Entry). e.1) (entry o.first d) (filter q xs) in
      rw e (ap Number (ap (λ (vs : List ℤ). if_some vs (value_at vs (length vs - 1))) list ∙ greatest-all v _ _ all ∙ ended v (exists w sid d)))

pub one-asset-for-all : OneAssetForAll
one-asset-for-all w names y size sid a view d e = given w names y size sid d a view e
