-- Of rows of numbers that which was known last, and whether all were known by a day.
use Rattle.std.proofs.Common.{◌≡◌, ℕ, Bool, true, false, ◌&&◌, cond, ℤ, ◌≤ℤ◌, ◌<ℤ◌, List, [], ◌∷◌, find, map, filter, get_or, slice_get, Option, Some, None, option_map, Contains, refl, sym, ap, ◌∙◌, arith, inl, inr}
use Rattle.std.specs.Cmp.{both_ways}
use Rattle.std.specs.List.{list_all}
use Rattle.std.specs.Int.RustNames.{int_le}
use Rattle.std.proofs.lemmas.Bool.{true≢false}
use Rattle.std.proofs.lemmas.Int.{ints}
use Rattle.std.proofs.lemmas.Option.{slice_get-map}
use Rattle.pl_spec.specs.Numbers.{NumberRow, is_number_of, last_known}
use Rattle.pl_numbers.specs.Numbers.{by_column, known_on}
use Rattle.pl_numbers.specs.NumberPlaces.{row_at, shown_rows}
use Rattle.pl_numbers.specs.NumberRowsShown.{is_newest_in}
use Rattle.pl_numbers.specs.declared.rows.NumberRows.{NumberRows}
use Rattle.pl_numbers.specs.declared.rows.Place.{Place}
use Rattle.pl_spec.proofs.Signed.{int_le-true, int_le-false, le-int_le}
use Rattle.pl_spec.proofs.Finds.{contains-front, contains-behind, first_or_behind, all-contains, contains-all}

none_in_empty : {X : Type 0} (x : X) → Contains [] x → ⊥
none_in_empty x h = absurd (omega (arith, h.1))

-- what is found passes, and where nothing is found nothing does
found-passes : {X : Type 0} (p : X → Bool) (xs : List X) (x : X) → find p xs ≡ Some x → Contains xs x × (p x ≡ true)
found-passes p [] x e = absurd (let bad : None ≡ Some x = e in cc)
found-passes p (y ∷ ys) x e = here (p y) refl e (found-passes p ys x)
  where
    here : (b : Bool) → p y ≡ b → cond b (Some y) (find p ys) ≡ Some x → (find p ys ≡ Some x → Contains ys x × (p x ≡ true)) → Contains (y ∷ ys) x × (p x ≡ true)
    here true f g rest = let same : y ≡ x = (let h : Some y ≡ Some x = g in cc) in ((0, omega arith, same), ap p (sym same) ∙ f)
    here false f g rest = (contains-behind y ys x (rest g).0, (rest g).1)

none-passes : {X : Type 0} (p : X → Bool) (xs : List X) → find p xs ≡ None → (x : X) → Contains xs x → p x ≡ true → ⊥
none-passes p [] e x h t = none_in_empty x h
none-passes {X} p (y ∷ ys) e x h t = here (p y) refl e (none-passes p ys)
  where
    here : (b : Bool) → p y ≡ b → cond b (Some y) (find p ys) ≡ None → (find p ys ≡ None → (z : X) → Contains ys z → p z ≡ true → ⊥) → ⊥
    here true f g rest = let bad : Some y ≡ None = g in cc
    here false f g rest = elim (first_or_behind y ys x h) [ inl same ↦ true≢false (sym t ∙ ap p (sym same) ∙ f) | inr later ↦ rest g x later t ]

-- some row of a list that has one was known as late as all others
latest : (r : NumberRow) (rs : List NumberRow) → (m : NumberRow) × Contains (r ∷ rs) m × ((q : NumberRow) → Contains (r ∷ rs) q → q.known ≤ℤ m.known)
latest r [] = (
  r,
  contains-front r [],
  λ q h. elim (first_or_behind r [] q h) [
    | inl same ↦ (let e : q.known ≡ r.known = ap (λ (x : NumberRow). x.known) (sym same) in omega (arith, ints, e))
    | inr later ↦ absurd (none_in_empty q later)
  ],
)
latest r (s ∷ rs) = here (latest s rs)
  where
    here : (m : NumberRow) × Contains (s ∷ rs) m × ((q : NumberRow) → Contains (s ∷ rs) q → q.known ≤ℤ m.known)
        → (m : NumberRow) × Contains (r ∷ s ∷ rs) m × ((q : NumberRow) → Contains (r ∷ s ∷ rs) q → q.known ≤ℤ m.known)
    here it = case (int_le r.known it.0.known) refl
      where
        case : (b : Bool) → int_le r.known it.0.known ≡ b
            → (m : NumberRow) × Contains (r ∷ s ∷ rs) m × ((q : NumberRow) → Contains (r ∷ s ∷ rs) q → q.known ≤ℤ m.known)
        case true f = (
          it.0,
          contains-behind r (s ∷ rs) it.0 it.1,
          λ q h. elim (first_or_behind r (s ∷ rs) q h) [
            | inl same ↦ (let e : q.known ≡ r.known = ap (λ (x : NumberRow). x.known) (sym same) in let le = int_le-true r.known it.0.known f in omega (arith, ints, e, le))
            | inr later ↦ it.2 q later
          ],
        )
        case false f = (
          r,
          contains-front r (s ∷ rs),
          λ q h. elim (first_or_behind r (s ∷ rs) q h) [
            | inl same ↦ (let e : q.known ≡ r.known = ap (λ (x : NumberRow). x.known) (sym same) in omega (arith, ints, e))
            | inr later ↦ (let lt = int_le-false r.known it.0.known f in let le : q.known ≤ℤ it.0.known = it.2 q later in omega (arith, ints, lt, le))
          ],
        )

-- a day is at most the other, where there is one
abbrev pub is_by : ℤ → Option ℤ → Bool
is_by k None = true
is_by k (Some d) = int_le d k

pub all_by_last : (rows : List NumberRow) (k : ℤ) → list_all (λ q. int_le q.known k) rows ≡ is_by k (option_map (λ r. r.known) (last_known rows))
all_by_last rows k = here (last_known rows) refl
  where
    nothing : (us : List NumberRow) → last_known us ≡ None → list_all (λ q. int_le q.known k) us ≡ true
    nothing [] e = refl
    nothing (r ∷ rs) e =
        let it = latest r rs in
        absurd (none-passes (λ x. list_all (λ q. int_le q.known x.known) (r ∷ rs)) (r ∷ rs) e it.0 it.1
        (contains-all (λ q. int_le q.known it.0.known) (r ∷ rs) (λ q h. le-int_le q.known it.0.known (it.2 q h))))

    here : (o : Option NumberRow) → last_known rows ≡ o → list_all (λ q. int_le q.known k) rows ≡ is_by k (option_map (λ r. r.known) o)
    here None e = nothing rows e
    here (Some r) e = both_ways _ _ there_is all_are
      where
        facts : Contains rows r × (list_all (λ q. int_le q.known r.known) rows ≡ true)
        facts = found-passes (λ x. list_all (λ q. int_le q.known x.known) rows) rows r e

        there_is : list_all (λ q. int_le q.known k) rows ≡ true → int_le r.known k ≡ true
        there_is t = all-contains (λ q. int_le q.known k) rows t r facts.0

        all_are : int_le r.known k ≡ true → list_all (λ q. int_le q.known k) rows ≡ true
        all_are t = contains-all (λ q. int_le q.known k) rows (λ q h.
            let le : q.known ≤ℤ r.known = int_le-true q.known r.known (all-contains (λ q. int_le q.known r.known) rows facts.1 q h) in
            let low : r.known ≤ℤ k = int_le-true r.known k t in
            let both : q.known ≤ℤ k = omega (arith, ints, le, low) in
            le-int_le q.known k both)

-- whether the row of a place is the newest
pub newest-at : (t : NumberRows) (i : ℕ) (p : Place) (day : ℤ) → slice_get t.places.items i ≡ Some p → (o : Option ℤ) → o ≡ known_on (shown_rows t) (get_or t.names p.name []) p.col day
    → option_map (is_newest_in (shown_rows t) day) (slice_get (shown_rows t) i) ≡ Some (is_by p.known o)
unfolding known_on
newest-at t i p day at o last =
    ap (option_map (is_newest_in (shown_rows t) day)) (slice_get-map (row_at t.names) t.places.items i ∙ ap (option_map (row_at t.names)) at)
    ∙ ap (λ b. Some b) (all_by_last (filter (is_number_of (get_or t.names p.name []) p.col day) (map by_column (shown_rows t))) p.known ∙ ap (is_by p.known) (sym last))
