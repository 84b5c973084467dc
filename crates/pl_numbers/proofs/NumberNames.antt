-- Numbers under a name that a row has, and under one that none has.
use Rattle.std.proofs.Common.{◌≡◌, ℕ, true, false, ℤ, List, [], ◌∷◌, Some, None, map, filter, position, option_map, unwrap_or, bytes_eq, get_or, slice_index_or, refl, sym, ◌∙◌, ap, subst, inl, inr, All, Contains, true≢false}
use Rattle.std.proofs.lemmas.Slice.Eq.{bytes_eq-Decides}
use Rattle.std.proofs.lemmas.List.Quantifiers.{position-Some}
use Rattle.pl_records.proofs.RuleTables.{not_true}
use Rattle.pl_spec.specs.Rounding.{MISSING}
use Rattle.pl_spec.specs.Numbers.{is_number_of, last_known, read_of}
use Rattle.pl_spec.specs.Parts.{ColumnNumber}
use Rattle.pl_spec.proofs.Members.{In, in-contains}
use Rattle.pl_spec.proofs.Places.{nowhere}
use Rattle.pl_spec.specs.declared.Figure.{Figure}
use Rattle.pl_numbers.specs.Numbers.{by_column, known_on, number_on}

-- the name of a number
pub name-behind : (name : List ℕ) (names : List (List ℕ)) (n : ℕ) → position (bytes_eq name) names ≡ Some n → slice_index_or names n [] ≡ name
name-behind name names n e = let it = position-Some (bytes_eq name) names n [] e in sym ((bytes_eq-Decides name (get_or names n [])).0 it.1)

-- a name that no row has
unnamed : (name : List ℕ) (col : ℕ) (day : ℤ) (rows : List ColumnNumber) → ((r : ColumnNumber) → In r rows → bytes_eq r.name name ≡ false)
    → filter (is_number_of name col day) (map by_column rows) ≡ []
unnamed name col day [] h = refl
unnamed name col day (r ∷ rs) h = let e : bytes_eq r.name name ≡ false = h r (inl refl) in rw e (unnamed name col day rs (λ q i. h q (inr i)))

other-name : (name : List ℕ) (names : List (List ℕ)) (rows : List ColumnNumber) → All (λ r. Contains names r.name) rows → position (bytes_eq name) names ≡ None
    → (r : ColumnNumber) → In r rows → bytes_eq r.name name ≡ false
other-name name names rows named e r i = not_true _ here
  where
    there : Contains names r.name
    there = let c = in-contains rows r i in subst (λ (q : ColumnNumber). Contains names q.name) c.2 (named c.0 r c.1)

    here : bytes_eq r.name name ≡ true → ⊥
    here g =
        let same : r.name ≡ name = (bytes_eq-Decides r.name name).0 g in
        let place : get_or names there.0 r.name ≡ name = there.2 ∙ same in
        true≢false (sym ((bytes_eq-Decides name (get_or names there.0 r.name)).1 (sym place)) ∙ nowhere (bytes_eq name) names e there.0 r.name there.1)

pub no-name : (name : List ℕ) (names : List (List ℕ)) (rows : List ColumnNumber) → All (λ r. Contains names r.name) rows → position (bytes_eq name) names ≡ None
    → (f : Figure) (col : ℕ) (day : ℤ) → MISSING ≡ number_on f rows name col day
unfolding number_on
no-name name names rows named e f col day =
    sym (ap (λ l. unwrap_or (option_map (read_of f day) (last_known l)) MISSING) (unnamed name col day rows (other-name name names rows named e)))

pub no-known : (name : List ℕ) (names : List (List ℕ)) (rows : List ColumnNumber) → All (λ r. Contains names r.name) rows → position (bytes_eq name) names ≡ None
    → (col : ℕ) (day : ℤ) → None ≡ known_on rows name col day
unfolding known_on
no-known name names rows named e col day = sym (ap (λ l. option_map (λ r. r.known) (last_known l)) (unnamed name col day rows (other-name name names rows named e)))
