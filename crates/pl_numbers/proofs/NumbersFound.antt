-- The row that was known last, of rows of which no two are of one name, asset and day.
use Rattle.std.proofs.Common.{◌≡◌, ℕ, true, ℤ, ◌≤ℤ◌, List, filter, Some, None, Contains, sym, ◌∙◌}
use Rattle.std.specs.List.{list_all}
use Rattle.std.specs.Int.RustNames.{int_le}
use Rattle.pl_spec.specs.Numbers.{NumberRow, last_known, is_number_of, NumbersOnce}
use Rattle.pl_spec.proofs.Signed.{int_le-true, le-int_le, le-both}
use Rattle.pl_assets.proofs.Dated.{by-tells}
use Rattle.pl_numbers.proofs.NumberKeys.{numbers_said}
use Rattle.pl_spec.proofs.Finds.{find-one, find-none, contains-filter, filter-contains, all-contains, contains-all}

module _ (rows : List NumberRow) (name : List ℕ) (a : ℕ) (day : ℤ) where
  us : List NumberRow
  us = filter (is_number_of name a day) rows

  pub last_found : NumbersOnce rows → (r : NumberRow) → Contains rows r → is_number_of name a day r ≡ true
      → ((q : NumberRow) → Contains rows q → is_number_of name a day q ≡ true → q.known ≤ℤ r.known)
      → last_known (filter (is_number_of name a day) rows) ≡ Some r
  unfolding us
  last_found once r h e latest = find-one (λ x. list_all (λ q. int_le q.known x.known) us) us r here is_last one
    where
      here : Contains us r
      here = contains-filter (is_number_of name a day) rows r h e

      is_last : list_all (λ q. int_le q.known r.known) us ≡ true
      is_last =
          contains-all (λ q. int_le q.known r.known) us
          (λ q in_us. let place = filter-contains (is_number_of name a day) rows q in_us in le-int_le q.known r.known (latest q place.0 place.1))

      one : (y : NumberRow) → Contains us y → list_all (λ q. int_le q.known y.known) us ≡ true → y ≡ r
      one y in_us last =
          let row = filter-contains (is_number_of name a day) rows y in_us in
          let of_y = (by-tells numbers_said name a day y).0 row.1 in
          let of_r = (by-tells numbers_said name a day r).0 e in
          let below : r.known ≤ℤ y.known = int_le-true r.known y.known (all-contains (λ q. int_le q.known y.known) us last r here) in
          once y r row.0 h (of_y.0 ∙ sym of_r.0) (of_y.1 ∙ sym of_r.1) (le-both y.known r.known (latest y row.0 row.1) below)

  pub last_none : ((q : NumberRow) → Contains rows q → is_number_of name a day q ≡ true → ⊥) → last_known (filter (is_number_of name a day) rows) ≡ None
  unfolding us
  last_none none =
      find-none (λ x. list_all (λ q. int_le q.known x.known) us) us
      (λ y in_us e. let place = filter-contains (is_number_of name a day) rows y in_us in none y place.0 place.1)
