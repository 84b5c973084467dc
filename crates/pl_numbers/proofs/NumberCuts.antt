-- Tables of no rows, and of those that were known by a day.
use Rattle.std.proofs.Common.{◌≡◌, ◌<◌, ℤ, [], sym, arith}
use Rattle.std.specs.Int.RustNames.{int_le}
use Rattle.std.proofs.lemmas.List.Elements.{All-filter}
use Rattle.std.proofs.lemmas.List.Kept.{AllPairs-filter}
use Rattle.std.proofs.lemmas.List.Sums.{length-filter, count_by-le-length}
use Rattle.pl_spec.specs.AsOf.{column_numbers_by}
use Rattle.pl_spec.specs.Parts.{ColumnNumber}
use Rattle.pl_spec.specs.Dates.{IsDay}
use Rattle.pl_spec.specs.Rounding.{IsCell}
use Rattle.pl_spec.proofs.Lists.{filter-map}
use Rattle.pl_numbers.specs.NumberPlaces.{IsPlace, IsTable, key_of, places_by, row_at, shown_rows}
use Rattle.pl_numbers.specs.declared.rows.Place.{Place}
use Rattle.pl_numbers.specs.declared.rows.NumberRows.{NumberRows}

pub no_table : (t : NumberRows) → t.names ≡ [] → t.places.items ≡ [] → IsTable t
no_table t names places =
    record {
      places = rw places (λ k d l. absurd (omega arith));
      names = rw names (λ i j d l m. absurd (omega arith));
      rise = rw places (λ i j d l m. absurd (omega arith));
      few = rw places (omega arith);
      few_names = rw names (omega arith);
      cells = rw places (λ k d l. absurd (omega arith));
      days = rw places (λ k d l. absurd (omega arith));
    }

module _ (day : ℤ) (t new : NumberRows) (names : new.names ≡ t.names) (places : new.places.items ≡ places_by day t.places.items) where
  pub table_cut : IsTable t → IsTable new
  table_cut h =
      record {
        places = rw (names, places) (All-filter (λ p. int_le p.known day) (IsPlace t.names) t.places.items h.places);
        names = rw names h.names;
        rise = rw places (AllPairs-filter (λ p q. key_of p < key_of q) (λ p. int_le p.known day) t.places.items h.rise);
        few = rw places (let few = h.few in omega (arith, length-filter (λ (p : Place). int_le p.known day) t.places.items, count_by-le-length (λ (p : Place). int_le p.known day) t.places.items));
        few_names = rw names h.few_names;
        cells = rw places (All-filter (λ p. int_le p.known day) (λ p. IsCell p.value) t.places.items h.cells);
        days = rw places (All-filter (λ p. int_le p.known day) (λ p. IsDay p.known) t.places.items h.days);
      }

  pub rows_cut : shown_rows new ≡ column_numbers_by day (shown_rows t)
  rows_cut = rw (names, places) (sym (filter-map (λ (r : ColumnNumber). int_le r.known day) (row_at t.names) t.places.items))
