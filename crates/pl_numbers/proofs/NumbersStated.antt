-- Records that state rows of which no two have one key say these rows.
use Rattle.std.proofs.Common.{◌≡◌, ℕ, ◌+◌, ◌<◌, ◌≤◌, nat_le, false, List, [], ◌∷◌, ◌++◌, length, length-append, append_assoc, drop, get_or, AllPairs, IfSome, OnSome, Option, option_map, Some, None, Ok, Err, refl, sym, ap, ◌∙◌, arith}
use Rattle.std.specs.List.{list_any}
use Rattle.std.specs.Option.{ok_or}
use Rattle.std.proofs.lemmas.Bool.Decides.{nat_tests}
use Rattle.std.proofs.lemmas.List.{append-nil, get_or_append_left}
use Rattle.std.proofs.lemmas.List.Folds.{list_any_none}
use Rattle.std.proofs.Math.Seq.{get_or-append_seam}
use Rattle.pl_records.specs.Reading.{Record, at_line, ◌>>=◌, rows_behind, rows_under}
use Rattle.pl_records.specs.Sorted.{HasOwnKeys, sorted_by}
use Rattle.pl_records.proofs.Readings.{rows-keep, under_ok}
use Rattle.pl_records.proofs.Sorts.{length-sorted_by}
use Rattle.pl_records.proofs.RuleTables.{and_then_some, map_some}
use Rattle.pl_spec.specs.Limits.{most_numbers}
use Rattle.pl_spec.specs.Parts.{ColumnNumber}
use Rattle.pl_spec.specs.declared.AssetRow.{AssetRow}
use Rattle.pl_lifetimes.specs.Assets.{col_in}
use Rattle.pl_numbers.specs.Numbers.{BadField, BadHeader, header, in_column, is_from, number_in, number_rows_in, numbers_of, row_of, number_or_rule, table_of}
use Rattle.pl_numbers.specs.NumberPlaces.{AreNumbered, AreStated, IsTableOf, key_of, shown_rows, states}
use Rattle.pl_numbers.specs.BesidePlaces.{AreNamed}
use Rattle.pl_numbers.specs.declared.rows.NumberRows.{NumberRows}
use Rattle.pl_assets.proofs.Dated.{flips}
use Rattle.pl_numbers.proofs.NumberKeys.{numbers}
use Rattle.pl_numbers.proofs.NumberRowsMade.{few_names as few_named, once_named}
use Rattle.pl_numbers.proofs.NumbersRead.{AreRead-read}
use Rattle.pl_numbers.proofs.NumberTables.{told_apart, cols_kept, table_kept, table_made}

-- ---- rows with keys of their own

abbrev Apart : List ColumnNumber → Type 0
Apart rows = AllPairs (λ r q. is_from r.name r.col r.known q ≡ false) rows

apart : (t : NumberRows) → AreNumbered t → HasOwnKeys key_of t.places.items → Apart (shown_rows t)
apart t h own = told_apart t (once_named t h) h.places own.apart

-- ---- a row with others before it

none_before : (before rest : List ColumnNumber) (row : ColumnNumber) → Apart ((before ++ row ∷ []) ++ rest) → list_any (is_from row.name row.col row.known) before ≡ false
none_before before rest row parted = list_any_none (is_from row.name row.col row.known) before (λ i d l. flips numbers row (get_or before i d) ∙ at i d l)
  where
    at : (i : ℕ) (d : ColumnNumber) → i < length before → is_from (get_or before i d).name (get_or before i d).col (get_or before i d).known row ≡ false
    at i d l =
        let more : length (before ++ row ∷ []) ≡ length before + 1 = length-append before (row ∷ []) in
        let all : length ((before ++ row ∷ []) ++ rest) ≡ length (before ++ row ∷ []) + length rest = length-append (before ++ row ∷ []) rest in
        let low : get_or ((before ++ row ∷ []) ++ rest) i d ≡ get_or before i d =
        get_or_append_left (before ++ row ∷ []) rest d i (omega arith) ∙ get_or_append_left before (row ∷ []) d i l in
        let high : get_or ((before ++ row ∷ []) ++ rest) (length before) d ≡ row =
        get_or_append_left (before ++ row ∷ []) rest d (length before) (omega arith) ∙ get_or-append_seam before row [] d in
        let one = parted i (length before) d l (omega arith) in
        rw (low, high) at one

-- ---- what is stated is said

say_row : (assets : List AssetRow) (before : List ColumnNumber) (r : Record) (row : ColumnNumber) → row_of assets r ≡ Some row → length before < most_numbers
    → list_any (is_from row.name row.col row.known) before ≡ false → number_or_rule assets before r ≡ Ok row
unfolding number_or_rule
say_row assets before r row at few own =
    let n = and_then_some (number_in r) (λ n. option_map (in_column n) (col_in assets n.sid)) row at in
    let c = map_some (col_in assets n.0.sid) (in_column n.0) row n.2 in
    let room : nat_le most_numbers (length before) ≡ false = grind (arith, nat_tests) in
    let new : list_any (is_from n.0.name c.0 n.0.known) before ≡ false = ap (λ (x : ColumnNumber). list_any (is_from x.name x.col x.known) before) c.2 ∙ own in
    rw (room, n.1, c.1, new) (ap (λ (x : ColumnNumber). Ok x) c.2)

module _ (assets : List AssetRow) (rows : List ColumnNumber) (parted : Apart rows) (few : length rows ≤ most_numbers) where
  prefix : (rs : List Record) (base : List ColumnNumber) → rows_behind 2 (states assets) base rs ≡ Ok rows → (rest : List ColumnNumber) × (rows ≡ base ++ rest)
  prefix rs base e =
      rows-keep (λ xs. (rest : List ColumnNumber) × (xs ≡ base ++ rest)) 2 (states assets)
      (λ before r row h s. (h.0 ++ row ∷ [], ap (λ l. l ++ row ∷ []) h.1 ∙ append_assoc base h.0 (row ∷ []))) rs base rows ([], sym (append-nil base)) e

  rows_said : (rs : List Record) (before : List ColumnNumber) → rows_behind 2 (states assets) before rs ≡ Ok rows → rows_behind 2 (number_or_rule assets) before rs ≡ Ok rows
  unfolding rows_behind
  rows_said [] before e = e
  rows_said (r ∷ rs) before e = here (row_of assets r) refl (λ row s. rows_said rs (before ++ row ∷ []) s) e
    where
      here : (o : Option ColumnNumber) → row_of assets r ≡ o
          → ((row : ColumnNumber) → rows_behind 2 (states assets) (before ++ row ∷ []) rs ≡ Ok rows → rows_behind 2 (number_or_rule assets) (before ++ row ∷ []) rs ≡ Ok rows)
          → (at_line (2 + length before) (ok_or o BadField) >>= λ row. rows_behind 2 (states assets) (before ++ row ∷ []) rs) ≡ Ok rows
          → (at_line (2 + length before) (number_or_rule assets before r) >>= λ row. rows_behind 2 (number_or_rule assets) (before ++ row ∷ []) rs) ≡ Ok rows
      here None at more s = absurd (let bad : Err (record { rule = BadField; line = 2 + length before }) ≡ Ok rows = s in cc)
      here (Some row) at more s =
          let p = prefix rs (before ++ row ∷ []) s in
          let room : length before < most_numbers =
          omega (arith, few, ap length p.1, length-append (before ++ row ∷ []) p.0, length-append before (row ∷ [])) in
          let own : list_any (is_from row.name row.col row.known) before ≡ false = none_before before p.0 row (rw p.1 at parted) in
          rw (say_row assets before r row at room own) (more row s)

pub rows_stated : (assets : List AssetRow) (records : List Record) (t : NumberRows) → AreNumbered t → HasOwnKeys key_of t.places.items → length (shown_rows t) ≤ most_numbers
    → rows_under header BadHeader (states assets) records ≡ Ok (shown_rows t) → number_rows_in assets records ≡ Ok (shown_rows t)
unfolding number_rows_in
rows_stated assets records t h own few e =
    let u = under_ok header BadHeader (states assets) records (shown_rows t) e in
    rw u.0 (rows_said assets (shown_rows t) (apart t h own) few (drop 1 records) [] u.1)

pub table_stated : (assets : List AssetRow) (records : List Record) (t new : NumberRows) → AreNumbered t → HasOwnKeys key_of t.places.items → length (shown_rows t) ≤ most_numbers
    → rows_under header BadHeader (states assets) records ≡ Ok (shown_rows t) → new.names ≡ t.names → new.places.items ≡ sorted_by key_of t.places.items → IsTableOf assets records new
unfolding numbers_of
table_stated assets records t new h own few e names places =
    let said : number_rows_in assets records ≡ Ok (shown_rows t) = rows_stated assets records t h own few e in
    let read = AreRead-read assets records (shown_rows t) said in
    record {
      table = table_kept t new h names places assets read;
      exact = ap (λ x. x >>= λ rows. Ok (table_of rows)) said ∙ ap Ok (table_made t new h names places);
      cols = cols_kept t new h names places assets read;
    }

-- where they can be put in order
pub stated_in_order : (assets : List AssetRow) (records : List Record) (t : NumberRows) (o : Option NumberRows) → AreStated assets records t → OnSome o (HasOwnKeys key_of t.places.items)
    → IfSome o (λ new. new.names ≡ t.names) → IfSome o (λ new. new.places.items ≡ sorted_by key_of t.places.items) → IfSome o (IsTableOf assets records)
stated_in_order assets records t None h own names places = tt
stated_in_order assets records t (Some new) h own names places = table_stated assets records t new h.numbered own h.few h.exact names places

-- each of their names has a row
pub named_in_order : (t : NumberRows) (o : Option NumberRows) → AreNumbered t
    → IfSome o (λ new. new.names ≡ t.names) → IfSome o (λ new. new.places.items ≡ sorted_by key_of t.places.items) → IfSome o AreNamed
named_in_order t None h names places = tt
named_in_order t (Some new) h names places = rw (names, places) (omega (arith, few_named t h, length-sorted_by key_of t.places.items))
