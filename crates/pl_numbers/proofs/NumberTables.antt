-- Tables of numbers: rows that were read, in the order of their keys.
use Rattle.std.proofs.Common.{◌≡◌, ◌≢◌, ℕ, suc, ◌<◌, ◌^◌, nat_le, Bool, true, false, cond, pos, List, [], ◌∷◌, length, map, get_or, All, AllPairs, Contains, IsPermutation, refl, sym, subst, ap, ◌∙◌, arith}
use Rattle.std.proofs.lemmas.Bool.{true≢false}
use Rattle.std.proofs.lemmas.List.{length-map, get_or-map}
use Rattle.std.proofs.lemmas.List.Elements.{All-map}
use Rattle.std.proofs.lemmas.List.Sorted.{All-permutation, IsPermutation-map}
use Rattle.pl_records.proofs.RuleTables.{not_true}
use Rattle.pl_records.specs.Sorted.{HasOwnKeys, insert_by, sorted_by}
use Rattle.pl_records.proofs.Sorts.{sorted-rises, sorted-permutes, length-sorted_by}
use Rattle.pl_spec.specs.Dates.{IsDay}
use Rattle.pl_spec.specs.Rounding.{IsCell}
use Rattle.pl_spec.specs.declared.AssetRow.{AssetRow}
use Rattle.pl_assets.specs.LabelPlaces.{key}
use Rattle.pl_assets.proofs.FirstSeen.{Once, one_place}
use Rattle.pl_assets.proofs.LabelOrder.{same_key}
use Rattle.std.proofs.lemmas.List.{get_or_default}
use Rattle.pl_spec.specs.Parts.{ColumnNumber}
use Rattle.pl_numbers.specs.Numbers.{AreNumbers, is_from, key_in, table_of}
use Rattle.pl_numbers.specs.NumberPlaces.{AreNumbered, IsPlace, IsTable, key_of, row_at, shown_rows, table_in}
use Rattle.pl_numbers.specs.declared.rows.Place.{Place}
use Rattle.pl_numbers.specs.declared.rows.NumberRows.{NumberRows}
use Rattle.pl_numbers.proofs.NumberKeys.{from_parts, parts_from, place_of}
use Rattle.pl_numbers.proofs.NumberRowsMade.{few_names, once_named}
use Rattle.pl_numbers.proofs.NumbersRead.{AreRead}

-- ---- keys of rows that differ

-- rows of one key are one name's, one column's, from one day on
pub one_key : (names : List (List ℕ)) (p q : Place) → IsPlace names p → IsPlace names q → key_of p ≡ key_of q → is_from (row_at names p).name (row_at names p).col (row_at names p).known (row_at names q) ≡ true
one_key names p q h g e =
    let col : q.col < 2 ^ 64 = (let c = g.col in omega arith) in
    let parts = same_key p.name p.col p.known q.name q.col q.known h.col col h.day g.day e in
    parts_from (row_at names p).name (row_at names p).col (row_at names p).known (row_at names q) (ap (λ n. get_or names n []) (sym parts.0)) (sym parts.1) (sym parts.2)

pub own_keys : (t : NumberRows) → AreNumbered t → AllPairs (λ r q. is_from r.name r.col r.known q ≡ false) (shown_rows t) → HasOwnKeys key_of t.places.items
own_keys t h once = record { apart = differ }
  where
    differ : AllPairs (λ p q. key_of p ≢ key_of q) t.places.items
    differ i j d lt l e =
        let p : Place = get_or t.places.items i d in
        let q : Place = get_or t.places.items j d in
        let same = one_key t.names p q (h.places i d (omega arith)) (h.places j d l) e in
        let many : length (shown_rows t) ≡ length t.places.items = length-map t.places.items (row_at t.names) in
        let other = once i j (row_at t.names d) lt (omega arith) in
        let other' : is_from (row_at t.names p).name (row_at t.names p).col (row_at t.names p).known (row_at t.names q) ≡ false =
        rw (get_or-map (row_at t.names) t.places.items i d (row_at t.names d) (omega arith), get_or-map (row_at t.names) t.places.items j d (row_at t.names d) l) at other in
        true≢false (sym same ∙ other')

-- ---- lists that are sorted and read through a function

insert-map : {A B : Type 0} (f : A → B) (k : A → ℕ) (j : B → ℕ) (x : A) (ys : List A) → j (f x) ≡ k x → All (λ y. j (f y) ≡ k y) ys → insert_by j (f x) (map f ys) ≡ map f (insert_by k x ys)
insert-map f k j x [] e all = refl
insert-map f k j x (y ∷ ys) e all =
    rw (e, all 0 y (omega arith)) (here (nat_le (k x) (k y)) (insert-map f k j x ys e (λ i d h. all (suc i) d (omega arith))))
  where
    here : (b : Bool) → insert_by j (f x) (map f ys) ≡ map f (insert_by k x ys) → cond b (f x ∷ f y ∷ map f ys) (f y ∷ insert_by j (f x) (map f ys)) ≡ map f (cond b (x ∷ y ∷ ys) (y ∷ insert_by k x ys))
    here true more = refl
    here false more = ap (λ l. f y ∷ l) more

sorted-map : {A B : Type 0} (f : A → B) (k : A → ℕ) (j : B → ℕ) (xs : List A) → All (λ x. j (f x) ≡ k x) xs → sorted_by j (map f xs) ≡ map f (sorted_by k xs)
unfolding sorted_by
sorted-map f k j [] all = refl
sorted-map f k j (x ∷ xs) all =
    let rest : All (λ x. j (f x) ≡ k x) xs = λ i d h. all (suc i) d (omega arith) in
    ap (insert_by j (f x)) (sorted-map f k j xs rest)
    ∙ insert-map f k j x (sorted_by k xs) (all 0 x (omega arith)) (All-permutation (λ x. j (f x) ≡ k x) xs (sorted_by k xs) (sorted-permutes k xs) rest)

-- the key of a shown row is that of its place
pub key_shown : (t : NumberRows) → AreNumbered t → All (λ p. key_in t.names (row_at t.names p) ≡ key_of p) t.places.items
key_shown t h k d l =
    let p : Place = get_or t.places.items k d in
    ap (λ n. key n p.col p.known) (place_of t.names p.name (once_named t h) (h.places k d l).name)

-- ---- the table of rows that were read

module _ (t new : NumberRows) (numbered : AreNumbered t) (names : new.names ≡ t.names) (places : new.places.items ≡ sorted_by key_of t.places.items) where
  -- the rows that are shown
  shown : shown_rows new ≡ map (row_at t.names) (sorted_by key_of t.places.items)
  shown = rw (names, places) refl

  pub table_made : table_of (shown_rows t) ≡ table_in new
  table_made =
      ap (λ l. record { names = l; rows = sorted_by (key_in l) (shown_rows t) }) (sym numbered.names)
      ∙ ap (λ l. record { names = t.names; rows = l }) (sorted-map (row_at t.names) key_of (key_in t.names) t.places.items (key_shown t numbered) ∙ sym shown)
      ∙ ap (λ l. record { names = l; rows = shown_rows new }) (sym names)

  moved : IsPermutation t.places.items new.places.items
  moved = rw places (sorted-permutes key_of t.places.items)

  pub rows_moved : IsPermutation (shown_rows t) (shown_rows new)
  rows_moved = rw shown (IsPermutation-map (row_at t.names) t.places.items (sorted_by key_of t.places.items) (sorted-permutes key_of t.places.items))

  pub table_kept : (assets : List AssetRow) → AreRead assets (shown_rows t) → IsTable new
  table_kept assets read =
      record {
        places = rw names (All-permutation (IsPlace t.names) t.places.items new.places.items moved numbered.places);
        names = rw names (once_named t numbered);
        rise = rw places (sorted-rises key_of t.places.items (own_keys t numbered read.once));
        few = rw places (omega (arith, length-sorted_by key_of t.places.items, read.few, length-map t.places.items (row_at t.names)));
        few_names = rw names (omega (arith, few_names t numbered, read.few, length-map t.places.items (row_at t.names)));
        cells = All-permutation (λ (p : Place). IsCell p.value) t.places.items new.places.items moved cells;
        days = All-permutation (λ (p : Place). IsDay p.known) t.places.items new.places.items moved days;
      }
    where
      cells : All (λ (p : Place). IsCell p.value) t.places.items
      cells k d l =
          let it = read.cells k (row_at t.names d) (omega (arith, length-map t.places.items (row_at t.names))) in
          subst (λ (r : ColumnNumber). IsCell r.value) (get_or-map (row_at t.names) t.places.items k d (row_at t.names d) l) it

      days : All (λ (p : Place). IsDay p.known) t.places.items
      days k d l =
          let it = read.days k (row_at t.names d) (omega (arith, length-map t.places.items (row_at t.names))) in
          subst (λ (r : ColumnNumber). IsDay r.known) (get_or-map (row_at t.names) t.places.items k d (row_at t.names d) l) it

  pub cols_kept : (assets : List AssetRow) → AreRead assets (shown_rows t) → All (λ r. r.col < length assets) (shown_rows new)
  cols_kept assets read = All-permutation (λ (r : ColumnNumber). r.col < length assets) (shown_rows t) (shown_rows new) rows_moved read.cols

-- ---- what a table holds

pub blank : Place
blank = record { name = 0; col = 0; known = pos 0; value = pos 0 }

-- rows of keys that differ are told apart
pub told_apart : (t : NumberRows) → Once t.names → All (IsPlace t.names) t.places.items → AllPairs (λ p q. key_of p ≢ key_of q) t.places.items → AllPairs (λ r q. is_from r.name r.col r.known q ≡ false) (shown_rows t)
told_apart t names all differ i j d lt l =
    let inside : j < length t.places.items = omega (arith, l, length-map t.places.items (row_at t.names)) in
    let before : i < length t.places.items = omega arith in
    rw (get_or-map (row_at t.names) t.places.items i blank d before, get_or-map (row_at t.names) t.places.items j blank d inside)
    (here (get_or t.places.items i blank) (get_or t.places.items j blank) (all i blank before) (all j blank inside) (differ i j blank lt inside))
  where
    here : (p q : Place) → IsPlace t.names p → IsPlace t.names q → key_of p ≢ key_of q → is_from (row_at t.names p).name (row_at t.names p).col (row_at t.names p).known (row_at t.names q) ≡ false
    here p q hp hq ne = not_true _ (λ e.
        let parts = from_parts (row_at t.names p).name (row_at t.names p).col (row_at t.names p).known (row_at t.names q) e in
        let n : q.name ≡ p.name = one_place t.names q.name p.name names hq.name hp.name parts.0 in
        let same : key_of q ≡ key_of p = ap (λ m. key m q.col q.known) n ∙ ap (λ c. key p.name c q.known) parts.1 ∙ ap (key p.name p.col) parts.2 in
        ne (sym same))

pub are_numbers : (t : NumberRows) → IsTable t → AreNumbers (table_in t)
are_numbers t h =
    record {
      names = h.names;
      named = All-map (λ (r : ColumnNumber). Contains t.names r.name) (row_at t.names) t.places.items (λ k d l.
          let p : Place = get_or t.places.items k d in (p.name, (h.places k d l).name, get_or_default t.names p.name (get_or t.names p.name []) [] (h.places k d l).name));
      once = told_apart t h.names h.places (λ i j d lt l e. let up : key_of (get_or t.places.items i d) < key_of (get_or t.places.items j d) = h.rise i j d lt l in omega (arith, up, e));
      few = omega (arith, h.few, length-map t.places.items (row_at t.names));
      cells = All-map (λ (r : ColumnNumber). IsCell r.value) (row_at t.names) t.places.items h.cells;
    }
