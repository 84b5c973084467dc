-- The label of a column on a day, found by numbers.
use Rattle.std.proofs.Common.{◌≡◌, ℕ, ◌<◌, Bool, true, false, ℤ, pos, ◌≤ℤ◌, List, [], ◌∷◌, length, map, filter, get_or, All, AllPairs, Option, Some, None, IfSome, option_map, option_and_then, slice_get, refl, sym, ap, ◌∙◌, arith}
use Rattle.std.specs.Prelude.{Contains}
use Rattle.std.specs.Cmp.{both_ways}
use Rattle.std.specs.Int.RustNames.{int_le}
use Rattle.std.specs.List.{position, list_all}
use Rattle.std.specs.Str.{bytes_eq}
use Rattle.std.proofs.lemmas.Bool.{true≢false}
use Rattle.std.proofs.lemmas.Int.{ints}
use Rattle.std.proofs.lemmas.List.{get_or_default}
use Rattle.std.proofs.lemmas.Option.{slice_get-map, slice_get_within, get_or_from_slice_get}
use Rattle.std.proofs.lemmas.List.Elements.{All-map}
use Rattle.pl_spec.specs.Parts.{ColumnLabel}
use Rattle.pl_spec.specs.World.{World, LabelRow, is_label_of, label_at, nonempty}
use Rattle.pl_spec.specs.Lookups.{LabelsOnce}
use Rattle.pl_spec.proofs.Finds.{labels_are_found, contains-filter, filter-contains, all-contains, contains-all}
use Rattle.pl_spec.proofs.Signed.{int_le-true, le-int_le}
use Rattle.pl_assets.specs.Labels.{by_column, is_from, is_text, label_on, names_of}
use Rattle.pl_assets.specs.LabelRowsShown.{is_newest_in}
use Rattle.pl_assets.specs.LabelPlaces.{AreNumbered, HasStarted, IsLastStarted, IsPlace, row_at, shown_rows, text_in}
use Rattle.pl_assets.specs.declared.labels.rows.Place.{Place}
use Rattle.pl_assets.specs.declared.labels.rows.LabelRows.{LabelRows}
use Rattle.pl_assets.proofs.FirstSeen.{one_place, place_of_text}
use Rattle.pl_assets.proofs.Dated.{by-tells, contains_mapped, mapped_contains, once-mapped}
use Rattle.pl_assets.proofs.LabelKeys.{labels, labels_said, once_named}

-- ---- texts

pub full_text : (x : List ℕ) → is_text x ≡ true → nonempty x ≡ Some x
full_text [] e = absurd (let bad : false ≡ true = e in true≢false (sym bad))
full_text (b ∷ bs) e = refl

-- the text of a place has a code
pub text_coded : (t : LabelRows) → AreNumbered t → (o : Option ℕ) → IfSome o (λ c. c < length t.texts) → IfSome (nonempty (text_in t.texts o)) (Contains t.texts)
text_coded t numbered None h = tt
text_coded t numbered (Some c) h = rw (full_text (get_or t.texts c []) (numbered.texts.full c [] h)) (c, h, get_or_default t.texts c (get_or t.texts c []) [] h)

pub rows_coded : (t : LabelRows) → AreNumbered t → All (λ r. IfSome (nonempty r.text) (Contains t.texts)) (shown_rows t)
rows_coded t numbered =
    All-map (λ (r : ColumnLabel). IfSome (nonempty r.text) (Contains t.texts)) (row_at t.names t.texts) t.places.items (λ k d l. text_coded t numbered (get_or t.places.items k d).code (numbered.places k d l).code)

-- ---- a world of labels alone

abbrev world : List ColumnLabel → ℤ → World
world rows day = record { days = day ∷ []; assets = []; labels = map by_column rows; texts = []; bars = []; adjustments = []; numbers = [] }

blank_row : ColumnLabel
blank_row = record { name = []; col = 0; start = pos 0; text = [] }

once_labels : (rows : List ColumnLabel) (day : ℤ) → AllPairs (λ r q. is_from r.name r.col r.start q ≡ false) rows → LabelsOnce (world rows day)
once_labels rows day once = once-mapped labels labels_said by_column (λ r. (refl, refl, refl)) blank_row rows once

on_day : (rows : List ColumnLabel) (name : List ℕ) (col : ℕ) (day : ℤ) → label_at (world rows day) name col (pos 0) ≡ label_on rows name col day
unfolding label_on
on_day rows name col day = refl

-- ---- the row that started last

-- a row starts by the day, where there is one
abbrev pub starts_by : ℤ → Option Place → Bool
starts_by k None = true
starts_by k (Some p) = int_le p.start k

-- the code of a row's text, where there is one
abbrev pub code_in : Option Place → Option ℕ
code_in None = None
code_in (Some p) = p.code

module _ (t : LabelRows) (numbered : AreNumbered t) (number col : ℕ) (day : ℤ) (named : number < length (names_of (shown_rows t))) where
  inside : number < length t.names
  inside = rw (← numbered.names) at named

  name : List ℕ
  name = get_or t.names number []

  rows : List ColumnLabel
  rows = shown_rows t

  row : Place → LabelRow
  row p = by_column (row_at t.names t.texts p)

  here_now : (p : Place) → Contains t.places.items p → IsPlace t.names t.texts p
  here_now p h = rw h.2 at (numbered.places h.0 p h.1)

  is_row : (p : Place) → HasStarted number col day p → is_label_of name col day (row p) ≡ true
  unfolding name row
  is_row p h = (by-tells labels_said name col day (row p)).1 (ap (λ n. get_or t.names n []) h.same_name, h.same_col, h.started)

  row_is : (p : Place) → Contains t.places.items p → is_label_of name col day (row p) ≡ true → HasStarted number col day p
  unfolding name row
  row_is p h e =
      let it = (by-tells labels_said name col day (row p)).0 e in
      record { same_name = one_place t.names p.name number (once_named t numbered) (here_now p h).name inside it.0; same_col = it.1; started = it.2 }

  there : (p : Place) → Contains t.places.items p → Contains (map by_column rows) (row p)
  unfolding rows row
  there p h = contains_mapped by_column (shown_rows t) (row_at t.names t.texts p) (contains_mapped (row_at t.names t.texts) t.places.items p h)

  from_place : (q : LabelRow) → Contains (map by_column rows) q → (p : Place) × Contains t.places.items p × (row p ≡ q)
  unfolding rows row
  from_place q h =
      let first = mapped_contains by_column (shown_rows t) q blank_row h in
      let second = mapped_contains (row_at t.names t.texts) t.places.items first.0 (record { name = 0; col = 0; start = pos 0; code = None }) first.1 in
      (second.0, second.1, ap by_column second.2 ∙ first.2)

  label_found : AllPairs (λ r q. is_from r.name r.col r.start q ≡ false) rows → (p : Place) → IsLastStarted t.places.items number col day (Some p)
      → label_on rows name col day ≡ nonempty (text_in t.texts p.code)
  unfolding row
  label_found once p h =
      sym (on_day rows name col day)
      ∙ labels_are_found.found (world rows day) (once_labels rows day once) name col (pos 0) day refl (row p) (there p h.0) (is_row p h.1)
      (λ q in_rows e. let it = from_place q in_rows in
      let started : HasStarted number col day it.0 = row_is it.0 it.1 (ap (is_label_of name col day) it.2 ∙ e) in
      let le : it.0.start ≤ℤ p.start = h.2 it.0 it.1 started in rw (ap (λ (x : LabelRow). x.start) it.2) at le)

  label_none : IsLastStarted t.places.items number col day None → label_on rows name col day ≡ None
  label_none h =
      sym (on_day rows name col day)
      ∙ labels_are_found.none (world rows day) name col (pos 0) day refl
      (λ q in_rows e. let it = from_place q in_rows in h it.0 it.1 (row_is it.0 it.1 (ap (is_label_of name col day) it.2 ∙ e)))

  -- its code
  text_there : (c : ℕ) → c < length t.texts → nonempty (get_or t.texts c []) ≡ Some (get_or t.texts c [])
  text_there c h = full_text (get_or t.texts c []) (numbered.texts.full c [] h)

  code_of_text : (o : Option ℕ) → IfSome o (λ c. c < length t.texts) → o ≡ option_and_then (λ text. position (bytes_eq text) t.texts) (nonempty (text_in t.texts o))
  code_of_text None h = refl
  code_of_text (Some c) h = rw (text_there c h) (sym (place_of_text t.texts c numbered.texts.once h))

  names_same : get_or (names_of (shown_rows t)) number [] ≡ get_or t.names number []
  names_same = ap (λ l. get_or l number []) (sym numbered.names)

  pub last_code : AllPairs (λ r q. is_from r.name r.col r.start q ≡ false) (shown_rows t) → (o : Option Place) → IsLastStarted t.places.items number col day o
      → code_in o ≡ option_and_then (λ text. position (bytes_eq text) t.texts) (label_on (shown_rows t) (get_or (names_of (shown_rows t)) number []) col day)
  unfolding rows name
  last_code once None h = rw (names_same, label_none h) refl
  last_code once (Some p) h = rw (names_same, label_found once p h) (code_of_text p.code (here_now p h.0).code)

  pub last_known : AllPairs (λ r q. is_from r.name r.col r.start q ≡ false) (shown_rows t) → (o : Option Place) → IsLastStarted t.places.items number col day o
      → IfSome (label_on (shown_rows t) (get_or (names_of (shown_rows t)) number []) col day) (Contains t.texts)
  unfolding rows name
  last_known once None h = rw (names_same, label_none h) tt
  last_known once (Some p) h = rw (names_same, label_found once p h) (text_coded t numbered p.code (here_now p h.0).code)

  -- ---- the newest row

  us : List LabelRow
  us = filter (is_label_of name col day) (map by_column rows)

  pub newest_by : (k : ℤ) (o : Option Place) → IsLastStarted t.places.items number col day o
      → list_all (λ q. int_le q.start k) (filter (is_label_of (get_or t.names number []) col day) (map by_column (shown_rows t))) ≡ starts_by k o
  unfolding rows name row us
  newest_by k None h =
      contains-all (λ q. int_le q.start k) us (λ q in_us. let it = of_us q in_us in absurd (h it.0 it.1 it.2))
    where
      of_us : (q : LabelRow) → Contains us q → (p : Place) × Contains t.places.items p × HasStarted number col day p × (row p ≡ q)
      of_us q in_us =
          let found = filter-contains (is_label_of name col day) (map by_column rows) q in_us in
          let it = from_place q found.0 in
          (it.0, it.1, row_is it.0 it.1 (ap (is_label_of name col day) it.2 ∙ found.1), it.2)
  newest_by k (Some p) h = both_ways _ _ there_is all_are
    where
      there_is : list_all (λ q. int_le q.start k) us ≡ true → int_le p.start k ≡ true
      there_is e = all-contains (λ q. int_le q.start k) us e (row p) (contains-filter (is_label_of name col day) (map by_column rows) (row p) (there p h.0) (is_row p h.1))

      all_are : int_le p.start k ≡ true → list_all (λ q. int_le q.start k) us ≡ true
      all_are e = contains-all (λ q. int_le q.start k) us (λ q in_us.
          let found = filter-contains (is_label_of name col day) (map by_column rows) q in_us in
          let it = from_place q found.0 in
          let started : HasStarted number col day it.0 = row_is it.0 it.1 (ap (is_label_of name col day) it.2 ∙ found.1) in
          let le : it.0.start ≤ℤ p.start = h.2 it.0 it.1 started in
          let low : p.start ≤ℤ k = int_le-true p.start k e in
          let both : it.0.start ≤ℤ k = omega (arith, ints, le, low) in
          ap (λ (x : LabelRow). int_le x.start k) (sym it.2) ∙ le-int_le it.0.start k both)

-- whether the row of a place is the newest
pub newest-at : (t : LabelRows) → AreNumbered t → (i : ℕ) (p : Place) (day : ℤ) → slice_get t.places.items i ≡ Some p → (o : Option Place) → IsLastStarted t.places.items p.name p.col day o
    → option_map (is_newest_in (shown_rows t) day) (slice_get (shown_rows t) i) ≡ Some (starts_by p.start o)
newest-at t numbered i p day at o last =
    let inside : i < length t.places.items = slice_get_within t.places.items i p at in
    let here : IsPlace t.names t.texts p = (let it : IsPlace t.names t.texts (get_or t.places.items i p) = numbered.places i p inside in rw (get_or_from_slice_get t.places.items i p p at) at it) in
    let named : p.name < length (names_of (shown_rows t)) = (let n : p.name < length t.names = here.name in rw numbered.names at n) in
    ap (option_map (is_newest_in (shown_rows t) day)) (slice_get-map (row_at t.names t.texts) t.places.items i ∙ ap (option_map (row_at t.names t.texts)) at)
    ∙ ap (λ b. Some b) (newest_by t numbered p.name p.col day named p.start o last)
