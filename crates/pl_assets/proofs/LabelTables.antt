-- Tables of labels: their order, with one row more, and of a file.
use Rattle.std.proofs.Common.{◌≡◌, ◌≢◌, ℕ, ◌+◌, ◌-◌, ◌<◌, ◌≤◌, ◌^◌, nat_le, Bool, true, false, if◌then◌else◌, List, [], ◌∷◌, ◌++◌, length, length-append, map, get_or, All, AllPairs, None, sym, ap, ◌∙◌, arith, inl, inr, pos}
use Rattle.std.specs.Prelude.{Contains}
use Rattle.std.specs.List.{insert, list_any}
use Rattle.std.specs.Str.{bytes_eq}
use Rattle.std.proofs.lemmas.Bool.{cases_lt, true≢false}
use Rattle.std.proofs.lemmas.Bool.Decides.{nat_tests}
use Rattle.std.proofs.lemmas.List.{length-map, get_or-map, get_or_append_left, get_or_default}
use Rattle.std.proofs.lemmas.List.Elements.{All-filter, All-map, All-push}
use Rattle.std.proofs.lemmas.List.Edits.{length-insert, get_or-insert_at, get_or-insert_below, get_or-insert_above}
use Rattle.pl_records.specs.Sorted.{HasOwnKeys}
use Rattle.pl_spec.specs.Parts.{ColumnLabel}
use Rattle.pl_spec.specs.Limits.{most_labels}
use Rattle.pl_assets.specs.Labels.{AreLabels, IsLabelRow, IsLabelText, LabelTable, MayFollow, is_from, is_text, no_labels, table_of, texts_of, with_label}
use Rattle.pl_assets.specs.LabelPlaces.{AreNumbered, IsOrder, IsTable, KeyPoint, key_at, key_of, row_at, shown_rows, table_in}
use Rattle.pl_assets.specs.declared.labels.rows.Place.{Place}
use Rattle.pl_assets.specs.declared.labels.rows.LabelRows.{LabelRows}
use Rattle.pl_assets.proofs.FirstSeen.{texts_more, seen-all}
use Rattle.pl_assets.proofs.LabelKeys.{labels, parts_from}
use Rattle.pl_assets.proofs.LabelOrder.{key_there, same_key}
use Rattle.pl_assets.proofs.LabelRowsMade.{no_numbers, no_rows}
use Rattle.pl_assets.proofs.LabelSearch.{rows_coded}
use Rattle.pl_assets.proofs.Dated.{once-more}

blank : Place
blank = record { name = 0; col = 0; start = pos 0; code = None }

abbrev Once : List ColumnLabel → Type 0
Once rows = AllPairs (λ r q. is_from r.name r.col r.start q ≡ false) rows

-- ---- keys of rows that differ

pub own_keys : (t : LabelRows) → AreNumbered t → Once (shown_rows t) → HasOwnKeys key_of t.places.items
own_keys t h once = record { apart = apart }
  where
    apart : AllPairs (λ p q. key_of p ≢ key_of q) t.places.items
    apart i j d lt l e =
        let row = row_at t.names t.texts in
        let p : Place = get_or t.places.items i d in
        let q : Place = get_or t.places.items j d in
        let first = h.places i d (omega arith) in
        let second = h.places j d l in
        let col : q.col < 2 ^ 64 = (let c = second.col in omega arith) in
        let parts = same_key p.name p.col p.start q.name q.col q.start first.col col first.day second.day e in
        let same : is_from (row p).name (row p).col (row p).start (row q) ≡ true = parts_from (row p).name (row p).col (row p).start (row q) (ap (λ n. get_or t.names n []) (sym parts.0)) (sym parts.1) (sym parts.2) in
        let many : length (shown_rows t) ≡ length t.places.items = length-map t.places.items row in
        let other = once i j (row d) lt (omega arith) in
        let other' : is_from (row p).name (row p).col (row p).start (row q) ≡ false = rw (get_or-map row t.places.items i d (row d) (omega arith), get_or-map row t.places.items j d (row d) l) at other in
        true≢false (sym same ∙ other')

-- ---- a number more in a list of numbers

AllPairs-insert : (R : ℕ → ℕ → Type 0) (xs : List ℕ) (i y : ℕ) → AllPairs R xs → i ≤ length xs → ((k : ℕ) → k < i → R (get_or xs k 0) y) → ((k : ℕ) → i ≤ k → k < length xs → R y (get_or xs k 0)) → AllPairs R (insert xs i y)
AllPairs-insert R xs i y all h before behind a b d lt l = elim (cases_lt b i) [
  | inl p ↦ rw (get_or-insert_below xs i y d a (omega arith) h, get_or-insert_below xs i y d b p h) (all a b d lt (omega arith))
  | inr p ↦ elim (cases_lt i b) [
    | inl q ↦ second_past (b - 1) (omega arith) q
    | inr q ↦ (let same : b ≡ i = omega arith in
        rw (same, get_or-insert_at xs i y d h, get_or-insert_below xs i y d a (omega arith) h, get_or_default xs a d 0 (omega arith)) (before a (omega arith)))
  ]
]
  where
    first_past : (m j : ℕ) → a ≡ m + 1 → b ≡ j + 1 → i ≤ m → R (get_or (insert xs i y) a d) (get_or (insert xs i y) b d)
    first_past m j e f g =
        let inside : j < length xs = omega (arith, length-insert xs i y h) in
        rw (e, f, get_or-insert_above xs i y d m g h, get_or-insert_above xs i y d j (omega arith) h) (all m j d (omega arith) inside)

    second_past : (j : ℕ) → b ≡ j + 1 → i < b → R (get_or (insert xs i y) a d) (get_or (insert xs i y) b d)
    second_past j f q =
        let inside : j < length xs = omega (arith, length-insert xs i y h) in
        elim (cases_lt a i) [
          | inl p ↦ rw (f, get_or-insert_below xs i y d a p h, get_or-insert_above xs i y d j (omega arith) h) (all a j d (omega arith) inside)
          | inr p ↦ elim (cases_lt i a) [
            | inl g ↦ first_past (a - 1) j (omega arith) f (omega arith)
            | inr g ↦ (let same : a ≡ i = omega arith in
                rw (same, f, get_or-insert_at xs i y d h, get_or-insert_above xs i y d j (omega arith) h, get_or_default xs j d 0 inside) (behind j (omega arith) inside))
          ]
        ]

All-insert : (P : ℕ → Type 0) (xs : List ℕ) (i y : ℕ) → All P xs → P y → i ≤ length xs → All P (insert xs i y)
All-insert P xs i y all p h k d l = elim (cases_lt k i) [
  | inl lt ↦ rw (get_or-insert_below xs i y d k lt h) (all k d (omega arith))
  | inr ge ↦ at_or_behind k ge l
]
  where
    at_or_behind : (k : ℕ) → i ≤ k → k < length (insert xs i y) → P (get_or (insert xs i y) k d)
    at_or_behind k ge l = elim (cases_lt i k) [
      | inl gt ↦ past (k - 1) k (omega arith) gt (omega (arith, length-insert xs i y h))
      | inr le ↦ (let same : k ≡ i = omega arith in rw (same, get_or-insert_at xs i y d h) p)
    ]
      where
        past : (j k : ℕ) → k ≡ j + 1 → i < k → j < length xs → P (get_or (insert xs i y) k d)
        past j k e gt m = rw (e, get_or-insert_above xs i y d j (omega arith) h) (all j d m)

Contains-insert : (xs : List ℕ) (i y x : ℕ) → i ≤ length xs → Contains xs x → Contains (insert xs i y) x
Contains-insert xs i y x h c = elim (cases_lt c.0 i) [
  | inl lt ↦ (c.0, omega (arith, c.1, length-insert xs i y h), get_or-insert_below xs i y x c.0 lt h ∙ c.2)
  | inr ge ↦ (c.0 + 1, omega (arith, c.1, length-insert xs i y h), get_or-insert_above xs i y x c.0 ge h ∙ c.2)
]

contains_put : (xs : List ℕ) (i y : ℕ) → i ≤ length xs → Contains (insert xs i y) y
contains_put xs i y h = (i, omega (arith, length-insert xs i y h), get_or-insert_at xs i y y h)

-- ---- the last row in the order

module _ (places : List Place) (n : ℕ) (order : List ℕ) (count : length places ≡ n + 1) (own : HasOwnKeys key_of places) (sorted : IsOrder places n order) (at : ℕ) (inside : at ≤ length order) (point : KeyPoint places (key_at places n) order at) where
  not_last : (k : ℕ) → k < length order → key_at places (get_or order k 0) ≢ key_at places n
  not_last k l e =
      let low : get_or order k 0 < n = sorted.within k 0 l in
      let other = own.apart (get_or order k 0) n blank low (omega arith) in
      other (sym (key_there places (get_or order k 0) blank (omega arith)) ∙ e ∙ key_there places n blank (omega arith))

  lower : (k : ℕ) → k < at → key_at places (get_or order k 0) < key_at places n
  lower k l = strict (key_at places (get_or order k 0)) (key_at places n) (point.0 k 0 (omega arith) l) (not_last k (omega arith))
    where
      strict : (a b : ℕ) → nat_le a b ≡ true → a ≢ b → a < b
      strict a b t ne = grind (arith, nat_tests)

  higher : (k : ℕ) → at ≤ k → k < length order → key_at places n < key_at places (get_or order k 0)
  higher k g l = above (key_at places (get_or order k 0)) (key_at places n) (point.1 k 0 g l)
    where
      above : (a b : ℕ) → nat_le a b ≡ false → b < a
      above a b t = grind (arith, nat_tests)

  pub order_put : IsOrder places (n + 1) (insert order at n)
  order_put =
      record {
        ascend = AllPairs-insert (λ i j. key_at places i < key_at places j) order at n sorted.ascend inside lower higher;
        within = All-insert (λ i. i < n + 1) order at n (λ k d l. let low : get_or order k d < n = sorted.within k d l in omega arith) (omega arith) inside;
        all = λ i l. elim (cases_lt i n) [
          | inl p ↦ Contains-insert order at n i inside (sorted.all i p)
          | inr p ↦ (let same : i ≡ n = omega arith in rw same (contains_put order at n inside))
        ];
      }

-- the order stays while rows come after
key_kept : (places : List Place) (p : Place) (i : ℕ) → i < length places → key_at (places ++ p ∷ []) i ≡ key_at places i
key_kept places p i h =
    key_there (places ++ p ∷ []) i p (omega (arith, length-append places (p ∷ []))) ∙ ap key_of (get_or_append_left places (p ∷ []) p i h) ∙ sym (key_there places i p h)

pub order_kept : (places : List Place) (p : Place) (order : List ℕ) → IsOrder places (length places) order → IsOrder (places ++ p ∷ []) (length places) order
order_kept places p order sorted =
    record {
      ascend = λ i j d h l. rw (key_kept places p (get_or order i d) (sorted.within i d (omega arith)), key_kept places p (get_or order j d) (sorted.within j d l)) (sorted.ascend i j d h l);
      within = sorted.within;
      all = sorted.all;
    }

-- ---- tables

order_none : (places : List Place) → places ≡ [] → IsOrder places (length places) []
order_none places e = rw e record { ascend = λ i j d h l. absurd (omega arith); within = λ k d h. absurd (omega arith); all = λ i h. absurd (omega arith) }

right_text_more : (texts : List (List ℕ)) (text : List ℕ) → All IsLabelText texts → IsLabelText text → All IsLabelText (with_label texts text)
right_text_more texts text h one = here (is_text text) (list_any (bytes_eq text) texts)
  where
    here : (b c : Bool) → All IsLabelText (if b then (if c then texts else texts ++ text ∷ []) else texts)
    here true true = h
    here true false = All-push IsLabelText texts text h one
    here false c = h

no_labels_right : AreLabels no_labels
no_labels_right = record {
  rows = λ k d h. absurd (omega arith);
  once = λ i j d h l. absurd (omega arith);
  few = omega arith;
  texts = record { once = λ i j d h l. absurd (omega arith); full = λ k d h. absurd (omega arith); few = omega arith };
  right = λ k d h. absurd (omega arith);
  coded = λ k d h. absurd (omega arith);
}

pub no_table : (t : LabelRows) (order : List ℕ) → t.names ≡ [] → t.texts ≡ [] → t.places.items ≡ [] → order ≡ [] → IsTable t order
no_table t order n x e o =
    record {
      numbered = no_numbers t n x e;
      labels = rw (no_rows t e, x) no_labels_right;
      found = rw o (order_none t.places.items e);
    }

pub kept_labels : (t : LabelRows) → AreNumbered t → All IsLabelRow (shown_rows t) → Once (shown_rows t) → length (shown_rows t) ≤ most_labels → All IsLabelText t.texts → AreLabels (table_in t)
kept_labels t numbered rows once few right = record { rows = rows; once = once; few = few; texts = numbered.texts; right = right; coded = rows_coded t numbered }

pub labels_more : (old new : LabelRows) (r : ColumnLabel) → AreLabels (table_in old) → AreNumbered new → MayFollow (shown_rows old) r → shown_rows new ≡ shown_rows old ++ r ∷ [] → new.texts ≡ with_label old.texts r.text
    → AreLabels (table_in new)
labels_more old new r h numbered may e t =
    kept_labels new numbered (rw e (All-push IsLabelRow (shown_rows old) r h.rows may.row)) (rw e (once-more labels (shown_rows old) r h.once may.own_start))
    (rw e (let room : length (shown_rows old) < most_labels = may.room in omega (arith, length-append (shown_rows old) (r ∷ []))))
    (rw t (right_text_more old.texts r.text h.right (record { printable = may.row.printable; short = may.row.short })))

pub order_before : (places new : List Place) (p : Place) (order kept : List ℕ) → new ≡ places ++ p ∷ [] → kept ≡ order → IsOrder places (length places) order → IsOrder new (length new - 1) kept
order_before places new p order kept e o sorted =
    let count : length (places ++ p ∷ []) - 1 ≡ length places = omega (arith, length-append places (p ∷ [])) in
    rw (e, o, count) (order_kept places p order sorted)

-- ---- tables of rows and their texts

pub table_more : (rows : List ColumnLabel) (r : ColumnLabel) (t : LabelTable) → t.rows ≡ rows ++ r ∷ [] → t.texts ≡ with_label (texts_of rows) r.text → t ≡ table_of (rows ++ r ∷ [])
table_more rows r t e f = ap (λ l. record { rows = l; texts = t.texts }) e ∙ ap (λ l. record { rows = rows ++ r ∷ []; texts = l }) (f ∙ sym (texts_more rows r))

pub right_texts : (rows : List ColumnLabel) → All IsLabelRow rows → All IsLabelText (texts_of rows)
right_texts rows h =
    seen-all IsLabelText _ (All-filter is_text IsLabelText (map (λ (r : ColumnLabel). r.text) rows) (All-map IsLabelText (λ (r : ColumnLabel). r.text) rows
    (λ k d l. let row = h k d l in record { printable = row.printable; short = row.short })))
