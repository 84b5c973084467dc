-- What a cut keeps of rows that name their assets by columns.
use Rattle.std.proofs.Common.{◌≡◌, ℕ, zero, suc, ◌<◌, Bool, true, false, ◌&&◌, ◌==◌, cond, ℤ, List, [], ◌∷◌, length, map, filter, get_or, slice_get, All, AllPairs, Some, None, refl, sym, ap, ◌∙◌, subst, arith, eq-eqb, bytes_eq}
use Rattle.std.specs.List.{list_any, list_all}
use Rattle.std.specs.Int.RustNames.{int_le}
use Rattle.std.proofs.lemmas.Bool.Decides.{nat_tests}
use Rattle.std.proofs.lemmas.List.Folds.{list_all-map}
use Rattle.std.proofs.lemmas.Option.{get_or_from_slice_get, slice_get_within}
use Rattle.pl_spec.specs.declared.AdjustmentKind.{AdjustmentKind}
use Rattle.pl_spec.specs.declared.AssetRow.{AssetRow}
use Rattle.pl_spec.specs.Numbers.{is_number_of}
use Rattle.pl_spec.specs.Parts.{ColumnLabel, ColumnNumber, label_of, number_of, sid_at}
use Rattle.pl_spec.specs.World.{World, is_label_of, events_of}
use Rattle.pl_spec.proofs.Lists.{filter-map, filter-same, filter-twice}
use Rattle.pl_lifetimes.proofs.Columns.{same_col}
use Rattle.pl_assets.specs.Labels as labels
use Rattle.pl_assets.specs.LabelRowsShown as labels_shown
use Rattle.pl_numbers.specs.Numbers as numbers
use Rattle.pl_numbers.specs.NumberRowsShown as numbers_shown
use Rattle.pl_cut.specs.Cuts.{Span, lives_in, is_of, is_newest_label, is_newest_number, is_event_in, cut}
use Rattle.pl_cut.proofs.Cuts.{events-kept}
use Rattle.pl_parts.specs.Kept.{keeps_event}
use Rattle.pl_parts.specs.Texts.{is_kind, of_sid, rows_of}

-- ---- an asset by its sid

none-later : (keep : AssetRow → Bool) (s : ℕ) (ys : List AssetRow) → All (λ x. s < x.sid) ys → list_any (λ x. x.sid == s) (filter keep ys) ≡ false
none-later keep s [] all = refl
none-later keep s (y ∷ ys) all = here (keep y) (none-later keep s ys (λ k d l. all (suc k) d (omega arith)))
  where
    apart : (y.sid == s) ≡ false
    apart = let lt : s < y.sid = all 0 y (omega arith) in grind (arith, nat_tests)

    here : (b : Bool) → list_any (λ x. x.sid == s) (filter keep ys) ≡ false → list_any (λ x. x.sid == s) (cond b (y ∷ filter keep ys) (filter keep ys)) ≡ false
    here true rest = rw (apart, rest) refl
    here false rest = rest

kept-at : (keep : AssetRow → Bool) (assets : List AssetRow) → AllPairs (λ a b. a.sid < b.sid) assets → (col : ℕ) (a : AssetRow) → slice_get assets col ≡ Some a
    → list_any (λ x. x.sid == a.sid) (filter keep assets) ≡ keep a
kept-at keep [] up col a e = absurd (let bad : None ≡ Some a = e in cc)
kept-at keep (y ∷ ys) up zero a e = subst (λ x. list_any (λ z. z.sid == x.sid) (filter keep (y ∷ ys)) ≡ keep x) same (here (keep y))
  where
    same : y ≡ a
    same = let h : Some y ≡ Some a = e in cc

    here : (b : Bool) → list_any (λ z. z.sid == y.sid) (cond b (y ∷ filter keep ys) (filter keep ys)) ≡ b
    here true = rw (eq-eqb y.sid y.sid refl) refl
    here false = none-later keep y.sid ys (λ k d l. up 0 (suc k) d (omega arith) (omega arith))
kept-at keep (y ∷ ys) up (suc col) a e = here (keep y) (kept-at keep ys (λ i j d lt l. up (suc i) (suc j) d (omega arith) (omega arith)) col a e)
  where
    inside : col < length ys
    inside = slice_get_within ys col a e

    apart : (y.sid == a.sid) ≡ false
    apart =
        let lt : y.sid < (get_or ys col a).sid = up 0 (suc col) a (omega arith) (omega (arith, inside)) in
        let same : get_or ys col a ≡ a = get_or_from_slice_get ys col a a e in
        let less : y.sid < a.sid = rw same at lt in
        grind (arith, nat_tests)

    here : (b : Bool) → list_any (λ z. z.sid == a.sid) (filter keep ys) ≡ keep a → list_any (λ z. z.sid == a.sid) (cond b (y ∷ filter keep ys) (filter keep ys)) ≡ keep a
    here true rest = rw apart rest
    here false rest = rest

-- the asset in a column is kept where it lives in the span
pub of-col : (w : World) (span : Span) → AllPairs (λ a b. a.sid < b.sid) w.assets → (col : ℕ) (a : AssetRow) → slice_get w.assets col ≡ Some a → is_of w span a.sid ≡ lives_in span a
of-col w span up col a e = kept-at (lives_in span) w.assets up col a e

pub sid-of : (assets : List AssetRow) (col : ℕ) (a : AssetRow) → slice_get assets col ≡ Some a → sid_at assets col ≡ a.sid
sid-of assets col a e = rw e refl

-- ---- the newest rows

pub newest-label : (assets : List AssetRow) → AllPairs (λ a b. a.sid < b.sid) assets → (rows : List ColumnLabel) → All (λ r. r.col < length assets) rows
    → (day : ℤ) (r : ColumnLabel) → r.col < length assets
    → is_newest_label (map (label_of assets) rows) day (label_of assets r) ≡ labels_shown.is_newest_in rows day r
newest-label assets up rows inside day r h =
    ap (list_all (λ q. int_le q.start r.start)) (filter-map (is_label_of r.name (sid_at assets r.col) day) (label_of assets) rows)
    ∙ list_all-map (λ q. int_le q.start r.start) (label_of assets) (filter (λ x. is_label_of r.name (sid_at assets r.col) day (label_of assets x)) rows)
    ∙ ap (list_all (λ (x : ColumnLabel). int_le x.start r.start)) (filter-same _ _ rows (λ k d l.
    ap (λ b. (bytes_eq (get_or rows k d).name r.name && b) && int_le (get_or rows k d).start day) (same_col assets up (get_or rows k d).col r.col (inside k d l) h)))
    ∙ sym (list_all-map (λ q. int_le q.start r.start) labels.by_column (filter (λ x. is_label_of r.name r.col day (labels.by_column x)) rows))
    ∙ sym (ap (list_all (λ q. int_le q.start r.start)) (filter-map (is_label_of r.name r.col day) labels.by_column rows))

pub newest-number : (assets : List AssetRow) → AllPairs (λ a b. a.sid < b.sid) assets → (rows : List ColumnNumber) → All (λ r. r.col < length assets) rows
    → (day : ℤ) (r : ColumnNumber) → r.col < length assets
    → is_newest_number (map (number_of assets) rows) day (number_of assets r) ≡ numbers_shown.is_newest_in rows day r
newest-number assets up rows inside day r h =
    ap (list_all (λ q. int_le q.known r.known)) (filter-map (is_number_of r.name (sid_at assets r.col) day) (number_of assets) rows)
    ∙ list_all-map (λ q. int_le q.known r.known) (number_of assets) (filter (λ x. is_number_of r.name (sid_at assets r.col) day (number_of assets x)) rows)
    ∙ ap (list_all (λ (x : ColumnNumber). int_le x.known r.known)) (filter-same _ _ rows (λ k d l.
    ap (λ b. (bytes_eq (get_or rows k d).name r.name && b) && int_le (get_or rows k d).known day) (same_col assets up (get_or rows k d).col r.col (inside k d l) h)))
    ∙ sym (list_all-map (λ q. int_le q.known r.known) numbers.by_column (filter (λ x. is_number_of r.name r.col day (numbers.by_column x)) rows))
    ∙ sym (ap (list_all (λ q. int_le q.known r.known)) (filter-map (is_number_of r.name r.col day) numbers.by_column rows))

-- ---- adjustments

-- those of a kind of a kept asset
pub rows-at : (kind : AdjustmentKind) (w : World) (span : Span) (a : ℕ) → is_of w span a ≡ true
    → rows_of kind (cut w span) a ≡ map (of_sid a) (filter (keeps_event kind span) (events_of w a))
rows-at kind w span a of =
    ap (λ l. map (of_sid a) (filter (λ e. is_kind kind e.kind) l)) (events-kept w span a of)
    ∙ ap (map (of_sid a)) (filter-twice (λ e. is_kind kind e.kind) (is_event_in span) (events_of w a))

pub newest-is : (a b : Bool) → Some a ≡ Some b → a ≡ b
newest-is a b e = cc
