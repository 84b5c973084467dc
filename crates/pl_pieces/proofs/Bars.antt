-- The bars of a world read back.
use Rattle.std.proofs.Common.{◌≡◌, ◌⊎◌, ◌<ℤ◌, append_assoc, nat_le, ℕ, suc, ◌<◌, ◌≤◌, ◌==◌, ◌^◌, ◌&&◌, IsTrue, Bool, true, false, ℤ, pos, List, [], ◌∷◌, ◌++◌, map, length, get_or, All, AllPairs, Some, Ok, refl, sym, ◌∙◌, ap, arith, inl, inr}
use Rattle.std.specs.Fmt.{decimal}
use Rattle.std.specs.List.{list_any, slice_index_or}
use Rattle.std.specs.Int.RustNames.{int_lt}
use Rattle.std.specs.Ordering.{int_eq}
use Rattle.std.proofs.lemmas.Bool.{or_cases}
use Rattle.std.proofs.lemmas.Int.{ints}
use Rattle.std.proofs.lemmas.Bool.Decides.{nat_tests}
use Rattle.std.proofs.lemmas.List.{length-map}
use Rattle.std.proofs.lemmas.List.Elements.{All-map}
use Rattle.std.proofs.lemmas.List.Folds.{list_any_none}
use Rattle.pl_records.specs.Reading.{Record, ◌>>=◌}
use Rattle.pl_records.specs.Records.{csv_records}
use Rattle.pl_records.specs.Sorted.{HasOwnKeys, sorted_by}
use Rattle.pl_records.proofs.Sorts.{rise-sorted}
use Rattle.pl_spec.specs.Dates.{IsDay, date_text}
use Rattle.pl_spec.specs.Decimals.{cell_text}
use Rattle.pl_spec.specs.Limits.{most_bars, most_sessions}
use Rattle.pl_spec.specs.Parts as parts
use Rattle.pl_spec.specs.Rounding.{IsCell, MISSING, is_missing}
use Rattle.pl_spec.specs.World.{World, Bar}
use Rattle.pl_spec.specs.declared.BarRow.{BarRow}
use Rattle.pl_spec.proofs.Places.{is_at}
use Rattle.pl_spec.proofs.SidsRead.{sid_in-decimal}
use Rattle.pl_spec.proofs.Signed.{int_eq-true, eq-int_eq}
use Rattle.pl_fixed.proofs.WritingLemmas.{reads_back}
use Rattle.pl_calendar.specs.Days.{AreDays}
use Rattle.pl_lifetimes.specs.Assets.{AreAssets}
use Rattle.pl_bars.specs.Bars as bars
use Rattle.pl_bars.specs.Bars.{bar_or_rule, bars_of, cell_in, fields_in, header, is_bar_cell, is_negative, key_of, rows_in, session_in}
use Rattle.pl_bars.proofs.BarFields.{cell_in-IsCellText}
use Rattle.pl_parts.specs.Texts.{bar_line, bars_header, bars_text}
use Rattle.pl_pieces.specs.Held.{AreBarsOf, IsBarIn, IsBefore, cells_of}
use Rattle.pl_pieces.proofs.Columns.{col_of, found, rises, sid-back, small-sid}
use Rattle.pl_pieces.proofs.Csv.{IsLine, lines-under, many-line}
use Rattle.pl_pieces.proofs.Days.{text-of-day}
use Rattle.pl_pieces.proofs.Fields.{cell-plain, date-plain, date-read, sid-plain}
use Rattle.pl_pieces.proofs.Rows.{All-front, before-one, few-before, made-under, of-one, pairs-map}

-- ---- cells

pub bar-cell : (v : ℤ) → IsTrue (is_bar_cell v) → IsCell v
bar-cell v h = elim (or_cases (is_missing v) _ h) [
  | inl m ↦ inl (int_eq-true v MISSING m)
  | inr s ↦ inr (grind (arith, ints, nat_tests))
]

not-negative : (v : ℤ) → IsTrue (is_bar_cell v) → is_negative v ≡ false
not-negative v h = elim (or_cases (is_missing v) _ h) [
  | inl m ↦ rw m (none (int_lt v (pos 0)))
  | inr s ↦ (let least : int_lt v (pos 0) ≡ false = grind (arith, ints) in rw least refl)
]
  where
    none : (b : Bool) → (b && false) ≡ false
    none true = refl
    none false = refl

pub cell-back : (v : ℤ) → IsCell v → cell_in (cell_text v) ≡ Some v
unfolding cell_text
cell-back v h = here (is_missing v) refl h
  where
    here : (t : Bool) → is_missing v ≡ t → IsCell v → cell_in (cell_text v) ≡ Some v
    here true m h = cell_in-IsCellText (cell_text v) v (inl (rw m refl, int_eq-true v MISSING m))
    here false m (inl e) = absurd (let is : is_missing v ≡ true = eq-int_eq v MISSING e in let bad : true ≡ false = sym is ∙ m in cc)
    here false m (inr small) = cell_in-IsCellText (cell_text v) v (inr (rw m (reads_back v small)))

-- ---- a line

abbrev fields : List ℤ → Bar → Record
fields days b =
    decimal b.sid ∷ date_text (slice_index_or days b.session (pos 0)) ∷ cell_text b.open_price ∷ cell_text b.high ∷ cell_text b.low ∷ cell_text b.close ∷ cell_text b.volume ∷ []

five : (x d p v e : List ℕ) → x ++ d ++ p ++ v ++ e ≡ x ++ (d ++ (p ++ (v ++ e)))
five x d p v e = simp append_assoc

joined : (x d o h l c v : List ℕ) → x ++ 44 ∷ d ++ (44 ∷ o ++ 44 ∷ h ++ 44 ∷ l ++ 44 ∷ c) ++ 44 ∷ v ++ 10 ∷ []
    ≡ x ++ (44 ∷ (d ++ (44 ∷ (o ++ (44 ∷ (h ++ (44 ∷ (l ++ (44 ∷ (c ++ (44 ∷ (v ++ 10 ∷ []))))))))))))
joined x d o h l c v =
    five x (44 ∷ d) (44 ∷ o ++ 44 ∷ h ++ 44 ∷ l ++ 44 ∷ c) (44 ∷ v) (10 ∷ [])
    ∙ ap (λ t. x ++ (44 ∷ (d ++ t))) (five (44 ∷ o) (44 ∷ h) (44 ∷ l) (44 ∷ c) (44 ∷ (v ++ 10 ∷ [])))

head : IsLine bars_header header
head = many-line _ _ _ bars_header refl

apart : (a b c d : ℕ) → (a < c) ⊎ (b < d) → (a == c && b == d) ≡ false
apart a b c d (inl h) = grind (arith, nat_tests)
apart a b c d (inr h) = grind (arith, nat_tests)

unlike : (a b : ℤ) → a <ℤ b → int_eq a b ≡ false
unlike a b h = grind (arith, ints)

module _ (w : World) (days : AreDays w.days) (assets : AreAssets w.assets) (are : AreBarsOf w) where
  abbrev row : Bar → BarRow
  row b = record { col = col_of w.assets b.sid; session = b.session; cells = cells_of b }

  is-day : (s : ℕ) → s < length w.days → IsDay (slice_index_or w.days s (pos 0))
  is-day s h = days.dates s (pos 0) h

  cell : (b : Bar) → IsBarIn w b → (k : ℕ) → k < 5 → IsCell (get_or (cells_of b) k (pos 0))
  cell b h k l = bar-cell _ (h.cells k (pos 0) l)

  line : (b : Bar) → IsBarIn w b → b.sid < 2 ^ 32 → IsLine (bar_line w.days b) (fields w.days b)
  line b h small =
      let day = is-day b.session h.session in
      many-line (decimal b.sid) (date_text (slice_index_or w.days b.session (pos 0))) _ (bar_line w.days b)
      (rw (
        sid-plain b.sid (omega arith),
        date-plain (slice_index_or w.days b.session (pos 0)) day,
        cell-plain b.open_price (cell b h 0 (omega arith)),
        cell-plain b.high (cell b h 1 (omega arith)),
        cell-plain b.low (cell b h 2 (omega arith)),
        cell-plain b.close (cell b h 3 (omega arith)),
        cell-plain b.volume (cell b h 4 (omega arith)),
        text-of-day (slice_index_or w.days b.session (pos 0)) day,
      ) (joined (decimal b.sid) (date_text (slice_index_or w.days b.session (pos 0))) (cell_text b.open_price) (cell_text b.high) (cell_text b.low) (cell_text b.close) (cell_text b.volume)))

  session-back : (s : ℕ) → s < length w.days → session_in w.days (slice_index_or w.days s (pos 0)) ≡ Some s
  session-back s h =
      is_at (λ d. int_eq d (slice_index_or w.days s (pos 0))) w.days s (pos 0) h (eq-int_eq (get_or w.days s (pos 0)) (get_or w.days s (pos 0)) refl) (λ k l. unlike _ _ (days.ascend k s (pos 0) l h))

  before : (a b : Bar) → IsBarIn w a → IsBarIn w b → IsBefore a b → key_of (row a) < key_of (row b)
  before a b h k (inl l) =
      let up : col_of w.assets a.sid < col_of w.assets b.sid = rises w.assets assets a.sid b.sid h.asset k.asset l in
      let in_a : a.session < length w.days = h.session in
      let few : length w.days ≤ most_sessions = days.few in
      omega arith
  before a b h k (inr l) = let same : col_of w.assets a.sid ≡ col_of w.assets b.sid = ap (col_of w.assets) l.0 in let later : a.session < b.session = l.1 in omega arith

  other-place : (a b : Bar) → IsBarIn w a → IsBarIn w b → IsBefore a b → bars.is_at (row b).col (row b).session (row a) ≡ false
  other-place a b h k (inl l) = apart _ _ _ _ (inl (rises w.assets assets a.sid b.sid h.asset k.asset l))
  other-place a b h k (inr l) = apart _ _ _ _ (inr l.1)

  small : (b : Bar) → IsBarIn w b → b.sid < 2 ^ 32
  small b h = small-sid w.assets assets b.sid h.asset

  front-holds : (front : List Bar) (b : Bar) (after : List Bar) → front ++ b ∷ after ≡ w.bars → All (IsBarIn w) front
  front-holds front b after e = All-front (IsBarIn w) front (b ∷ after) w.bars e are.each

  says : (front : List Bar) (b : Bar) (after : List Bar) → front ++ b ∷ after ≡ w.bars → bar_or_rule w.days w.assets (map row front) (fields w.days b) ≡ Ok (row b)
  unfolding bar_or_rule fields_in
  says front b after e =
      let h = of-one (IsBarIn w) front b after w.bars e are.each in
      let few : nat_le most_bars (length (map row front)) ≡ false = rw (length-map front row) (few-before most_bars front b after w.bars e are.few) in
      let own : list_any (bars.is_at (row b).col (row b).session) (map row front) ≡ false =
      list_any_none (bars.is_at (row b).col (row b).session) (map row front)
      (All-map (λ z. bars.is_at (row b).col (row b).session z ≡ false) row front
      (λ k d l. other-place (get_or front k d) b (front-holds front b after e k d l) h (before-one IsBefore front b after w.bars e are.ascend k d l))) in
      let signs : list_any is_negative (cells_of b) ≡ false = list_any_none is_negative (cells_of b) (λ k d l. not-negative (get_or (cells_of b) k d) (h.cells k d l)) in
      rw (
        few,
        sid_in-decimal (decimal b.sid) b.sid (small b h) refl,
        date-read (slice_index_or w.days b.session (pos 0)) (is-day b.session h.session),
        cell-back b.open_price (cell b h 0 (omega arith)),
        cell-back b.high (cell b h 1 (omega arith)),
        cell-back b.low (cell b h 2 (omega arith)),
        cell-back b.close (cell b h 3 (omega arith)),
        cell-back b.volume (cell b h 4 (omega arith)),
        session-back b.session h.session,
        found w.assets assets b.sid h.asset,
        signs,
        own,
      ) refl

  read-rows : rows_in w.days w.assets (header ∷ map (fields w.days) w.bars) ≡ Ok (map row w.bars)
  unfolding rows_in
  read-rows = made-under (bar_or_rule w.days w.assets) (fields w.days) row header bars.BadHeader w.bars says

  ascend : AllPairs (λ a b. key_of a < key_of b) (map row w.bars)
  ascend = pairs-map (λ a b. key_of a < key_of b) row w.bars (λ i j d m l. before (get_or w.bars i d) (get_or w.bars j d) (are.each i d (omega arith)) (are.each j d l) (are.ascend i j d m l))

  own : HasOwnKeys key_of (map row w.bars)
  own = record { apart = λ i j d m l same. let less : key_of (get_or (map row w.bars) i d) < key_of (get_or (map row w.bars) j d) = ascend i j d m l in omega arith }

  rows-back : bars_of w.days w.assets (header ∷ map (fields w.days) w.bars) ≡ Ok (map row w.bars)
  unfolding bars_of
  rows-back = ap (λ r. r >>= λ xs. Ok (sorted_by key_of xs)) read-rows ∙ ap Ok (sym (rise-sorted key_of (map row w.bars) own ascend))

  same-bar : (b : Bar) → IsBarIn w b → parts.bar_of w.assets (row b) ≡ b
  same-bar b h = rw (sid-back w.assets assets b.sid h.asset) refl

  same-bars : (xs : List Bar) → All (IsBarIn w) xs → map (parts.bar_of w.assets) (map row xs) ≡ xs
  same-bars [] h = refl
  same-bars (b ∷ bs) h = rw (same-bar b (h 0 b (omega arith)), same-bars bs (λ k d l. h (suc k) d (omega arith))) refl

  pub bars-back : (rows : List BarRow) × (bars_of w.days w.assets (csv_records (bars_text w)) ≡ Ok rows) × (map (parts.bar_of w.assets) rows ≡ w.bars)
  unfolding bars_text
  bars-back = (
    map row w.bars,
    ap (bars_of w.days w.assets) (lines-under (bar_line w.days) (fields w.days) bars_header header w.bars head refl (λ k d l. line (get_or w.bars k d) (are.each k d l) (small (get_or w.bars k d) (are.each k d l))))
        ∙ rows-back,
    same-bars w.bars are.each,
  )
