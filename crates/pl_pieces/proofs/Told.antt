-- What the tables of adjustments and the revisions that were read tell.
use Rattle.std.proofs.Common.{◌≡◌, ℕ, zero, suc, ◌/◌, ◌<◌, ◌≤◌, IsTrue, Bool, true, false, cond, ℤ, pos, negsuc, ◌<ℤ◌, ◌≤ℤ◌, List, [], ◌∷◌, ◌++◌, append-nil, map, filter, length, get_or, All, Ok, refl, sym, ◌∙◌, ap, arith, unsigned_abs, length-append}
use Rattle.std.proofs.lemmas.Int.{ints}
use Rattle.std.proofs.lemmas.List.{length-map}
use Rattle.std.proofs.lemmas.List.Elements.{All-append, All-filter, All-map}
use Rattle.std.proofs.lemmas.Option.{slice_get-get_or}
use Rattle.pl_spec.specs.Dates.{IsDay}
use Rattle.pl_spec.specs.Limits.{most_adjustments}
use Rattle.pl_spec.specs.Order.{acts_at, adjustment_in, by_day, day_of_time, is_of, of_table}
use Rattle.pl_spec.specs.Parts.{ColumnAdjustment}
use Rattle.pl_spec.specs.World.{Adjustment, Event}
use Rattle.pl_spec.specs.declared.AdjustmentKind.{AdjustmentKind}
use Rattle.pl_spec.specs.declared.AdjustmentKind.TheVariants.{Split, Merger, Dividend, Revision}
use Rattle.pl_spec.specs.declared.AssetRow.{AssetRow}
use Rattle.pl_spec.specs.declared.RawAdjust.{RawAdjust}
use Rattle.pl_spec.proofs.ByDay.{by_day-is_by_day}
use Rattle.pl_spec.proofs.Lists.{filter-few, filter-map, filter-swap}
use Rattle.pl_spec.proofs.Signed.{le-int_le}
use Rattle.pl_outside.specs.declared.keeper.Table.{Table}
use Rattle.pl_outside.specs.declared.keeper.Table.TheVariants.{Splits, Mergers, Dividends}
use Rattle.pl_adjust.specs.Revised.{revised}
use Rattle.pl_adjust.specs.Revisions.{AreRevisions}
use Rattle.pl_adjust.specs.Rules.{AreRight, HasRatio, IsEffective}
use Rattle.pl_adjust.specs.Tables.{adjustments_in}
use Rattle.pl_adjust.specs.Walk.{TableRow, in_table, is_part, walk}
use Rattle.pl_adjust.specs.declared.revisions.Revision.{Revision as Read}
use Rattle.pl_adjust.proofs.FirstFaults.{tables_right}
use Rattle.pl_parts.specs.Texts.{is_kind}
use Rattle.pl_pieces.specs.Tables.{IsChangeIn, IsEventIn, KindsInOrder, of_kind, on_day}
use Rattle.pl_pieces.proofs.Acting.{four-kept, four-mapped, four-same}
use Rattle.pl_pieces.proofs.Rows.{All-front}

-- ---- the order of kinds

of-one-kind : (j k : AdjustmentKind) (xs : List Event) → All (λ e. e.kind ≡ k) xs → filter (of_kind j) xs ≡ cond (is_kind j k) xs []
of-one-kind j k [] h = here (is_kind j k)
  where
    here : (t : Bool) → (let none : List Event = [] in none ≡ cond t none none)
    here true = refl
    here false = refl
of-one-kind j k (e ∷ es) h =
    ap (λ t. cond t (e ∷ filter (of_kind j) es) (filter (of_kind j) es)) (ap (is_kind j) (h 0 e (omega arith)))
    ∙ here (is_kind j k) (of-one-kind j k es (λ i d l. h (suc i) d (omega arith)))
  where
    here : (t : Bool) → filter (of_kind j) es ≡ cond t es [] → cond t (e ∷ filter (of_kind j) es) (filter (of_kind j) es) ≡ cond t (e ∷ es) []
    here true rest = ap (λ l. e ∷ l) rest
    here false rest = rest

three-nil : {A : Type 0} (xs : List A) → xs ++ [] ++ [] ++ [] ≡ xs
three-nil xs = append-nil (xs ++ [] ++ []) ∙ append-nil (xs ++ []) ∙ append-nil xs

two-nil : {A : Type 0} (xs : List A) → xs ++ [] ++ [] ≡ xs
two-nil xs = append-nil (xs ++ []) ∙ append-nil xs

kinds-of : (s m d r : List Event) → All (λ e. e.kind ≡ Split) s → All (λ e. e.kind ≡ Merger) m → All (λ e. e.kind ≡ Dividend) d → All (λ e. e.kind ≡ Revision) r
    → (let xs = s ++ m ++ d ++ r in xs ≡ filter (of_kind Split) xs ++ filter (of_kind Merger) xs ++ filter (of_kind Dividend) xs ++ filter (of_kind Revision) xs)
kinds-of s m d r hs hm hd hr =
    let each : (j : AdjustmentKind) → filter (of_kind j) (s ++ m ++ d ++ r) ≡ cond (is_kind j Split) s [] ++ cond (is_kind j Merger) m [] ++ cond (is_kind j Dividend) d [] ++ cond (is_kind j Revision) r [] =
    (λ j. four-kept (of_kind j) s m d r ∙ four-same (of-one-kind j Split s hs) (of-one-kind j Merger m hm) (of-one-kind j Dividend d hd) (of-one-kind j Revision r hr)) in
    sym (four-same (each Split ∙ three-nil s) (each Merger ∙ two-nil m) (each Dividend ∙ append-nil d) (each Revision))

-- ---- rows of tables

record IsRightRow (r : RawAdjust) : Type 0 where
  pub effective : IsEffective r.effective
  pub ratio : HasRatio r

time-in : (t : ℤ) → negsuc 2208988799 ≤ℤ t → t <ℤ pos 7258118400 → IsDay (day_of_time t)
time-in (pos t) low high = let small : t < 7258118400 = omega (arith, ints) in let day : t / 86400 ≤ 84005 = omega arith in record { first = omega (arith, ints); last = omega (arith, ints) }
time-in (negsuc t) low high = let small : t ≤ 2208988799 = omega (arith, ints) in let day : t / 86400 ≤ 25566 = omega arith in record { first = omega (arith, ints); last = omega (arith, ints) }

part-in : (n : ℤ) → pos 1 ≤ℤ n → n ≤ℤ pos 1000000000 → IsTrue (is_part (pos (unsigned_abs n)))
part-in (pos n) low high = rw (le-int_le (pos 1) (pos n) low, le-int_le (pos n) (pos 1000000000) high) refl
part-in (negsuc n) low high = absurd (omega (arith, ints))

module _ (days : List ℤ) (assets : List AssetRow) where
  abbrev IsTold : Adjustment → Type 0
  IsTold x = IsEventIn days x.event

  rows-told : (kind : AdjustmentKind) (change : (day : ℤ) (r : RawAdjust) → HasRatio r → IsChangeIn days day kind (adjustment_in kind r).event.change)
      → (rows : List RawAdjust) → All IsRightRow rows → All IsTold (of_table assets kind rows)
  rows-told kind change rows h =
      All-map IsTold (adjustment_in kind) (filter (is_of assets) rows) (λ k d l. (
      let r : RawAdjust = get_or (filter (is_of assets) rows) k d in
      let right : IsRightRow r = All-filter (is_of assets) IsRightRow rows h k d l in
      record { day = time-in r.effective right.effective.from right.effective.before; change = change (day_of_time r.effective) r right.ratio }))

  parts-in : (r : RawAdjust) → HasRatio r → IsTrue (is_part (pos (unsigned_abs r.num))) × IsTrue (is_part (pos (unsigned_abs r.den)))
  parts-in r h = (part-in r.num h.num.0 h.num.1, part-in r.den h.den.0 h.den.1)

  right-rows : (rows : List TableRow) → AreRight rows → All (λ r. IsRightRow r.row) rows
  right-rows rows h k d l = let it = h k (get_or rows k d) (slice_get-get_or rows k d l) in record { effective = it.effective; ratio = it.ratio }

  few-rows : (rows : List TableRow) → AreRight rows → length rows ≤ most_adjustments
  few-rows [] h = omega arith
  few-rows (r ∷ rs) h =
      let n : ℕ = length rs in
      let last = h n (get_or (r ∷ rs) n r) (slice_get-get_or (r ∷ rs) n r (omega arith)) in
      let room : n < most_adjustments = last.room in
      omega arith

  All-back : {A : Type 0} (P : A → Type 0) (xs ys : List A) → All P (xs ++ ys) → All P ys
  All-back P [] ys h = h
  All-back P (x ∷ xs) ys h = All-back P xs ys (λ k d l. h (suc k) d (omega arith))

  of-table : (table : Table) (rows : List RawAdjust) → All (λ (r : TableRow). IsRightRow r.row) (in_table table rows) → All IsRightRow rows
  of-table table [] h k d l = absurd (omega arith)
  of-table table (r ∷ rs) h zero d l = h 0 (record { table = table; row = r }) (omega arith)
  of-table table (r ∷ rs) h (suc k) d l = of-table table rs (λ i e m. h (suc i) e (omega arith)) k d (omega arith)

  module _ (splits mergers dividends : List RawAdjust) (xs : List ColumnAdjustment) (e : adjustments_in assets splits mergers dividends ≡ Ok xs) where
    right : AreRight (walk splits mergers dividends)
    right = (tables_right assets splits mergers dividends).0 (xs, e)

    abbrev tables : List Adjustment
    tables = of_table assets Split splits ++ of_table assets Merger mergers ++ of_table assets Dividend dividends

    pub tables-told : All IsTold tables
    tables-told =
        let P : TableRow → Type 0 = λ r. IsRightRow r.row in
        let all : All P (walk splits mergers dividends) = right-rows (walk splits mergers dividends) right in
        let front : All P (in_table Splits splits ++ in_table Mergers mergers) = All-front P (in_table Splits splits ++ in_table Mergers mergers) (in_table Dividends dividends) (walk splits mergers dividends) refl all in
        All-append IsTold (of_table assets Split splits ++ of_table assets Merger mergers) (of_table assets Dividend dividends)
        (All-append IsTold (of_table assets Split splits) (of_table assets Merger mergers)
        (rows-told Split (λ day r h. parts-in r h) splits (of-table Splits splits (All-front P (in_table Splits splits) (in_table Mergers mergers) _ refl front)))
        (rows-told Merger (λ day r h. parts-in r h) mergers (of-table Mergers mergers (All-back P (in_table Splits splits) (in_table Mergers mergers) front))))
        (rows-told Dividend (λ day r h. parts-in r h) dividends (of-table Dividends dividends (All-back P (in_table Splits splits ++ in_table Mergers mergers) (in_table Dividends dividends) all)))

    table-few : (kind : AdjustmentKind) (rows : List RawAdjust) → length (of_table assets kind rows) ≤ length rows
    table-few kind rows = omega (arith, length-map (filter (is_of assets) rows) (adjustment_in kind), filter-few (is_of assets) rows)

    pub tables-few : length tables ≤ most_adjustments
    tables-few =
        let row : Table → RawAdjust → TableRow = λ table r. record { table = table; row = r } in
        omega (
          arith,
          few-rows (walk splits mergers dividends) right,
          length-append (in_table Splits splits ++ in_table Mergers mergers) (in_table Dividends dividends),
          length-append (in_table Splits splits) (in_table Mergers mergers),
          length-map splits (row Splits),
          length-map mergers (row Mergers),
          length-map dividends (row Dividends),
          length-append (of_table assets Split splits ++ of_table assets Merger mergers) (of_table assets Dividend dividends),
          length-append (of_table assets Split splits) (of_table assets Merger mergers),
          table-few Split splits,
          table-few Merger mergers,
          table-few Dividend dividends,
        )

  -- ---- revisions

  pub revisions-told : (rows : List Read) → AreRevisions days assets rows → All IsTold (map revised rows)
  revisions-told rows h = All-map IsTold revised rows (λ k d l. (let is = h.each k d l in record { day = is.date; change = (is.session, is.later, is.cell) }))

-- ---- what acts on an asset stands by day, and by kind on each day

module _ (s m d r : List Adjustment) (hs : All (λ x. x.event.kind ≡ Split) s) (hm : All (λ x. x.event.kind ≡ Merger) m) (hd : All (λ x. x.event.kind ≡ Dividend) d)
    (hr : All (λ x. x.event.kind ≡ Revision) r) where
  pub kinds-in-order : (p : Adjustment → Bool) → KindsInOrder (map (λ x. x.event) (filter p (by_day (s ++ m ++ d ++ r))))
  kinds-in-order p day =
      let told : List Adjustment = s ++ m ++ d ++ r in
      let now : List Adjustment → List Event = λ xs. map (λ (x : Adjustment). x.event) (filter p (filter (acts_at day) xs)) in
      let is : filter (on_day day) (map (λ (x : Adjustment). x.event) (filter p (by_day told))) ≡ now s ++ now m ++ now d ++ now r =
      filter-map (on_day day) (λ (x : Adjustment). x.event) (filter p (by_day told))
      ∙ ap (map (λ (x : Adjustment). x.event)) (filter-swap (acts_at day) p (by_day told)
      ∙ ap (filter p) ((by_day-is_by_day told).same day ∙ four-kept (acts_at day) s m d r)
      ∙ four-kept p (filter (acts_at day) s) (filter (acts_at day) m) (filter (acts_at day) d) (filter (acts_at day) r))
      ∙ four-mapped (λ (x : Adjustment). x.event) (filter p (filter (acts_at day) s)) (filter p (filter (acts_at day) m)) (filter p (filter (acts_at day) d)) (filter p (filter (acts_at day) r)) in
      let of_kind_now : (kind : AdjustmentKind) (xs : List Adjustment) → All (λ (x : Adjustment). x.event.kind ≡ kind) xs → All (λ (e : Event). e.kind ≡ kind) (now xs) =
      (λ kind xs h. All-map (λ (e : Event). e.kind ≡ kind) (λ (x : Adjustment). x.event) (filter p (filter (acts_at day) xs))
      (All-filter p (λ (x : Adjustment). x.event.kind ≡ kind) (filter (acts_at day) xs) (All-filter (acts_at day) (λ (x : Adjustment). x.event.kind ≡ kind) xs h))) in
      rw is (kinds-of (now s) (now m) (now d) (now r) (of_kind_now Split s hs) (of_kind_now Merger m hm) (of_kind_now Dividend d hd) (of_kind_now Revision r hr))

pub table-kinds : (assets : List AssetRow) (kind : AdjustmentKind) (rows : List RawAdjust) → All (λ x. x.event.kind ≡ kind) (of_table assets kind rows)
table-kinds assets kind rows = All-map (λ (x : Adjustment). x.event.kind ≡ kind) (adjustment_in kind) (filter (is_of assets) rows) (λ k d l. refl)

pub revised-kinds : (rows : List Read) → All (λ x. x.event.kind ≡ Revision) (map revised rows)
revised-kinds rows = All-map (λ (x : Adjustment). x.event.kind ≡ Revision) revised rows (λ k d l. refl)
