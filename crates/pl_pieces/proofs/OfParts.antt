-- The world of parts that were read: files can hold it.
use Rattle.std.proofs.Common.{◌≡◌, ◌⊎◌, ℕ, ◌<◌, ◌==◌, IsTrue, true, false, ℤ, pos, List, [], ◌∷◌, map, length, get_or, All, AllPairs, Some, option_map, refl, sym, subst, ◌∙◌, ap, arith, inl, inr, eqb-true, nat_lt}
use Rattle.std.specs.List.{slice_index_or}
use Rattle.std.proofs.lemmas.Bool.{and_parts, cases_lt, or_cases, true≢false}
use Rattle.std.proofs.lemmas.Bool.Decides.{nat_tests}
use Rattle.std.proofs.lemmas.List.{get_or_past, length-map}
use Rattle.std.proofs.lemmas.List.Elements.{All-cons, All-map, All-nil}
use Rattle.std.proofs.lemmas.Option.{slice_get-get_or}
use Rattle.pl_spec.specs.Dates.{IsDay}
use Rattle.pl_spec.specs.Names.{is_name}
use Rattle.pl_spec.specs.Parts.{ColumnLabel, ColumnNumber, bar_of, label_of, number_of, sid_at}
use Rattle.pl_spec.specs.World.{World}
use Rattle.pl_spec.specs.declared.AssetRow.{AssetRow}
use Rattle.pl_spec.specs.declared.BarRow.{BarRow}
use Rattle.pl_spec.proofs.Columns.{no_asset, sid_at-row}
use Rattle.pl_lifetimes.specs.Assets.{sid_of}
use Rattle.pl_lifetimes.proofs.Columns.{one_col}
use Rattle.pl_assets.proofs.LabelKeys as label_keys
use Rattle.pl_assets.proofs.LabelsRead as labels_read
use Rattle.pl_assets.specs.Labels.{is_from}
use Rattle.pl_bars.specs.Bars.{AreBars, is_bar_cell, is_before}
use Rattle.pl_bars.proofs.BarsRead.{AreInside}
use Rattle.pl_numbers.specs.Numbers as number_tables
use Rattle.pl_numbers.proofs.NumberKeys as number_keys
use Rattle.pl_numbers.proofs.NumbersRead as numbers_read
use Rattle.pl_pieces.specs.Held.{AreBarsOf, AreLabelsOf, AreNumbersOf, IsBarIn, IsBefore, IsLabelIn, IsNumberIn, IsSidOf, KnownApart, StartApart}
use Rattle.pl_pieces.proofs.Rows.{pairs-map}

-- a cell of a bar, or 0 where it has none
cell-or-zero : (P : ℤ → Type 0) (cells : List ℤ) (k : ℕ) → P (pos 0) → All P cells → P (slice_index_or cells k (pos 0))
cell-or-zero P cells k zero_is h = elim (cases_lt k (length cells)) [
  | inl l ↦ h k (pos 0) l
  | inr past ↦ rw (get_or_past cells k (pos 0) past) zero_is
]

five-cells : (P : ℤ → Type 0) (a b c d e : ℤ) → P a → P b → P c → P d → P e → All P (a ∷ b ∷ c ∷ d ∷ e ∷ [])
five-cells P a b c d e p q r s t =
    All-cons P a (b ∷ c ∷ d ∷ e ∷ []) p (All-cons P b (c ∷ d ∷ e ∷ []) q (All-cons P c (d ∷ e ∷ []) r (All-cons P d (e ∷ []) s (All-cons P e [] t (All-nil P)))))

module _ (days : List ℤ) (assets : List AssetRow) (up : AllPairs (λ a b. a.sid < b.sid) assets) where
  pub has-col : (col : ℕ) → col < length assets → IsSidOf assets (sid_at assets col)
  has-col col h = (col, ap (option_map sid_of) (slice_get-get_or assets col no_asset h) ∙ ap Some (sym (sid_at-row assets col no_asset h)))

  sids-rise : (a b : ℕ) → a < b → b < length assets → sid_at assets a < sid_at assets b
  sids-rise a b l h =
      let less : (get_or assets a no_asset).sid < (get_or assets b no_asset).sid = up a b no_asset l h in
      rw (sid_at-row assets a no_asset (omega arith), sid_at-row assets b no_asset h) less

  -- ---- bars

  module _ (bars : List BarRow) (inside : AreInside days assets bars) (are : AreBars bars) where
    place-before : (a b : BarRow) → is_before b.col b.session a ≡ true → (a.col < b.col) ⊎ ((a.col ≡ b.col) × (a.session < b.session))
    place-before a b t = elim (or_cases (nat_lt a.col b.col) _ t) [
      | inl l ↦ inl (grind (arith, nat_tests))
      | inr e ↦ (let parts = and_parts (a.col == b.col) (nat_lt a.session b.session) e in inr (eqb-true a.col b.col parts.0, later a.session b.session parts.1))
    ]
      where
        later : (x y : ℕ) → nat_lt x y ≡ true → x < y
        later x y s = grind (arith, nat_tests)

    bar-before : (a b : BarRow) → b.col < length assets → is_before b.col b.session a ≡ true → IsBefore (bar_of assets a) (bar_of assets b)
    bar-before a b h t = elim (place-before a b t) [
      | inl l ↦ inl (sids-rise a.col b.col l h)
      | inr e ↦ inr (ap (sid_at assets) e.0, e.1)
    ]

    bar-in : (w : World) → w.days ≡ days → w.assets ≡ assets → (b : BarRow) → b.col < length assets → b.session < length days → All (λ v. IsTrue (is_bar_cell v)) b.cells → IsBarIn w (bar_of assets b)
    bar-in w d a b h l cells =
        let P : ℤ → Type 0 = λ v. IsTrue (is_bar_cell v) in
        let at : (k : ℕ) → P (slice_index_or b.cells k (pos 0)) = (λ k. cell-or-zero P b.cells k refl cells) in
        record { asset = rw a (has-col b.col h); session = rw d l; cells = five-cells P _ _ _ _ _ (at 0) (at 1) (at 2) (at 3) (at 4) }

    pub bars-hold : (w : World) → w.days ≡ days → w.assets ≡ assets → w.bars ≡ map (bar_of assets) bars → AreBarsOf w
    bars-hold w d a e = record {
      each = subst (All (IsBarIn w)) (sym e) (All-map (IsBarIn w) (bar_of assets) bars (λ k x l. bar-in w d a (get_or bars k x) (inside.cols k x l) (inside.sessions k x l) (are.cells k x l)));
      ascend = rw e (pairs-map IsBefore (bar_of assets) bars (λ i j x m l. bar-before (get_or bars i x) (get_or bars j x) (inside.cols j x l) (are.ascend i j x m l)));
      few = rw e (omega (arith, length-map bars (bar_of assets), are.few));
    }

  -- ---- labels

  module _ (rows : List ColumnLabel) (are : labels_read.AreRead assets rows) (starts : All (λ r. IsDay r.start) rows) where
    label-in : (k : ℕ) (x : ColumnLabel) → k < length rows → IsLabelIn assets (label_of assets (get_or rows k x))
    label-in k x l =
        let right = are.right k x l in
        record { name = right.name; asset = has-col (get_or rows k x).col (are.cols k x l); start = starts k x l; printable = right.printable; short = right.short }

    apart : (r q : ColumnLabel) → r.col < length assets → q.col < length assets → is_from r.name r.col r.start q ≡ false → StartApart (label_of assets r) (label_of assets q)
    apart r q h l none name sid start =
        true≢false (sym (label_keys.parts_from r.name r.col r.start q (sym name) (sym (one_col assets up r.col q.col h l sid)) (sym start)) ∙ none)

    pub labels-hold : (w : World) → w.assets ≡ assets → w.labels ≡ map (label_of assets) rows → AreLabelsOf w
    labels-hold w a e = record {
      each = rw (a, e) (All-map (IsLabelIn assets) (label_of assets) rows label-in);
      once = rw e (pairs-map StartApart (label_of assets) rows (λ i j x m l. apart (get_or rows i x) (get_or rows j x) (are.cols i x (omega arith)) (are.cols j x l) (are.once i j x m l)));
      few = rw e (omega (arith, length-map rows (label_of assets), are.few));
    }

  -- ---- numbers

  module _ (rows : List ColumnNumber) (are : numbers_read.AreRead assets rows) (right : All (λ r. IsTrue (is_name r.name)) rows) where
    number-in : All (λ r. IsNumberIn assets (number_of assets r)) rows
    number-in k x l = record {
      name = right k x l;
      asset = has-col (get_or rows k x).col (are.cols k x l);
      known = are.days k x l;
      value = are.cells k x l;
    }

    abbrev Apart : ColumnNumber → ColumnNumber → Type 0
    Apart r q = KnownApart (number_of assets r) (number_of assets q)

    number-apart : (r q : ColumnNumber) → r.col < length assets → q.col < length assets → number_tables.is_from r.name r.col r.known q ≡ false → Apart r q
    number-apart r q h l none name sid known =
        true≢false (sym (number_keys.parts_from r.name r.col r.known q (sym name) (sym (one_col assets up r.col q.col h l sid)) (sym known)) ∙ none)

    pub numbers-hold : (w : World) → w.assets ≡ assets → w.numbers ≡ map (number_of assets) rows → AreNumbersOf w
    numbers-hold w a e = record {
      each = rw (a, e) (All-map (IsNumberIn assets) (number_of assets) rows number-in);
      once = rw e (pairs-map KnownApart (number_of assets) rows (λ i j x m l. number-apart (get_or rows i x) (get_or rows j x) (are.cols i x (omega arith)) (are.cols j x l) (are.once i j x m l)));
      few = rw e (omega (arith, length-map rows (number_of assets), are.few));
    }
