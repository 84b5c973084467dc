-- The revisions of a world read back.
use Rattle.std.proofs.Common.{◌≡◌, ℕ, zero, suc, IsTrue, ℤ, List, [], ◌∷◌, ◌++◌, append_assoc, append-nil, map, All, Some, Ok, refl, sym, ◌∙◌, ap, arith}
use Rattle.std.specs.Fmt.{decimal}
use Rattle.std.specs.List.{flat_map}
use Rattle.std.specs.Option.{ok_or}
use Rattle.std.proofs.lemmas.List.{map-append}
use Rattle.std.proofs.lemmas.List.Elements.{All-contains}
use Rattle.pl_records.specs.Reading.{Record, rows_behind}
use Rattle.pl_records.specs.Records.{csv_records}
use Rattle.pl_records.proofs.Readings.{under_ok, went_on}
use Rattle.pl_records.proofs.RuleTables.{ok_or-Ok, told_ok}
use Rattle.pl_spec.specs.Dates.{IsDay, date_text}
use Rattle.pl_spec.specs.Decimals.{cell_text}
use Rattle.pl_spec.specs.Names.{column_name}
use Rattle.pl_spec.specs.World.{World, Adjustment, Change, Event}
use Rattle.pl_spec.specs.World.Change.{Scale, Overwrite}
use Rattle.pl_spec.specs.declared.AdjustmentKind.{AdjustmentKind}
use Rattle.pl_spec.specs.declared.AdjustmentKind.TheVariants.{Split, Merger, Dividend, Revision}
use Rattle.pl_spec.specs.declared.AssetRow.{AssetRow}
use Rattle.pl_spec.specs.declared.Column.{Column}
use Rattle.pl_spec.specs.declared.Column.TheVariants.{OpenPrice, High, Low, Close, Volume}
use Rattle.pl_spec.proofs.Each.{Each}
use Rattle.pl_spec.proofs.SidsRead.{sid_in-decimal}
use Rattle.pl_calendar.specs.Days.{AreDays}
use Rattle.pl_lifetimes.specs.Assets.{AreAssets}
use Rattle.pl_bars.specs.Bars.{is_bar_cell}
use Rattle.pl_bars.proofs.ColumnTexts.{column_form}
use Rattle.pl_adjust.specs.Revised.{revised}
use Rattle.pl_adjust.specs.Revisions as rules
use Rattle.pl_adjust.specs.Revisions.{breaks, header, revision_in, revision_or_rule, revisions_of}
use Rattle.pl_adjust.specs.declared.revisions.Revision.{Revision as Read}
use Rattle.pl_parts.specs.Texts.{of_sid, revision_line, revisions_header, revisions_text, rows_in}
use Rattle.pl_pieces.specs.Held.{IsSidOf}
use Rattle.pl_pieces.specs.Tables.{AreAdjustmentsOf, IsChangeIn, IsEventIn}
use Rattle.pl_pieces.proofs.Bars.{bar-cell, cell-back}
use Rattle.pl_pieces.proofs.Columns.{small-sid}
use Rattle.pl_pieces.proofs.Csv.{IsLine, Plain, lines-under, many-line}
use Rattle.pl_pieces.proofs.Days.{text-of-day}
use Rattle.pl_pieces.proofs.Fields.{cell-plain, date-plain, date-read, sid-plain}
use Rattle.pl_pieces.proofs.TableTexts.{all-rows}

-- an adjustment that a row of a revisions file says
record IsRevised (assets : List AssetRow) (x : Adjustment) : Type 0 where
  pub kind_is : x.event.kind ≡ Revision
  pub day : IsDay x.event.day
  pub bar_day : ℤ
  pub column : Column
  pub value : ℤ
  pub change : x.event.change ≡ Overwrite bar_day column value
  pub session : IsDay bar_day
  pub cell : IsTrue (is_bar_cell value)
  pub asset : IsSidOf assets x.sid

revised-said : (days : List ℤ) → AreDays days → (assets : List AssetRow) (sid : ℕ) → IsSidOf assets sid → (e : Event) → IsEventIn days e → e.kind ≡ Revision → IsRevised assets (of_sid sid e)
revised-said days are assets sid known e h is = here e.kind e.change is refl h.change
  where
    here : (k : AdjustmentKind) (c : Change) → k ≡ Revision → e.change ≡ c → IsChangeIn days e.day k c → IsRevised assets (of_sid sid e)
    here Revision (Overwrite bar c v) s t i = record {
      kind_is = is;
      day = h.day;
      bar_day = bar;
      column = c;
      value = v;
      change = t;
      session = All-contains IsDay days bar are.dates i.0;
      cell = i.2;
      asset = known;
    }
    here Revision (Scale f) s t i = absurd i
    here Split c s t i = absurd (cc s)
    here Merger c s t i = absurd (cc s)
    here Dividend c s t i = absurd (cc s)

-- ---- records

abbrev record_of : ℕ → ℤ → Change → Record
record_of sid day (Scale f) = []
record_of sid day (Overwrite bar c v) = decimal sid ∷ date_text bar ∷ column_name c ∷ cell_text v ∷ date_text day ∷ []

abbrev fields : Adjustment → Record
fields x = record_of x.sid x.event.day x.event.change

column-plain : (c : Column) → Plain (column_name c)
column-plain OpenPrice = refl
column-plain High = refl
column-plain Low = refl
column-plain Close = refl
column-plain Volume = refl

joined : (x b c v d : List ℕ) → x ++ (44 ∷ b ++ 44 ∷ c ++ 44 ∷ v) ++ 44 ∷ d ++ 10 ∷ [] ≡ x ++ (44 ∷ (b ++ (44 ∷ (c ++ (44 ∷ (v ++ (44 ∷ (d ++ 10 ∷ []))))))))
joined x b c v d = four x (44 ∷ b ++ 44 ∷ c ++ 44 ∷ v) (44 ∷ d) (10 ∷ []) ∙ ap (λ l. x ++ l) (four (44 ∷ b) (44 ∷ c) (44 ∷ v) (44 ∷ (d ++ 10 ∷ [])))
  where
    four : (p q r s : List ℕ) → p ++ q ++ r ++ s ≡ p ++ (q ++ (r ++ s))
    four p q r s = simp append_assoc

head : IsLine revisions_header header
head = many-line _ _ _ revisions_header refl

module _ (assets : List AssetRow) (are : AreAssets assets) where
  line : (x : Adjustment) → IsRevised assets x → IsLine (revision_line x) (fields x)
  line x h =
      let small = small-sid assets are x.sid h.asset in
      rw h.change
      (many-line (decimal x.sid) (date_text h.bar_day) (column_name h.column ∷ cell_text h.value ∷ date_text x.event.day ∷ []) _
      (rw (
        sid-plain x.sid (omega arith),
        date-plain h.bar_day h.session,
        column-plain h.column,
        cell-plain h.value (bar-cell h.value h.cell),
        date-plain x.event.day h.day,
        text-of-day h.bar_day h.session,
        text-of-day x.event.day h.day,
      ) (joined (decimal x.sid) (date_text h.bar_day) (column_name h.column) (cell_text h.value) (date_text x.event.day))))

  said : (x : Adjustment) → IsRevised assets x → (y : Read) × (revision_in (fields x) ≡ Some y) × (revised y ≡ x)
  unfolding revision_in
  said x h = (
    record { sid = x.sid; bar_day = h.bar_day; column = h.column; value = h.value; known = x.event.day },
    rw (
      h.change,
      sid_in-decimal (decimal x.sid) x.sid (small-sid assets are x.sid h.asset) refl,
      date-read h.bar_day h.session,
      (column_form (column_name h.column) h.column).1 refl,
      cell-back h.value (bar-cell h.value h.cell),
      date-read x.event.day h.day,
    ) refl,
    one (sym h.kind_is) (sym h.change),
  )
    where
      one : {k : AdjustmentKind} {c : Change} → k ≡ x.event.kind → c ≡ x.event.change
          → (let e : Event = record { kind = k; day = x.event.day; change = c } in let y : Adjustment = record { sid = x.sid; event = e } in y ≡ x)
      one e f = rw (e, f) refl

  lines : (xs : List Adjustment) → Each (IsRevised assets) xs → All (λ x. IsLine (revision_line x) (fields x)) xs
  lines [] h k d l = absurd (omega arith)
  lines (x ∷ xs) h zero d l = line x h.0
  lines (x ∷ xs) h (suc k) d l = lines xs h.1 k d (omega arith)

  module _ (days : List ℤ) where
    one-row : (before : List Read) (x : Adjustment) (row : Read) → IsRevised assets x → revision_or_rule days assets before (fields x) ≡ Ok row → revised row ≡ x
    unfolding revision_or_rule
    one-row before x row h e =
        let k = told_ok rules.rules (breaks days assets before (fields x)) (ok_or (revision_in (fields x)) rules.BadField) row e in
        let at : revision_in (fields x) ≡ Some row = ok_or-Ok (revision_in (fields x)) rules.BadField row k.1 in
        let it = said x h in
        let same : row ≡ it.0 = (let both : Some row ≡ Some it.0 = sym at ∙ it.1 in cc) in
        ap revised same ∙ it.2

    rows-back : (xs : List Adjustment) → Each (IsRevised assets) xs → (before rows : List Read)
        → rows_behind 2 (revision_or_rule days assets) before (map fields xs) ≡ Ok rows → map revised rows ≡ map revised before ++ xs
    unfolding rows_behind
    rows-back [] h before rows e = let same : before ≡ rows = cc in ap (map revised) (sym same) ∙ sym (append-nil (map revised before))
    rows-back (x ∷ xs) h before rows e =
        let it = went_on 2 (revision_or_rule days assets) before (fields x) (map fields xs) rows e in
        rows-back xs h.1 (before ++ it.0 ∷ []) rows it.2
        ∙ ap (λ l. l ++ xs) (map-append revised before (it.0 ∷ []))
        ∙ append_assoc (map revised before) (revised it.0 ∷ []) xs
        ∙ ap (λ y. map revised before ++ (y ∷ xs)) (one-row before x it.0 h.0 it.1)

module _ (w : World) (days : AreDays w.days) (assets : AreAssets w.assets) (are : AreAdjustmentsOf w) where
  all-said : Each (IsRevised w.assets) (rows_in Revision w)
  all-said = all-rows w are Revision (IsRevised w.assets) (λ sid known e h is. revised-said w.days days w.assets sid known e h is)

  -- the revisions that are read of the text of a world are its own
  pub revisions-back : (rows : List Read) → revisions_of w.days w.assets (csv_records (revisions_text w)) ≡ Ok rows → map revised rows ≡ rows_in Revision w
  unfolding revisions_text revisions_of
  revisions-back rows e =
      let text : csv_records (revisions_header ++ flat_map revision_line (rows_in Revision w)) ≡ header ∷ map fields (rows_in Revision w) =
      lines-under revision_line fields revisions_header header (rows_in Revision w) head refl (lines w.assets assets (rows_in Revision w) all-said) in
      rows-back w.assets assets w.days (rows_in Revision w) all-said [] rows
      (under_ok header rules.BadHeader (revision_or_rule w.days w.assets) (header ∷ map fields (rows_in Revision w)) rows (rw text at e)).1
