-- The fields of a record, in plain words.
use Rattle.std.proofs.Common.{◌≡◌, ◌↔◌, ℕ, zero, suc, ◌+◌, ◌==◌, ◌≤◌, ◌&&◌, not, nat_le, IsTrue, Bool, true, false, List, [], ◌∷◌, length, get_or, All, Some, None, Ok, Err, refl, ap, subst, sym, ◌∙◌, ℤ, pos, ◌<ℤ◌, arith, inl, inr, eq-eqb, eqb-true}
use Rattle.std.specs.List.{list_any, slice_get}
use Rattle.std.specs.Int.RustNames.{int_lt, int_le, unsigned_abs}
use Rattle.std.proofs.lemmas.Int.{ints}
use Rattle.std.proofs.lemmas.Bool.Decides.{nat_tests}
use Rattle.std.proofs.lemmas.Option.{slice_get-get_or}
use Rattle.pl_records.specs.Reading.{Record, field}
use Rattle.pl_records.proofs.RuleTables.{not_true, result_ok-Ok, when_some, and_then_some, map_some}
use Rattle.pl_records.proofs.Sorts.{none-at}
use Rattle.pl_spec.specs.Rounding.{MISSING, LIMIT, is_missing}
use Rattle.pl_spec.specs.Dates.{date_in}
use Rattle.pl_spec.specs.Decimals.{sid_in}
use Rattle.pl_spec.proofs.DatesRead.{date_in-IsDate, IsDate-date_in}
use Rattle.pl_fixed.specs.declared.decimal.DecimalFault.TheVariants.{Empty}
use Rattle.pl_fixed.specs.Reading.{read}
use Rattle.pl_spec.proofs.SidsRead.{sid_in-decimal, decimal-sid_in}
use Rattle.pl_fixed.proofs.ReadingLemmas.{read-empty, read-value}
use Rattle.pl_bars.specs.declared.fields.Fields.{Fields}
use Rattle.pl_bars.specs.Bars.{cell_in, cells_in, fields_in, is_negative, is_bar_cell}
use Rattle.pl_bars.specs.Rules.{IsCellText, IsBarRecord, IsNegative}

-- ---- a cell

not_empty : (c : ℕ) (cs : List ℕ) → (length (c ∷ cs) == 0) ≡ false
not_empty c cs = grind (arith, nat_tests)

pub IsCellText-cell_in : (text : List ℕ) (v : ℤ) → cell_in text ≡ Some v → IsCellText text v
unfolding cell_in
IsCellText-cell_in [] v e = inl (refl, (let same : Some MISSING ≡ Some v = e in cc))
IsCellText-cell_in (c ∷ cs) v e = inr ((read-value (c ∷ cs) v).0 (result_ok-Ok (read (c ∷ cs)) v (rw (not_empty c cs) at e)))

pub cell_in-IsCellText : (text : List ℕ) (v : ℤ) → IsCellText text v → cell_in text ≡ Some v
unfolding cell_in
cell_in-IsCellText [] v (inl h) = ap Some (sym h.1)
cell_in-IsCellText [] v (inr h) =
    let value : read [] ≡ Ok v = (read-value [] v).1 h in
    let empty : read [] ≡ Err Empty = (read-empty []).1 refl in
    absurd (let bad : Err Empty ≡ Ok v = sym empty ∙ value in cc)
cell_in-IsCellText (c ∷ cs) v (inl h) = absurd (let bad : c ∷ cs ≡ [] = h.0 in cc)
cell_in-IsCellText (c ∷ cs) v (inr h) = rw (not_empty c cs, (read-value (c ∷ cs) v).1 h) refl

missing-is : (v : ℤ) → v ≡ MISSING → is_missing v ≡ true
missing-is v e = rw e refl

small-is : (v : ℤ) → int_lt v (pos 0) ≡ false → unsigned_abs v ≤ LIMIT → (int_le (pos 0) v && nat_le (unsigned_abs v) LIMIT) ≡ true
small-is v t h =
    let a : int_le (pos 0) v ≡ true = grind (arith, ints) in
    let b : nat_le (unsigned_abs v) LIMIT ≡ true = grind (arith, nat_tests) in rw (a, b) refl

-- a text's cell that is not below 0
pub IsCellText-bar_cell : (text : List ℕ) (v : ℤ) → IsCellText text v → is_negative v ≡ false → IsTrue (is_bar_cell v)
IsCellText-bar_cell text v h t = here (is_missing v) refl
  where
    at_least : is_missing v ≡ false → int_lt v (pos 0) ≡ false
    at_least m = not_true _ (λ u. let bad : true ≡ false = rw (u, m) at t in cc)

    small : is_missing v ≡ false → IsCellText text v → unsigned_abs v ≤ LIMIT
    small m (inl e) = absurd (let bad : true ≡ false = sym (missing-is v e.1) ∙ m in cc)
    small m (inr d) = d.2.1

    here : (b : Bool) → is_missing v ≡ b → IsTrue (is_bar_cell v)
    here true m = rw m refl
    here false m = rw (m, small-is v (at_least m) (small m h)) refl

-- ---- five cells

-- the cells are those of the texts from the third on
pub record AreCellTexts (r : Record) (cells : List ℤ) : Type 0 where
  pub five : length cells ≡ 5
  pub each : (k : ℕ) (v : ℤ) → slice_get cells k ≡ Some v → IsCellText (field r (k + 2)) v

one_of : (text : List ℕ) (x v : ℤ) → cell_in text ≡ Some x → Some x ≡ Some v → IsCellText text v
one_of text x v e s = IsCellText-cell_in text v (e ∙ s)

five_texts : (r : Record) (a b c d f : ℤ) → cell_in (field r 2) ≡ Some a → cell_in (field r 3) ≡ Some b → cell_in (field r 4) ≡ Some c → cell_in (field r 5) ≡ Some d → cell_in (field r 6) ≡ Some f
    → AreCellTexts r (a ∷ b ∷ c ∷ d ∷ f ∷ [])
five_texts r a b c d f p q s t u = record { five = refl; each = each }
  where
    each : (k : ℕ) (v : ℤ) → slice_get (a ∷ b ∷ c ∷ d ∷ f ∷ []) k ≡ Some v → IsCellText (field r (k + 2)) v
    each zero v e = one_of (field r 2) a v p e
    each (suc zero) v e = one_of (field r 3) b v q e
    each (suc (suc zero)) v e = one_of (field r 4) c v s e
    each (suc (suc (suc zero))) v e = one_of (field r 5) d v t e
    each (suc (suc (suc (suc zero)))) v e = one_of (field r 6) f v u e
    each (suc (suc (suc (suc (suc k))))) v e = absurd (let bad : None ≡ Some v = e in cc)

AreCellTexts-cells_in : (r : Record) (cells : List ℤ) → cells_in r ≡ Some cells → AreCellTexts r cells
AreCellTexts-cells_in r cells e =
    let a = and_then_some (cell_in (field r 2)) _ cells e in
    let b = and_then_some (cell_in (field r 3)) _ cells a.2 in
    let c = and_then_some (cell_in (field r 4)) _ cells b.2 in
    let d = and_then_some (cell_in (field r 5)) _ cells c.2 in
    let f = map_some (cell_in (field r 6)) (λ x. a.0 ∷ b.0 ∷ c.0 ∷ d.0 ∷ x ∷ []) cells d.2 in
    subst (AreCellTexts r) f.2 (five_texts r a.0 b.0 c.0 d.0 f.0 a.1 b.1 c.1 d.1 f.1)

cells_in-AreCellTexts : (r : Record) (cells : List ℤ) → length cells ≡ 5 → ((k : ℕ) (v : ℤ) → slice_get cells k ≡ Some v → IsCellText (field r (k + 2)) v) → cells_in r ≡ Some cells
cells_in-AreCellTexts r (a ∷ b ∷ c ∷ d ∷ f ∷ []) n h =
    rw (
      cell_in-IsCellText (field r 2) a (h 0 a refl),
      cell_in-IsCellText (field r 3) b (h 1 b refl),
      cell_in-IsCellText (field r 4) c (h 2 c refl),
      cell_in-IsCellText (field r 5) d (h 3 d refl),
      cell_in-IsCellText (field r 6) f (h 4 f refl),
    ) refl
cells_in-AreCellTexts r [] n h = absurd (omega arith)
cells_in-AreCellTexts r (a ∷ []) n h = absurd (omega arith)
cells_in-AreCellTexts r (a ∷ b ∷ []) n h = absurd (omega arith)
cells_in-AreCellTexts r (a ∷ b ∷ c ∷ []) n h = absurd (omega arith)
cells_in-AreCellTexts r (a ∷ b ∷ c ∷ d ∷ []) n h = absurd (omega arith)
cells_in-AreCellTexts r (a ∷ b ∷ c ∷ d ∷ e ∷ f ∷ rest) n h = absurd (omega arith)

-- ---- all fields

pub fields_form : (r : Record) (f : Fields) → (fields_in r ≡ Some f) ↔ IsBarRecord r f
unfolding fields_in
fields_form r f = (
  there,
  λ h. rw (
    eq-eqb (length r) 7 h.seven,
    sid_in-decimal (field r 0) f.sid h.small h.sid,
    date_in-IsDate (field r 1) f.day h.day,
    cells_in-AreCellTexts r f.cells h.five h.cells,
  ) refl,
)
  where
    there : fields_in r ≡ Some f → IsBarRecord r f
    there e =
        let it = when_some (length r == 7) _ f e in
        let s = and_then_some (sid_in (field r 0)) _ f it.1 in
        let d = and_then_some (date_in (field r 1)) _ f s.2 in
        let c = map_some (cells_in r) (λ cells. record { sid = s.0; day = d.0; cells = cells }) f d.2 in
        let n = decimal-sid_in (field r 0) s.0 s.1 in
        let texts = AreCellTexts-cells_in r c.0 c.1 in
        rw (← c.2) record {
          seven = eqb-true (length r) 7 it.0;
          small = n.0;
          sid = n.1;
          day = IsDate-date_in (field r 1) d.0 d.1;
          five = texts.five;
          cells = texts.each;
        }

-- cells that are read, and not below 0
pub fields-cells : (r : Record) (f : Fields) → fields_in r ≡ Some f → list_any is_negative f.cells ≡ false → All (λ v. IsTrue (is_bar_cell v)) f.cells
fields-cells r f e t k d h =
    let it = (fields_form r f).0 e in
    let text = it.cells k (get_or f.cells k d) (slice_get-get_or f.cells k d h) in
    IsCellText-bar_cell (field r (k + 2)) (get_or f.cells k d) text (none-at is_negative f.cells t k d h)

-- ---- cells below 0

pub IsNegative-test : (v : ℤ) → is_negative v ≡ true → IsNegative v
IsNegative-test v t = here (is_missing v) refl
  where
    below : int_lt v (pos 0) ≡ true → v <ℤ pos 0
    below u = grind (arith, ints)

    first : (a b : Bool) → (a && b) ≡ true → a ≡ true
    first true b e = refl
    first false b e = absurd (let bad : false ≡ true = e in cc)

    here : (b : Bool) → is_missing v ≡ b → IsNegative v
    here true m = absurd (let bad : false ≡ true = sym (none (int_lt v (pos 0)) (is_missing v) m) ∙ t in cc)
      where
        none : (a b : Bool) → b ≡ true → (a && not b) ≡ false
        none true b e = rw e refl
        none false b e = refl
    here false m =
        (λ e. absurd (let bad : true ≡ false = sym (missing-is v e) ∙ m in cc), below (first (int_lt v (pos 0)) (not (is_missing v)) t))

pub is_negative-test : (v : ℤ) → IsNegative v → is_negative v ≡ true
is_negative-test v h = rw (below h.1, not_true (is_missing v) (λ m. h.0 (value m))) refl
  where
    below : v <ℤ pos 0 → int_lt v (pos 0) ≡ true
    below l = grind (arith, ints)

    value : is_missing v ≡ true → v ≡ MISSING
    value m = grind (arith, ints)
