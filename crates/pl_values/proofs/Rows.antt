-- A term's cells in a row, over places or over sessions: what is given, and then put away where the asset is
-- not kept; and those of a cross-section.
use Rattle.std.proofs.Common.{◌≡◌, ℕ, ◌<◌, true, ℤ, pos, List, [], length, get_or, Option, Some, slice_get, sym, ◌∙◌, ap, subst, arith, All, AllPairs, unwrap_or}
use Rattle.std.proofs.lemmas.List.{get_or_default}
use Rattle.pl_spec.specs.Rounding.{MISSING, IsCell}
use Rattle.pl_spec.specs.World.{World, label_at, known_number}
use Rattle.pl_spec.specs.declared.Figure.{Figure}
use Rattle.pl_pipeline.specs.Kind.{CrossKind}
use Rattle.pl_pipeline.specs.Kind.Kind.{Constant, Label, Number, Cross}
use Rattle.pl_pipeline.specs.Cross.{array_at}
use Rattle.pl_pipeline.specs.Term.{Node, term_at}
use Rattle.pl_pipeline.specs.Term.Input.{TermInput}
use Rattle.pl_pipeline.specs.Value.{sort_kind}
use Rattle.pl_pipeline.specs.Table.{Pipeline}
use Rattle.pl_pipeline.proofs.Cells.{chosen-cell, empty-cell}
use Rattle.pl_pointwise.specs.Operands.{IsOperation, AreOperands, operation}
use Rattle.pl_cross.specs.Arrays.{sid_in, section_at, HasTexts}
use Rattle.pl_cross.specs.Section.{is_section, HasParameters}
use Rattle.pl_values.specs.Arrays.{cell_of, empty_cell, is_kept, chosen, HasAll, Fills, IsKeep}
use Rattle.pl_values.specs.Families.{is_sids, is_point, is_label_test, sid_flag, label_code, IsCode, code_flag}
use Rattle.pl_values.specs.Inputs.{IsEntryRow, AreEntries, IsInputRow, IsGroupRow, AreSectionRows}
use Rattle.pl_values.specs.Laws.{IsNode, IsGiven, IsGivenCell}
use Rattle.pl_values.proofs.Plain.{constant-cell, sid-cell, label-below, label-cell, number-below, number-cell, label-test-cell, label-input}
use Rattle.pl_values.proofs.Operations.{entries-asked, entry-given, fills-all}
use Rattle.pl_values.proofs.Crosses.{section-cell, section-input}
use Rattle.pl_values.proofs.KindFamilies.{sids_kind, sid_flag_cell, point_kind, label_test_kind, code_flag_cell, section_kind}

-- the empty value of a term
pub none-cell : (p : Pipeline) (k : ℕ) → IsCell (empty_cell p k)
none-cell p k = empty-cell (sort_kind (term_at p.graph k))

-- a cell that is said otherwise
pub given-by : (w : World) (p : Pipeline) (sids : List ℕ) (k : ℕ) (n : Node) (i s : ℕ) (x y : ℤ) → y ≡ x → IsGiven w p sids k n i s x → IsCell x → IsGivenCell w p sids k n i s y
given-by w p sids k n i s x y e given cell = record { given = subst (IsGiven w p sids k n i s) (sym e) given; cell = subst IsCell (sym e) cell }

-- a label's name, and that of a number, is one of the pipeline's
pub label-known : (p : Pipeline) (k : ℕ) (n : Node) → IsNode p k n → (number : ℕ) → n.kind ≡ Label number → number < length p.names
label-known p k n own number e = label-below n.kind n.window (length p.names) number e (own.checked.nodes k n own.node).parameters

pub number-known : (p : Pipeline) (k : ℕ) (n : Node) → IsNode p k n → (f : Figure) (number : ℕ) → n.kind ≡ Number f number → number < length p.names
number-known p k n own f number e = number-below n.kind n.window (length p.names) f number e (own.checked.nodes k n own.node).parameters

module _ (w : World) (p : Pipeline) (sids : List ℕ) (k : ℕ) (n : Node) (own : IsNode p k n) (i s : ℕ) (x : ℤ) where
  pub constant-given : (value : ℤ) → n.kind ≡ Constant value → x ≡ value → IsGivenCell w p sids k n i s x
  constant-given value e same = let c = constant-cell w p sids k n i s own value e in given-by w p sids k n i s value x same c.1 c.0

  pub sid-given : is_sids n.kind ≡ true → x ≡ sid_flag n.kind (sid_in sids i) → IsGivenCell w p sids k n i s x
  sid-given e same =
      let f = sids_kind n.kind e in
      given-by w p sids k n i s _ x same (sid-cell w p sids k n i s own f.0 f.1) (sid_flag_cell n.kind (sid_in sids i) e)

  pub label-given : (number : ℕ) (name : List ℕ) → n.kind ≡ Label number → slice_get p.names number ≡ Some name → x ≡ label_code w.texts (label_at w name (sid_in sids i) (pos s)) → IsCell x
      → IsGivenCell w p sids k n i s x
  label-given number name e named same cell = record {
    given = subst (IsGiven w p sids k n i s) (ap (λ m. label_code w.texts (label_at w m (sid_in sids i) (pos s))) (ap (λ o. unwrap_or o []) named) ∙ sym same)
        (label-cell w p sids k n i s own number e).1;
    cell = cell;
  }

  pub number-given : (f : Figure) (number : ℕ) (name : List ℕ) → n.kind ≡ Number f number → slice_get p.names number ≡ Some name → x ≡ known_number w f name (sid_in sids i) (pos s) → IsCell x
      → IsGivenCell w p sids k n i s x
  number-given f number name e named same cell = record {
    given = subst (IsGiven w p sids k n i s) (ap (λ m. known_number w f m (sid_in sids i) (pos s)) (ap (λ o. unwrap_or o []) named) ∙ sym same) (number-cell w p sids k n i s own f number e).1;
    cell = cell;
  }

-- ---- rows of entries: entry j is for the asset in place (place j) on session (on j)

-- an operation
module _ (w : World) (p : Pipeline) (sids : List ℕ) (k : ℕ) (n : Node) (own : IsNode p k n) (place on : ℕ → ℕ) (size : ℕ) (a b c : List ℤ) (rows : AreEntries w p sids n place on size a b c)
    (e : is_point n.kind ≡ true) where
  pub point-asks : IsOperation n.kind × AreOperands n.kind a b c size
  point-asks = let f = point_kind n.kind e in entries-asked w p sids k n own f.0 f.1 place on size a b c rows

  pub point-given : (j : ℕ) (x : ℤ) → j < size → x ≡ operation n.kind (get_or a j (pos 0)) (get_or b j (pos 0)) (get_or c j (pos 0)) → IsCell x → IsGivenCell w p sids k n (place j) (on j) x
  point-given j x h same cell =
      let f = point_kind n.kind e in
      record { given = subst (IsGiven w p sids k n (place j) (on j)) (sym same) (entry-given w p sids k n own f.0 f.1 place on size a b c rows j h); cell = cell }

-- a test of labels, by their codes
module _ (w : World) (p : Pipeline) (sids : List ℕ) (k : ℕ) (n : Node) (own : IsNode p k n) (place on : ℕ → ℕ) (size : ℕ) (codes : List ℤ)
    (read : IsEntryRow w p sids place on size (slice_get n.inputs 0) codes)
    (e : is_label_test n.kind ≡ true) (coded : HasTexts w) (texts : List (List ℕ)) (told : w.texts ≡ texts) where
  tested : (u : ℕ) × (slice_get n.inputs 0 ≡ Some (TermInput u)) × (Fills (λ j. cell_of w p sids u (place j) (on j)) size codes)
  tested =
      let f = label_test_kind n.kind e in
      let x = label-input p own.checked k n own.node f.0 f.1 in
      (x.0, x.1, subst (λ o. IsEntryRow w p sids place on size o codes) x.1 read)

  pub codes-long : length codes ≡ size
  codes-long = tested.2.long

  code-law : (j : ℕ) → j < size → IsCode texts (get_or codes j (pos 0)) × IsGiven w p sids k n (place j) (on j) (code_flag texts n.kind (get_or codes j (pos 0)))
  code-law j h =
      let f = label_test_kind n.kind e in
      let law = label-test-cell w p sids k n (place j) (on j) own f.0 tested.0 coded f.1 tested.1 in
      subst (λ x. IsCode texts x × IsGiven w p sids k n (place j) (on j) (code_flag texts n.kind x)) (sym (tested.2.each j h))
      (subst (λ ts. IsCode ts (cell_of w p sids tested.0 (place j) (on j)) × IsGiven w p sids k n (place j) (on j) (code_flag ts n.kind (cell_of w p sids tested.0 (place j) (on j)))) told law)

  pub code-read : (j : ℕ) → j < size → IsCode texts (get_or codes j (pos 0))
  code-read j h = (code-law j h).0

  pub test-given : (j : ℕ) (x : ℤ) → j < size → x ≡ code_flag texts n.kind (get_or codes j (pos 0)) → IsGivenCell w p sids k n (place j) (on j) x
  test-given j x h same = given-by w p sids k n (place j) (on j) _ x same (code-law j h).1 (code_flag_cell texts n.kind (get_or codes j (pos 0)) e)

-- what is given in a row, and the empty value where the asset is not kept; entry j is of a place and a session
module _ (w : World) (p : Pipeline) (sids : List ℕ) (k : ℕ) (n : Node) (place on : ℕ → ℕ) (size : ℕ) (made : ℕ → ℤ) (out : List ℤ) (none : ℤ) (empty : none ≡ empty_cell p k)
    (kept : (j : ℕ) → j < size → get_or out j (pos 0) ≡ chosen (is_kept w p sids n.mask (place j) (on j)) (made j) none) (long : length out ≡ size) where
  pub shown-cells : ((j : ℕ) → j < size → IsGiven w p sids k n (place j) (on j) (made j)) → ((j : ℕ) → j < size → IsCell (get_or out j (pos 0)))
      → Fills (λ j. cell_of w p sids k (place j) (on j)) size out
  shown-cells given cells = record { long = long; each = cell-is; cell = λ j h. subst IsCell (cell-is j h) (cells j h) }
    where
      cell-is : (j : ℕ) → j < size → get_or out j (pos 0) ≡ cell_of w p sids k (place j) (on j)
      cell-is j h = kept j h ∙ ap (chosen (is_kept w p sids n.mask (place j) (on j)) (made j)) empty ∙ sym (given j h)

  pub kept-cells : ((j : ℕ) → j < size → IsGivenCell w p sids k n (place j) (on j) (made j)) → Fills (λ j. cell_of w p sids k (place j) (on j)) size out
  kept-cells given = shown-cells (λ j h. (given j h).given)
      (λ j h. subst IsCell (sym (kept j h)) (chosen-cell (is_kept w p sids n.mask (place j) (on j)) (made j) none (given j h).cell (subst IsCell (sym empty) (none-cell p k))))

-- ---- cross-sections

-- the rows of a node's cross-section on session s, for the assets in size places
pub record IsSection (w : World) (p : Pipeline) (sids : List ℕ) (k : ℕ) (n : Node) (s size : ℕ) (xs ks : List ℤ) (ls : Option (List ℤ)) : Type 0 where
  pub node : IsNode p k n
  pub kind : is_section n.kind ≡ true
  pub texts : HasTexts w
  pub long : length sids ≡ size
  pub ascend : AllPairs (λ a b. a < b) sids
  pub all : HasAll w sids s
  pub values : IsInputRow w p sids size (slice_get n.inputs 0) s xs
  pub keep : IsKeep (λ i. is_kept w p sids n.mask i s) size ks
  pub groups : IsGroupRow w p sids n.group s ls

module _ (w : World) (p : Pipeline) (sids : List ℕ) (k : ℕ) (n : Node) (s size : ℕ) (values keep : List ℤ) (labels : Option (List ℤ)) (is : IsSection w p sids k n s size values keep labels) where
  abbrev f : CrossKind
  f = (section_kind n.kind is.kind).0

  kind-is : n.kind ≡ Cross f
  kind-is = (section_kind n.kind is.kind).1

  section-rows : AreSectionRows w p sids n s values keep labels
  section-rows = record {
    ascend = is.ascend;
    all = is.all;
    values = subst (λ m. IsInputRow w p sids m (slice_get n.inputs 0) s values) (sym is.long) is.values;
    keep = subst (λ m. IsKeep (λ i. is_kept w p sids n.mask i s) m keep) (sym is.long) is.keep;
    groups = is.groups;
  }

  section-row : (t : ℕ) × Fills (λ i. cell_of w p sids t i s) size values
  section-row =
      let x = section-input w p sids is.node.checked k n is.node.node f kind-is in
      (x.0, subst (λ o. IsInputRow w p sids size o s values) x.1 is.values)

  pub section-long : length values ≡ size
  section-long = section-row.1.long

  pub section-right : HasParameters n.kind
  section-right = subst HasParameters (sym kind-is) (section-cell w p sids k n 0 s is.node f values keep labels is.texts kind-is section-rows).0

  pub section-cells : All IsCell values
  section-cells = fills-all IsCell (λ i. cell_of w p sids section-row.0 i s) size values section-row.1 section-row.1.cell

  pub section-out : (out : List ℤ) → length out ≡ size → ((g : CrossKind) → n.kind ≡ Cross g → (i : ℕ) → i < size → array_at out i ≡ section_at g values keep labels i) → All IsCell out
      → Fills (λ i. cell_of w p sids k i s) size out
  section-out out long each cells = record {
    long = long;
    each = λ i h. is-cell i h;
    cell = λ i h. subst IsCell (is-cell i h) (cells i (pos 0) (omega (arith, h, long)));
  }
    where
      is-cell : (i : ℕ) → i < size → get_or out i (pos 0) ≡ cell_of w p sids k i s
      is-cell i h =
          let r = section-cell w p sids k n i s is.node f values keep labels is.texts kind-is section-rows in
          get_or_default out i (pos 0) MISSING (omega (arith, h, long)) ∙ each f kind-is i h ∙ sym (r.1 (omega (arith, h, is.long)))
