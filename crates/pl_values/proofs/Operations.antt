-- Operations on the values of one place.
use Rattle.std.proofs.Common.{◌≡◌, ℕ, zero, suc, ◌<◌, ◌≤◌, Bool, true, false, ◌&&◌, if◌then◌else◌, ℤ, pos, List, [], ◌∷◌, Option, Some, None, length, refl, sym, ◌∙◌, ap, arith, slice_get, get_or, nat_lt, All, subst, inr, unsigned_abs}
use Rattle.std.specs.Int.RustNames.{int_le}
use Rattle.std.proofs.lemmas.Bool.Decides.{nat_tests}
use Rattle.std.proofs.lemmas.Bool.{and_parts, and_from}
use Rattle.std.specs.List.{list_all}
use Rattle.std.proofs.lemmas.List.{get_or_default}
use Rattle.pl_spec.specs.Rounding.{MISSING, LIMIT, IsCell}
use Rattle.pl_spec.specs.World.{World}
use Rattle.pl_pipeline.specs.Kind.{Kind, PointKind}
use Rattle.pl_pipeline.specs.Kind.Kind.{Point}
use Rattle.pl_pipeline.specs.Kind.PointKind.{Add, Clip, IsNull, NotNull}
use Rattle.pl_pipeline.specs.Pointwise.{pointwise}
use Rattle.pl_pipeline.specs.Term.{Node, Input}
use Rattle.pl_pipeline.specs.Term.Input.{BarColumn, TermInput}
use Rattle.pl_pipeline.specs.Value.{Value, value_of_part, number_of, kind_value}
use Rattle.pl_pipeline.specs.Value.Value.{Number, Text}
use Rattle.pl_pipeline.specs.NodeValue.{input_part}
use Rattle.pl_pipeline.specs.Table.{Pipeline, value_of, in_array}
use Rattle.pl_terms.specs.Checked.{IsChecked}
use Rattle.pl_terms.specs.declared.row.Sort.TheVariants.{Factors, Filters, Numbers}
use Rattle.pl_terms.specs.declared.row.Sort.{Sort}
use Rattle.pl_terms.specs.Sorts.{Place, AnyTerm, Series, Factor, Filter, FactorOrClassifier, Classifier, LabelClassifier, NumberedClassifier, sort_at, places, point_places, fits, all_fit, takes_sort, has_parameters, is_limited, is_windowed}
use Rattle.pl_lanes.specs.Flags.{IsFlag}
use Rattle.pl_pointwise.specs.Operands.{IsOperation, HasCells, AreOperands, AreOperandsOf, AreCells, AreFlags, ArePlaced, operation}
use Rattle.pl_cross.specs.Arrays.{sid_in}
use Rattle.pl_values.specs.Arrays.{cell_of, Fills}
use Rattle.pl_values.specs.Inputs.{IsEntryRow, AreEntries}
use Rattle.pl_values.specs.Laws.{IsNode, IsGiven, PointCells, PointOperands}
use Rattle.pl_values.proofs.Typed.{has-input, filter-sort, no_column, no-takes, points-free}
use Rattle.pl_values.proofs.Downsampled.{plain-reads}
use Rattle.pl_values.proofs.Numbers.{plain_sort, plain-number}
use Rattle.pl_values.proofs.Cells.{gated, cell-number}
use Rattle.pl_values.proofs.Flags.{filter-cell}

-- ---- what a place of an operation takes: a filter, a number, or a value that is only asked whether it is
-- present
abbrev pub is_asked : PointKind → Bool
is_asked IsNull = true
is_asked NotNull = true
is_asked k = false

-- an operand that the kind does not use is of no matter
abbrev pub used : PointKind → ℕ → ℤ → ℤ
used k j x = if nat_lt j (length (point_places k)) then x else MISSING

pub uses-its-own : (k : PointKind) (x y z : ℤ) → pointwise k x y z ≡ pointwise k (used k 0 x) (used k 1 y) (used k 2 z)
unfolding pointwise
uses-its-own Add x y z = refl
uses-its-own k x y z = refl

-- whether a value is present is told by its cell
asked-same : (k : PointKind) (texts : List (List ℕ)) (v : Value) (y z : ℤ) → is_asked k ≡ true → pointwise k (number_of v) y z ≡ pointwise k (in_array texts v) y z
unfolding pointwise
asked-same IsNull texts (Number x) y z h = refl
asked-same IsNull texts (Text t) y z h = refl
asked-same NotNull texts (Number x) y z h = refl
asked-same NotNull texts (Text t) y z h = refl
asked-same k texts v y z h = absurd (let bad : false ≡ true = h in cc)

first-alone : (g : PointKind) → is_asked g ≡ true → (x y z u v : ℤ) → pointwise g x y z ≡ pointwise g x u v
unfolding pointwise
first-alone IsNull h x y z u v = refl
first-alone NotNull h x y z u v = refl
first-alone g h x y z u v = absurd (let bad : false ≡ true = h in cc)

-- ---- what stands at the places of an operation

abbrev pub plain_place : Place → Bool
plain_place AnyTerm = false
plain_place FactorOrClassifier = false
plain_place Classifier = false
plain_place LabelClassifier = false
plain_place q = true

pub all-at : {X : Type 0} (f : X → Bool) (xs : List X) (i : ℕ) (x : X) → list_all f xs ≡ true → slice_get xs i ≡ Some x → f x ≡ true
all-at f [] i x h e = cc
all-at f (y ∷ ys) zero x h e = let same : y ≡ x = cc in ap f (sym same) ∙ (and_parts (f y) (list_all f ys) h).0
all-at f (y ∷ ys) (suc i) x h e = all-at f ys i x (and_parts (f y) (list_all f ys) h).1 e

pub points-plain : (f : PointKind) → is_asked f ≡ false → list_all plain_place (point_places f) ≡ true
points-plain IsNull h = absurd (let bad : true ≡ false = h in cc)
points-plain NotNull h = absurd (let bad : true ≡ false = h in cc)
points-plain f h = refl

pub takes-plain : (q : Place) (o : Option Sort) → (plain_place q && takes_sort q o) ≡ true → plain_sort o ≡ true
takes-plain Series (Some Factors) h = refl
takes-plain Factor (Some Factors) h = refl
takes-plain Filter (Some Filters) h = refl
takes-plain NumberedClassifier (Some Numbers) h = refl
takes-plain q o h = absurd (let bad : false ≡ true = h in cc)

pub place-at : (ps : List Place) (j : ℕ) → nat_lt j (length ps) ≡ true → (q : Place) × (slice_get ps j ≡ Some q)
place-at [] j h = let l : j < 0 = grind (arith, nat_tests) in absurd (omega (arith, l))
place-at (q ∷ ps) zero h = (q, refl)
place-at (q ∷ ps) (suc j) h = let l : j < length ps = (let m : suc j < suc (length ps) = grind (arith, nat_tests) in omega arith) in place-at ps j (grind (arith, nat_tests))

places-of : (k : Kind) (f : PointKind) → k ≡ Point f → places k ≡ point_places f
unfolding places
places-of k f e = rw e refl

pub fills-all : (P : ℤ → Type 0) (f : ℕ → ℤ) (n : ℕ) (row : List ℤ) → Fills f n row → ((i : ℕ) → i < n → P (f i)) → All P row
fills-all P f n row b h = λ k d l.
    let m : k < n = omega (arith, l, b.long) in
    subst P (sym (get_or_default row k d (pos 0) l ∙ b.each k m)) (h k m)

module _ (w : World) (p : Pipeline) (sids : List ℕ) (ok : IsChecked p) (k : ℕ) (n : Node) (is : slice_get p.graph k ≡ Some n) (f : PointKind) (e : n.kind ≡ Point f) where
  fit : all_fit p.graph (point_places f) n.inputs ≡ true
  fit = ap (λ ps. all_fit p.graph ps n.inputs) (sym (places-of n.kind f e)) ∙ (ok.nodes k n is).inputs

  -- a term stands at each place
  pub term-at : (j : ℕ) (q : Place) → slice_get (point_places f) j ≡ Some q → (t : ℕ) × (slice_get n.inputs j ≡ Some (TermInput t)) × (takes_sort q (sort_at p.graph t) ≡ true)
  term-at j q h = let x = has-input p.graph (point_places f) n.inputs j q fit h in here x.0 x.1 x.2
    where
      here : (x : Input) → slice_get n.inputs j ≡ Some x → fits p.graph q x ≡ true → (t : ℕ) × (slice_get n.inputs j ≡ Some (TermInput t)) × (takes_sort q (sort_at p.graph t) ≡ true)
      here (TermInput t) g l = (t, g, l)
      here (BarColumn c) g l = absurd (no-takes q c (all-at no_column (point_places f) j q (points-free f) h) l)

  module _ (place on : ℕ → ℕ) (size : ℕ) where
    row-is : (j t : ℕ) (row : List ℤ) → slice_get n.inputs j ≡ Some (TermInput t) → IsEntryRow w p sids place on size (slice_get n.inputs j) row
        → Fills (λ i. cell_of w p sids t (place i) (on i)) size row
    row-is j t row g r = rw g at r

    module _ (i : ℕ) (inside : i < size) where
      operand-same : (j : ℕ) (row : List ℤ) → is_asked f ≡ false → IsEntryRow w p sids place on size (slice_get n.inputs j) row
          → used f j (number_of (value_of_part (input_part w p.names p.graph (slice_get n.inputs j)) (sid_in sids (place i)) (pos (on i)))) ≡ used f j (get_or row i (pos 0))
      operand-same j row h r = here (nat_lt j (length (point_places f))) refl
        where
          here : (b : Bool) → nat_lt j (length (point_places f)) ≡ b
              → used f j (number_of (value_of_part (input_part w p.names p.graph (slice_get n.inputs j)) (sid_in sids (place i)) (pos (on i)))) ≡ used f j (get_or row i (pos 0))
          here false g = rw g refl
          here true g =
              let q = place-at (point_places f) j g in
              let x = term-at j q.0 q.1 in
              let plain = all-at plain_place (point_places f) j q.0 (points-plain f h) q.1 in
              let numbered = plain-number w p ok x.0 (sort_at p.graph x.0) refl (takes-plain q.0 (sort_at p.graph x.0) (and_from _ _ plain x.2)) in
              let row_cell : get_or row i (pos 0) ≡ cell_of w p sids x.0 (place i) (on i) = (row-is j x.0 row x.1 r).each i inside in
              let value_cell : number_of (value_of_part (input_part w p.names p.graph (slice_get n.inputs j)) (sid_in sids (place i)) (pos (on i))) ≡ cell_of w p sids x.0 (place i) (on i) =
              ap (λ (o : Option Input). number_of (value_of_part (input_part w p.names p.graph o) (sid_in sids (place i)) (pos (on i)))) x.1 ∙ cell-number w p sids ok x.0 numbered (place i) (on i) in
              ap (used f j) (value_cell ∙ sym row_cell)

    -- ---- the cell

    abbrev value-at : ℕ → ℕ → Value
    value-at j i = value_of_part (input_part w p.names p.graph (slice_get n.inputs j)) (sid_in sids (place i)) (pos (on i))

    plainly : (i : ℕ) (a b c : List ℤ) → i < size → AreEntries w p sids n place on size a b c → is_asked f ≡ false
        → pointwise f (number_of (value-at 0 i)) (number_of (value-at 1 i)) (number_of (value-at 2 i)) ≡ pointwise f (get_or a i (pos 0)) (get_or b i (pos 0)) (get_or c i (pos 0))
    plainly i a b c inside rows h =
        uses-its-own f _ _ _
        ∙ ap (λ x. pointwise f x (used f 1 (number_of (value-at 1 i))) (used f 2 (number_of (value-at 2 i)))) (operand-same i inside 0 a h rows.first)
        ∙ ap (λ x. pointwise f (used f 0 (get_or a i (pos 0))) x (used f 2 (number_of (value-at 2 i)))) (operand-same i inside 1 b h rows.second)
        ∙ ap (λ x. pointwise f (used f 0 (get_or a i (pos 0))) (used f 1 (get_or b i (pos 0))) x) (operand-same i inside 2 c h rows.third)
        ∙ sym (uses-its-own f _ _ _)

    asked-place : is_asked f ≡ true → slice_get (point_places f) 0 ≡ Some FactorOrClassifier
    asked-place h = asked-first f h
      where
        asked-first : (g : PointKind) → is_asked g ≡ true → slice_get (point_places g) 0 ≡ Some FactorOrClassifier
        asked-first IsNull h = refl
        asked-first NotNull h = refl
        asked-first g h = absurd (let bad : false ≡ true = h in cc)

    asked : (i : ℕ) (a b c : List ℤ) → i < size → AreEntries w p sids n place on size a b c → is_asked f ≡ true
        → pointwise f (number_of (value-at 0 i)) (number_of (value-at 1 i)) (number_of (value-at 2 i)) ≡ pointwise f (get_or a i (pos 0)) (get_or b i (pos 0)) (get_or c i (pos 0))
    unfolding cell_of
    asked i a b c inside rows h =
        let x = term-at 0 FactorOrClassifier (asked-place h) in
        let row_cell : get_or a i (pos 0) ≡ in_array w.texts (value_of w p x.0 (sid_in sids (place i)) (pos (on i))) = (row-is 0 x.0 a x.1 rows.first).each i inside in
        first-alone f h _ _ _ (get_or b i (pos 0)) (get_or c i (pos 0))
        ∙ ap (λ (o : Option Input). pointwise f (number_of (value_of_part (input_part w p.names p.graph o) (sid_in sids (place i)) (pos (on i)))) (get_or b i (pos 0)) (get_or c i (pos 0))) x.1
        ∙ asked-same f w.texts (value_of w p x.0 (sid_in sids (place i)) (pos (on i))) (get_or b i (pos 0)) (get_or c i (pos 0)) h
        ∙ ap (λ y. pointwise f y (get_or b i (pos 0)) (get_or c i (pos 0))) (sym row_cell)

    same-point : (i : ℕ) (a b c : List ℤ) → i < size → AreEntries w p sids n place on size a b c → (r : Bool) → is_asked f ≡ r
        → pointwise f (number_of (value-at 0 i)) (number_of (value-at 1 i)) (number_of (value-at 2 i)) ≡ pointwise f (get_or a i (pos 0)) (get_or b i (pos 0)) (get_or c i (pos 0))
    same-point i a b c inside rows false h = plainly i a b c inside rows h
    same-point i a b c inside rows true h = asked i a b c inside rows h

    -- ---- the operands

    cells-at : (j : ℕ) (row : List ℤ) (q : Place) → IsEntryRow w p sids place on size (slice_get n.inputs j) row → slice_get (point_places f) j ≡ Some q → AreCells size row
    cells-at j row q r h =
        let x = term-at j q h in
        let b = row-is j x.0 row x.1 r in
        record { cells = fills-all IsCell (λ i. cell_of w p sids x.0 (place i) (on i)) size row b b.cell; many = b.long }

    flags-at : (j : ℕ) (row : List ℤ) → IsEntryRow w p sids place on size (slice_get n.inputs j) row → slice_get (point_places f) j ≡ Some Filter → AreFlags size row
    flags-at j row r h =
        let x = term-at j Filter h in
        let b = row-is j x.0 row x.1 r in
        record {
          flags = fills-all IsFlag (λ i. cell_of w p sids x.0 (place i) (on i)) size row b
              (λ i l. filter-cell w p sids x.0 (place i) (on i) ok (filter-sort (sort_at p.graph x.0) x.2));
          many = b.long;
        }

    placed-at : (j : ℕ) (row : List ℤ) (o : Option Place) → slice_get (point_places f) j ≡ o → IsEntryRow w p sids place on size (slice_get n.inputs j) row → ArePlaced o size row
    placed-at j row None h r = tt
    placed-at j row (Some Filter) h r = flags-at j row r h
    placed-at j row (Some q) h r = cells-at j row q r h

    operands-of : (a b c : List ℤ) → AreEntries w p sids n place on size a b c → AreOperandsOf f a b c size
    operands-of a b c r = (placed-at 0 a _ refl r.first, placed-at 1 b _ refl r.second, placed-at 2 c _ refl r.third)

pub limited-cell : (x : ℤ) → is_limited x ≡ true → IsCell x
limited-cell x h = let l : unsigned_abs x ≤ LIMIT = grind (arith, nat_tests) in inr l

-- the bounds of a clip are cells
pub has-cells : (f : PointKind) (w names : ℕ) → has_parameters (Point f) w names ≡ true → HasCells f
unfolding has_parameters
has-cells (Clip low high) w names h =
    let a = and_parts (int_le low high && is_limited low) (is_limited high) h in
    let b = and_parts (int_le low high) (is_limited low) a.0 in
    (limited-cell low b.1, limited-cell high a.1)
has-cells f w names h = tt

module _ (w : World) (p : Pipeline) (sids : List ℕ) (k : ℕ) (n : Node) (own : IsNode p k n) (f : PointKind) (e : n.kind ≡ Point f) (place on : ℕ → ℕ) (size : ℕ) (a b c : List ℤ)
    (rows : AreEntries w p sids n place on size a b c) where
  pub entries-asked : IsOperation n.kind × AreOperands n.kind a b c size
  entries-asked =
      let parameters = subst (λ q. has_parameters q n.window (length p.names) ≡ true) e (own.checked.nodes k n own.node).parameters in (
        subst IsOperation (sym e) (has-cells f n.window (length p.names) parameters),
        subst (λ q. AreOperands q a b c size) (sym e) (operands-of w p sids own.checked k n own.node f e place on size a b c rows),
      )

  pub entry-given : (i : ℕ) → i < size → IsGiven w p sids k n (place i) (on i) (operation n.kind (get_or a i (pos 0)) (get_or b i (pos 0)) (get_or c i (pos 0)))
  unfolding kind_value
  entry-given i inside =
      gated w p sids own.checked k n own.node (place i) (on i) (plain-reads p n (ap is_windowed e)) (operation n.kind (get_or a i (pos 0)) (get_or b i (pos 0)) (get_or c i (pos 0)))
      (rw e (same-point w p sids own.checked k n own.node f e place on size i a b c inside rows (is_asked f) refl))

pub point-operands : PointOperands
point-operands w p sids k n i s own f size a b c e rows = entries-asked w p sids k n own f e (λ j. j) (λ j. s) size a b c rows

pub point-cell : PointCells
point-cell w p sids k n i s own f size a b c e rows inside = entry-given w p sids k n own f e (λ j. j) (λ j. s) size a b c rows i inside
