-- Constants, lists of sids, labels and tests of labels.
use Rattle.std.proofs.Common.{◌≡◌, ℕ, ◌<◌, true, false, ℤ, pos, List, [], Option, Some, None, length, refl, sym, ◌∙◌, ap, arith, slice_get, get_or, inl, inr, nat_lt, position, unwrap_or, option_map, bytes_eq, Contains}
use Rattle.std.proofs.Common.{true≢false}
use Rattle.std.proofs.lemmas.Bool.Decides.{nat_tests}
use Rattle.std.proofs.lemmas.Slice.Eq.{bytes_eq-Decides}
use Rattle.std.proofs.lemmas.List.Quantifiers.{position-Some}
use Rattle.pl_spec.proofs.Places.{nowhere}
use Rattle.pl_spec.specs.Numbers.{number_at}
use Rattle.pl_spec.specs.Rounding.{MISSING}
use Rattle.pl_spec.specs.World.{World, day_of, label_at, known_number}
use Rattle.pl_pipeline.specs.Kind.{Kind, LabelKind}
use Rattle.pl_spec.specs.declared.Frequency.{Frequency}
use Rattle.pl_pipeline.specs.Kind.Kind.{Constant, Label, Number, LabelTest, Downsample}
use Rattle.pl_spec.specs.Cells.{truth}
use Rattle.pl_spec.specs.declared.Figure.{Figure}
use Rattle.pl_pipeline.specs.Pointwise.{label_test}
use Rattle.pl_pipeline.specs.Term.{Node, Input}
use Rattle.pl_pipeline.specs.Term.Input.{BarColumn, TermInput}
use Rattle.pl_pipeline.specs.Value.{Value, name_at, test_value, kind_value}
use Rattle.pl_pipeline.specs.Table.{Pipeline, value_of, in_array}
use Rattle.pl_terms.specs.Checked.{IsChecked}
use Rattle.pl_terms.specs.declared.row.Sort.TheVariants.{Labels}
use Rattle.pl_terms.specs.Sorts.{LabelClassifier, sort_at, places, fits, has_parameters, is_limited, is_downsampled, is_windowed}
use Rattle.pl_cross.specs.Arrays.{sid_in}
use Rattle.pl_cross.proofs.Codes.{IsCoded}
use Rattle.pl_values.specs.Arrays.{cell_of}
use Rattle.pl_values.specs.Families.{sid_flag, label_code, IsCode, code_flag}
use Rattle.pl_values.specs.Laws.{UnkeptCells, ConstantCells, SidCells, LabelCells, NumberCells, LabelTestCells, DownsampledCells}
use Rattle.pl_values.proofs.Typed.{has-input, label-sort}
use Rattle.pl_values.proofs.Downsampled.{over, plain-reads}
use Rattle.pl_values.proofs.Numbers.{coded-sort}
use Rattle.pl_values.proofs.Cells.{gated, ungated}
use Rattle.pl_values.proofs.Operations.{limited-cell}

pub unkept-cell : UnkeptCells
unkept-cell w p sids k n i s own h = ungated w p sids own.checked k n own.node i s h

constant-limited : (k : Kind) (w names : ℕ) (value : ℤ) → k ≡ Constant value → has_parameters k w names ≡ true → is_limited value ≡ true
unfolding has_parameters
constant-limited k w names value e h = rw e at h

pub constant-cell : ConstantCells
unfolding kind_value
constant-cell w p sids k n i s own value e =
    (limited-cell value (constant-limited n.kind n.window _ value e (own.checked.nodes k n own.node).parameters), gated w p sids own.checked k n own.node i s (plain-reads p n (ap is_windowed e)) value (rw e refl))

pub sid-cell : SidCells
unfolding kind_value
sid-cell w p sids k n i s own list e = gated w p sids own.checked k n own.node i s (plain-reads p n (ap is_windowed e)) (sid_flag n.kind (sid_in sids i)) (rw e refl)

pub label-below : (k : Kind) (w names name : ℕ) → k ≡ Label name → has_parameters k w names ≡ true → name < names
unfolding has_parameters
label-below k w names name e h = let l : nat_lt name names ≡ true = rw e at h in grind (arith, nat_tests)

pub label-cell : LabelCells
unfolding kind_value
label-cell w p sids k n i s own name e = (
  label-below n.kind n.window _ name e (own.checked.nodes k n own.node).parameters,
  gated w p sids own.checked k n own.node i s (plain-reads p n (ap is_windowed e)) (label_code w.texts (label_at w (name_at p.names name) (sid_in sids i) (pos s))) (rw e refl),
)

pub number-below : (k : Kind) (w names : ℕ) (f : Figure) (name : ℕ) → k ≡ Number f name → has_parameters k w names ≡ true → name < names
unfolding has_parameters
number-below k w names f name e h = let l : nat_lt name names ≡ true = rw e at h in grind (arith, nat_tests)

pub number-cell : NumberCells
unfolding kind_value
number-cell w p sids k n i s own f name e = (
  number-below n.kind n.window _ f name e (own.checked.nodes k n own.node).parameters,
  gated w p sids own.checked k n own.node i s (plain-reads p n (ap is_windowed e)) (known_number w f (name_at p.names name) (sid_in sids i) (pos s)) (rw e refl),
)

-- a world without numbers has none of any asset
pub no-numbers : (w : World) → w.numbers ≡ [] → (f : Figure) (name : List ℕ) (a : ℕ) (d : ℤ) → known_number w f name a d ≡ MISSING
no-numbers w e f name a d = ap (λ rows. unwrap_or (option_map (number_at f rows name a) (day_of w d)) MISSING) e ∙ here (day_of w d)
  where
    here : (o : Option ℤ) → unwrap_or (option_map (number_at f [] name a) o) MISSING ≡ MISSING
    here None = refl
    here (Some day) = refl

-- ---- tests of labels

-- a text of the list has a code, after which it stands
abbrev pub HasPlace : List (List ℕ) → List ℕ → Option ℕ → Type 0
HasPlace texts t o = (unwrap_or o 0 < length texts) × (get_or texts (unwrap_or o 0) [] ≡ t)

pub placed : (texts : List (List ℕ)) (t : List ℕ) → Contains texts t → (o : Option ℕ) → position (bytes_eq t) texts ≡ o → HasPlace texts t o
placed texts t own None e = absurd (true≢false (sym ((bytes_eq-Decides t (get_or texts own.0 t)).1 (sym own.2)) ∙ nowhere (bytes_eq t) texts e own.0 t own.1))
placed texts t own (Some n) e = let it = position-Some (bytes_eq t) texts n [] e in (it.0, sym ((bytes_eq-Decides t (get_or texts n [])).0 it.1))

has-place : (texts : List (List ℕ)) (t : List ℕ) → Contains texts t → HasPlace texts t (position (bytes_eq t) texts)
has-place texts t own = placed texts t own (position (bytes_eq t) texts) refl

pub coded-code : (texts : List (List ℕ)) (v : Value) → IsCoded texts v → IsCode texts (in_array texts v)
coded-code texts v (inl e) = inl (ap (in_array texts) e)
coded-code texts v (inr t) = inr (unwrap_or (position (bytes_eq t.0) texts) 0, ap (in_array texts) t.1, (has-place texts t.0 t.2).0)

coded-test : (texts : List (List ℕ)) (k : LabelKind) (v : Value) → IsCoded texts v → in_array texts (test_value k v) ≡ code_flag texts (LabelTest k) (in_array texts v)
coded-test texts k v (inl e) = rw e refl
coded-test texts k v (inr t) = let e = t.1 in rw e (ap (λ u. truth (label_test k u)) (sym (has-place texts t.0 t.2).1))

label-places : (k : Kind) (f : LabelKind) → k ≡ LabelTest f → slice_get (places k) 0 ≡ Some LabelClassifier
unfolding places
label-places k f e = rw e refl

-- the input of a test is a term of labels
pub label-input : (p : Pipeline) (ok : IsChecked p) (k : ℕ) (n : Node) → slice_get p.graph k ≡ Some n → (f : LabelKind) → n.kind ≡ LabelTest f
    → (t : ℕ) × (slice_get n.inputs 0 ≡ Some (TermInput t)) × (sort_at p.graph t ≡ Some Labels)
label-input p ok k n is f e =
    let x = has-input p.graph (places n.kind) n.inputs 0 LabelClassifier (ok.nodes k n is).inputs (label-places n.kind f e) in here x.0 x.1 x.2
  where
    here : (x : Input) → slice_get n.inputs 0 ≡ Some x → fits p.graph LabelClassifier x ≡ true → (t : ℕ) × (slice_get n.inputs 0 ≡ Some (TermInput t)) × (sort_at p.graph t ≡ Some Labels)
    here (TermInput t) h g = (t, h, label-sort (sort_at p.graph t) g)
    here (BarColumn c) h g = absurd (let bad : false ≡ true = g in cc)

pub label-test-cell : LabelTestCells
unfolding cell_of kind_value
label-test-cell w p sids k n i s own f t texts e x =
    let input = label-input p own.checked k n own.node f e in
    let same : input.0 ≡ t = cc in
    let coded : IsCoded w.texts (value_of w p t (sid_in sids i) (pos s)) = coded-sort w p own.checked t texts (ap (sort_at p.graph) (sym same) ∙ input.2) (sid_in sids i) (pos s) in (
      coded-code w.texts (value_of w p t (sid_in sids i) (pos s)) coded,
      gated w p sids own.checked k n own.node i s (plain-reads p n (ap is_windowed e)) (code_flag w.texts n.kind (in_array w.texts (value_of w p t (sid_in sids i) (pos s))))
          (rw (e, x) (coded-test w.texts f (value_of w p t (sid_in sids i) (pos s)) coded)),
    )

-- ---- downsampled terms

-- the input of a downsampled term
pub downsampled-input : (p : Pipeline) (ok : IsChecked p) (k : ℕ) (n : Node) → slice_get p.graph k ≡ Some n → (f : Frequency) → n.kind ≡ Downsample f → (t : ℕ) × (slice_get n.inputs 0 ≡ Some (TermInput t))
downsampled-input p ok k n is f e = let x = over p ok k n is (ap is_downsampled e) in (x.input, x.first)

pub downsampled-cell : DownsampledCells
unfolding cell_of kind_value
downsampled-cell w p sids k n i s own f t r e x h =
    gated w p sids own.checked k n own.node i s (plain-reads p n (ap is_windowed e)) (in_array w.texts (value_of w p t (sid_in sids i) (pos r))) (rw (e, x, sym h) refl)
