-- What nodes, places and masks are by the code.
use Rattle.std.proofs.Common.{◌≡◌, ℕ, zero, suc, ◌+◌, ◌<◌, Bool, true, false, ◌&&◌, ◌||◌, filter_map, take, ℤ, pos, List, [], ◌∷◌, length, map, get_or, Some, None, option_map, unwrap_or, slice_get, refl, sym, ◌∙◌, ap, arith, subst, if◌then◌else◌}
use Rattle.std.specs.List.{take-map}
use Rattle.std.proofs.Math.Bool.{and-true, and-false}
use Rattle.pl_spec.specs.declared.AssetRow.{AssetRow}
use Rattle.pl_spec.specs.Parts.{sid_at}
use Rattle.pl_spec.specs.Cells.{is_true}
use Rattle.pl_spec.specs.declared.Column.{Column}
use Rattle.pl_spec.specs.World.{column_number}
use Rattle.pl_pipeline.specs.Graph.{contains, input_column}
use Rattle.pl_pipeline.specs.Term as spec
use Rattle.pl_terms.specs.declared.node.Input.{Input}
use Rattle.pl_terms.specs.Nodes.{input_of}
use Rattle.pl_exec.specs.ChunkInputs.{is_column, place_among, new_column}
use Rattle.pl_spec.proofs.Columns.{column_number-one}
use Rattle.std.proofs.lemmas.Bool.{true≢false, eqb-true, eq-eqb}
use Rattle.pl_lifetimes.specs.Assets.{sid_of}
use Rattle.pl_cross.specs.Arrays.{sid_in}
use Rattle.pl_values.specs.Arrays.{chosen}

-- the sid of a place is that of its column
pub sid_of_place : (assets : List AssetRow) (cols : List ℕ) (i : ℕ) → i < length cols → sid_in (map (sid_at assets) cols) i ≡ sid_at assets (get_or cols i 0)
sid_of_place assets [] i h = absurd (omega arith)
sid_of_place assets (c ∷ cs) zero h = refl
sid_of_place assets (c ∷ cs) (suc i) h = sid_of_place assets cs i (omega arith)

pub sid_told : (assets : List AssetRow) (cols : List ℕ) (i : ℕ) → i < length cols → (sid : ℕ) → option_map sid_of (slice_get assets (get_or cols i 0)) ≡ Some sid → sid_in (map (sid_at assets) cols) i ≡ sid
sid_told assets cols i h sid e = sid_of_place assets cols i h ∙ ap (λ o. unwrap_or o 0) e

-- who is kept and passes a mask
pub both_told : (m : Bool) (k : ℤ) → is_true (chosen m k (pos 0)) ≡ (is_true k && m)
both_told true k = sym (and-true (is_true k))
both_told false k = sym (and-false (is_true k))

-- ---- bar columns among inputs

pub one_column : (i : spec.Input) (is : List spec.Input) (c : Column) → contains (filter_map input_column (i ∷ is)) (column_number c) ≡ (is_column i c || contains (filter_map input_column is) (column_number c))
one_column (spec.BarColumn d) is c = refl
one_column (spec.TermInput u) is c = refl

pub before_cut : (is : List Input) (p : ℕ) (c : Column) → contains (filter_map input_column (map input_of (take p is))) (column_number c) ≡ contains (filter_map input_column (take p (map input_of is))) (column_number c)
before_cut is p c = ap (λ l. contains (filter_map input_column l) (column_number c)) (sym (take-map input_of p is))

-- a bar column stands first in its first place
pub record IsFirst (is : List spec.Input) (c : Column) (q : ℕ) : Type 0 where
  pub within : q < length is
  pub here : slice_get is q ≡ Some (spec.BarColumn c)
  pub new : contains (filter_map input_column (take q is)) (column_number c) ≡ false

same_column : (i : spec.Input) (c : Column) → is_column i c ≡ true → i ≡ spec.BarColumn c
same_column (spec.BarColumn d) c e = ap spec.BarColumn (column_number-one d c (eqb-true (column_number d) (column_number c) e))
same_column (spec.TermInput u) c e = absurd (true≢false (sym e))

own_column : (c : Column) → is_column (spec.BarColumn c) c ≡ true
own_column c = eq-eqb (column_number c) (column_number c) refl

first_step : (i : spec.Input) (is : List spec.Input) (c : Column) (b : Bool) → is_column i c ≡ b → (p : ℕ) → slice_get (i ∷ is) p ≡ Some (spec.BarColumn c)
    → ((q : ℕ) → slice_get is q ≡ Some (spec.BarColumn c) → IsFirst is c (place_among is c)) → IsFirst (i ∷ is) c (if b then 0 else place_among is c + 1)
first_step i is c true f p e more = record { within = omega arith; here = ap Some (same_column i c f); new = refl }
first_step i is c false f zero e more = absurd (let g : Some i ≡ Some (spec.BarColumn c) = e in let h : i ≡ spec.BarColumn c = cc in true≢false (sym (ap (λ x. is_column x c) h ∙ own_column c) ∙ f))
first_step i is c false f (suc p) e more =
    let r = more p e in
    let s : place_among is c + 1 ≡ suc (place_among is c) = omega arith in
    subst (IsFirst (i ∷ is) c) (sym s) (record { within = (let h = r.within in omega arith); here = r.here; new = one_column i (take (place_among is c) is) c ∙ ap (λ b. b || contains (filter_map input_column (take (place_among is c) is)) (column_number c)) f ∙ r.new })

pub first_place : (is : List spec.Input) (c : Column) (p : ℕ) → slice_get is p ≡ Some (spec.BarColumn c) → IsFirst is c (place_among is c)
first_place [] c p e = absurd (let f : None ≡ Some (spec.BarColumn c) = e in cc)
first_place (i ∷ is) c p e = first_step i is c (is_column i c) refl p e (λ q h. first_place is c q h)

pub new_first : (n : spec.Node) (c : Column) (q : ℕ) → IsFirst n.inputs c q → new_column n q ≡ Some c
new_first n c q f = rw (f.here, f.new) refl
