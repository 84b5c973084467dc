-- Columns and screen are outputs, and outputs are used.
use Rattle.std.proofs.Common.{◌≡◌, ℕ, ◌+◌, ◌<◌, pos, List, [], ◌∷◌, ◌++◌, length, map, take, get_or, append_assoc, Option, Some, None, slice_get, option_map, refl, sym, ap, ◌∙◌, arith}
use Rattle.std.specs.Prelude.{flat_map}
use Rattle.std.proofs.lemmas.Grind.{flat_map-append}
use Rattle.std.proofs.lemmas.Option.{slice_get-get_or, slice_get_within, get_or_from_slice_get}
use Rattle.std.proofs.lemmas.List.{get_or-map, take_more, append-nil}
use Rattle.pl_spec.specs.declared.AssetRow.{AssetRow}
use Rattle.pl_spec.specs.Parts.{sid_at}
use Rattle.pl_spec.specs.World.{World}
use Rattle.pl_pipeline.specs.Table.{Pipeline, NamedColumn, value_of, in_array}
use Rattle.pl_cross.specs.Arrays.{sid_in}
use Rattle.pl_values.specs.Arrays.{cell_of}
use Rattle.pl_terms.specs.declared.node.TermId.{TermId}
use Rattle.pl_terms.specs.declared.checked.NamedColumn as code
use Rattle.pl_terms.specs.Nodes.{number_of}
use Rattle.pl_terms.specs.Checked.{columns_of, column_of}
use Rattle.pl_terms.proofs.Graphs.{columns-long, column-there}

pub term-there : (cs : List code.NamedColumn) (i : ℕ) (t : TermId) → option_map (λ (c : code.NamedColumn). c.term) (slice_get cs i) ≡ Some t
    → (d : NamedColumn) → slice_get (columns_of cs) i ≡ Some d → d.term ≡ t.0
term-there cs i t e d f = here (slice_get cs i) refl e
  where
    here : (o : Option code.NamedColumn) → slice_get cs i ≡ o → option_map (λ (c : code.NamedColumn). c.term) o ≡ Some t → d.term ≡ t.0
    here None g h = absurd (let bad : None ≡ Some t = h in cc)
    here (Some c) g h =
        let own : c.term ≡ t = (let q : Some c.term ≡ Some t = h in cc) in
        let same : Some d ≡ Some (column_of c) = sym f ∙ column-there cs i c g in
        let is : d ≡ column_of c = cc in
        ap (λ (x : NamedColumn). x.term) is ∙ ap number_of own

pub name-there : (cs : List code.NamedColumn) (i : ℕ) (n : List ℕ) → option_map (λ (c : code.NamedColumn). c.name) (slice_get cs i) ≡ Some n
    → (d : NamedColumn) → slice_get (columns_of cs) i ≡ Some d → d.name ≡ n
name-there cs i n e d f = here (slice_get cs i) refl e
  where
    here : (o : Option code.NamedColumn) → slice_get cs i ≡ o → option_map (λ (c : code.NamedColumn). c.name) o ≡ Some n → d.name ≡ n
    here None g h = absurd (let bad : None ≡ Some n = h in cc)
    here (Some c) g h =
        let own : c.name ≡ n = (let q : Some c.name ≡ Some n = h in cc) in
        let same : Some d ≡ Some (column_of c) = sym f ∙ column-there cs i c g in
        let is : d ≡ column_of c = cc in
        ap (λ (x : NamedColumn). x.name) is ∙ own

pub has-column : (cs : List code.NamedColumn) (i : ℕ) → i < length cs → (d : NamedColumn) × (slice_get (columns_of cs) i ≡ Some d)
has-column cs i h =
    let n : i < length (columns_of cs) = omega (arith, columns-long cs) in
    let none : NamedColumn = record { name = []; term = 0 } in
    (get_or (columns_of cs) i none, slice_get-get_or (columns_of cs) i none n)

-- the sid in a place
pub sid-of-place : (assets : List AssetRow) (cols : List ℕ) (i : ℕ) → i < length cols → sid_in (map (sid_at assets) cols) i ≡ sid_at assets (get_or cols i 0)
sid-of-place assets cols i h = get_or-map (sid_at assets) cols i 0 0 h

-- the values of cells
pub cell-is : (w : World) (p : Pipeline) (sids : List ℕ) (t i s : ℕ) → cell_of w p sids t i s ≡ in_array w.texts (value_of w p t (sid_in sids i) (pos s))
unfolding cell_of
cell-is w p sids t i s = refl

-- one column more
pub columns-more : (part : NamedColumn → List ℕ) (cs : List NamedColumn) (i : ℕ) (c : NamedColumn) → slice_get cs i ≡ Some c
    → flat_map part (take (i + 1) cs) ≡ flat_map part (take i cs) ++ part c
columns-more part cs i c at =
    ap (flat_map part) (take_more cs i c (slice_get_within cs i c at))
    ∙ flat_map-append part (take i cs) (get_or cs i c ∷ [])
    ∙ ap (λ (t : List ℕ). flat_map part (take i cs) ++ t) (append-nil (part (get_or cs i c)))
    ∙ ap (λ (x : NamedColumn). flat_map part (take i cs) ++ part x) (get_or_from_slice_get cs i c c at)

pub parts-more : (front parts more piece old new : List ℕ) → old ≡ front ++ parts → new ≡ old ++ piece → more ≡ parts ++ piece → new ≡ front ++ more
parts-more front parts more piece old new a b d = b ∙ ap (λ (t : List ℕ). t ++ piece) a ∙ append_assoc front parts piece ∙ ap (λ (t : List ℕ). front ++ t) (sym d)
