-- What the nodes of a checked pipeline mention.
use Rattle.std.proofs.Common.{◌≡◌, ℕ, zero, suc, Bool, true, false, List, [], ◌∷◌, Option, Some, None, refl, sym, ◌∙◌, ap, slice_get}
use Rattle.std.specs.List.{list_all}
use Rattle.std.proofs.lemmas.Bool.{and_parts, true≢false}
use Rattle.pl_spec.specs.declared.Column.{Column}
use Rattle.pl_pipeline.specs.Kind.{PointKind, CrossKind}
use Rattle.pl_pipeline.specs.Kind.PointKind.{Neg}
use Rattle.pl_pipeline.specs.Kind.CrossKind.{PeerCount}
use Rattle.pl_pipeline.specs.Term.{Graph, Input}
use Rattle.pl_terms.specs.declared.row.Sort.TheVariants.{Filters, Labels}
use Rattle.pl_terms.specs.declared.row.Sort.{Sort}
use Rattle.pl_terms.specs.Sorts.{sort_at, Place, Own, Bar, Series, point_places, cross_places, takes_sort, takes_column, fits, all_fit, optional_fits}

-- each input is one that its place takes
pub fit-at : (g : Graph) (ps : List Place) (is : List Input) (i : ℕ) (x : Input) → all_fit g ps is ≡ true → slice_get is i ≡ Some x
    → (q : Place) × (slice_get ps i ≡ Some q) × (fits g q x ≡ true)
fit-at g [] [] i x h e = absurd (let bad : None ≡ Some x = e in cc)
fit-at g [] (y ∷ ys) i x h e = absurd (let bad : false ≡ true = h in cc)
fit-at g (q ∷ ps) [] i x h e = absurd (let bad : false ≡ true = h in cc)
fit-at g (q ∷ ps) (y ∷ ys) zero x h e =
    let same : y ≡ x = cc in
    (q, refl, ap (fits g q) (sym same) ∙ (and_parts (fits g q y) (all_fit g ps ys) h).0)
fit-at g (q ∷ ps) (y ∷ ys) (suc i) x h e = fit-at g ps ys i x (and_parts (fits g q y) (all_fit g ps ys) h).1 e

-- each place has an input
pub has-input : (g : Graph) (ps : List Place) (is : List Input) (i : ℕ) (q : Place) → all_fit g ps is ≡ true → slice_get ps i ≡ Some q
    → (x : Input) × (slice_get is i ≡ Some x) × (fits g q x ≡ true)
has-input g [] is i q h e = absurd (let bad : None ≡ Some q = e in cc)
has-input g (r ∷ ps) [] i q h e = absurd (let bad : false ≡ true = h in cc)
has-input g (r ∷ ps) (y ∷ ys) zero q h e =
    let same : r ≡ q = cc in
    (y, refl, ap (λ z. fits g z y) (sym same) ∙ (and_parts (fits g r y) (all_fit g ps ys) h).0)
has-input g (r ∷ ps) (y ∷ ys) (suc i) q h e = has-input g ps ys i q (and_parts (fits g r y) (all_fit g ps ys) h).1 e

-- and none stands after them
pub no-input : (g : Graph) (ps : List Place) (is : List Input) (i : ℕ) → all_fit g ps is ≡ true → slice_get ps i ≡ None → slice_get is i ≡ None
no-input g [] [] i h e = refl
no-input g [] (y ∷ ys) i h e = absurd (let bad : false ≡ true = h in cc)
no-input g (q ∷ ps) [] i h e = refl
no-input g (q ∷ ps) (y ∷ ys) zero h e = absurd (let bad : Some q ≡ None = e in cc)
no-input g (q ∷ ps) (y ∷ ys) (suc i) h e = no-input g ps ys i (and_parts (fits g q y) (all_fit g ps ys) h).1 e

-- the sort of a term that an optional place takes
pub optional-sort : (g : Graph) (b : Bool) (q : Place) (m : Option ℕ) (t : ℕ) → optional_fits g b q m ≡ true → m ≡ Some t → takes_sort q (sort_at g t) ≡ true
optional-sort g b q None t h e = absurd (let bad : None ≡ Some t = e in cc)
optional-sort g b q (Some k) t h e = let same : k ≡ t = cc in ap (λ z. takes_sort q (sort_at g z)) (sym same) ∙ (and_parts b (takes_sort q (sort_at g k)) h).1

-- what a place of each kind takes
pub filter-sort : (o : Option Sort) → takes_sort Place.Filter o ≡ true → o ≡ Some Filters
filter-sort (Some Filters) h = refl
filter-sort o h = absurd (let bad : false ≡ true = h in cc)

pub label-sort : (o : Option Sort) → takes_sort Place.LabelClassifier o ≡ true → o ≡ Some Labels
label-sort (Some Labels) h = refl
label-sort o h = absurd (let bad : false ≡ true = h in cc)

-- ---- only formulas over windows read bar columns

abbrev pub no_column : Place → Bool
no_column (Own c) = false
no_column Bar = false
no_column Series = false
no_column q = true

pub no-takes : (q : Place) (c : Column) → no_column q ≡ true → takes_column q c ≡ true → ⊥
no-takes (Own d) c e f = true≢false (sym e)
no-takes Bar c e f = true≢false (sym e)
no-takes Series c e f = true≢false (sym e)
no-takes q c e f = true≢false (sym f)

pub points-free : (f : PointKind) → list_all no_column (point_places f) ≡ true
points-free Neg = refl
points-free f = refl

pub crosses-free : (f : CrossKind) → list_all no_column (cross_places f) ≡ true
crosses-free PeerCount = refl
crosses-free f = refl
