-- No two ids are the same, wherever the rowids of the stored rows rise.
use Rattle.std.proofs.Common.{◌≡◌, ◌∙◌, ◌<◌, ◌<ℤ◌, ◌≤ℤ◌, ℤ, ℕ, Bool, true, false, List, [], ◌∷◌, map, length, refl, sym, ap, subst, arith, slice_index_or, AllPairs}
use Rattle.std.specs.declared.cmp.Ordering.{Ordering}
use Rattle.std.specs.declared.cmp.Ordering.TheVariants.{Less}
use Rattle.std.specs.Ordering.{is_eq, ordering_reverse}
use Rattle.std.specs.List.{AllByRecursion, IsDistinct}
use Rattle.std.specs.List.Sorted.{IsPermutation}
use Rattle.std.proofs.lemmas.Int.{by_lt_z, ints}
use Rattle.std.proofs.lemmas.Cmp.{tied_itself}
use Rattle.std.proofs.lemmas.List.{get_or-map, length-map}
use Rattle.std.proofs.lemmas.List.Sorted.{IsPermutation-map}
use Rattle.std.proofs.lemmas.Map.Keys.{IsDistinct-IsPermutation, apart_from_distinct}
use Rattle.sqlite_value.specs.Order.{Row, column, value_cmp}
use Rattle.sqlite_value.specs.declared.value.Value.{Value}
use Rattle.sqlite_value.specs.declared.value.Value.TheVariants.{Int}
use Rattle.sqlite_value.proofs.OrderLemmas.{value_cmp_total}
use Rattle.sqlite_trees.specs.Tree.{rowid, IsTable}
use Rattle.pl_outside.specs.Lists.{IsAscending}
use Rattle.pl_spec.specs.declared.RawAdjust.{RawAdjust}
use Rattle.pl_adjust_sql.specs.Rows.{shown, row_of}

abbrev ties : Value → Value → Bool
ties a b = is_eq (value_cmp a b)

reversed : (o : Ordering) → is_eq (ordering_reverse o) ≡ is_eq o
reversed Less = refl
reversed o = refl

flips : (a b : Value) → ties a b ≡ ties b a
flips a b = ap is_eq (value_cmp_total.antisymm a b) ∙ reversed (value_cmp b a)

abbrev first : Row → Value
first row = column row 0

below_all : (more : List ℕ) (row : Row) (rows : List Row) → AllByRecursion (λ other. value_cmp (rowid row) (rowid other) ≡ Less) rows
    → AllByRecursion (λ v. ties (first (shown (0 ∷ more) row)) v ≡ false) (map first (map (shown (0 ∷ more)) rows))
below_all more row [] below = tt
below_all more row (r ∷ rows) below = (ap is_eq below.0, below_all more row rows below.1)

rowids_differ : (more : List ℕ) (stored : List Row) → IsTable stored → IsDistinct ties (map first (map (shown (0 ∷ more)) stored))
unfolding IsDistinct
rowids_differ more [] up = tt
rowids_differ more (row ∷ rows) up = (below_all more row rows up.0, rowids_differ more rows up.1)

id_at : (rows : List RawAdjust) (i : ℕ) (d : RawAdjust) (v : Value) → i < length rows → slice_index_or (map first (map row_of rows)) i v ≡ Int (slice_index_or rows i d).id
id_at rows i d v within =
    get_or-map first (map row_of rows) i (row_of d) v (omega (arith, length-map rows row_of)) ∙ ap first (get_or-map row_of rows i d (row_of d) within)

strictly : (a b : ℤ) → a ≤ℤ b → ties (Int a) (Int b) ≡ false → a <ℤ b
strictly a b at_most apart =
    by_lt_z a b (λ before. before) (λ after.
    let same : b ≡ a = omega (arith, ints) in
    let tied : ties (Int a) (Int b) ≡ true = subst (λ n. ties (Int a) (Int n) ≡ true) (sym same) (ap is_eq (tied_itself value_cmp_total (Int a))) in
    absurd (let bad : true ≡ false = sym tied ∙ apart in cc))

pub ids_ascend : (more : List ℕ) (stored : List Row) (rows : List RawAdjust) → IsPermutation (map (shown (0 ∷ more)) stored) (map row_of rows) → AllPairs (λ a b. a.id ≤ℤ b.id) rows
    → IsTable stored → IsAscending rows
ids_ascend more stored rows same ascend up i j d below within =
    let moved = IsPermutation-map first (map (shown (0 ∷ more)) stored) (map row_of rows) same in
    let differ = IsDistinct-IsPermutation ties flips _ _ moved (rowids_differ more stored up) in
    let counted = length-map (map row_of rows) first ∙ length-map rows row_of in
    let here = id_at rows i d (Int d.id) (omega arith) in
    let there = id_at rows j d (Int d.id) within in
    let apart = apart_from_distinct ties (map first (map row_of rows)) i j (Int d.id) differ below (omega arith) in
    strictly (slice_index_or rows i d).id (slice_index_or rows j d).id (ascend i j d below within) (rw (here, there) at apart)
