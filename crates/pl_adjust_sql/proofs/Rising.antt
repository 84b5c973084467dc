-- The rows of a table rise by their rowids.
use Rattle.std.proofs.Common.{◌≡◌, ℕ, Bool, true, false, IsTrue, slice_get, Some, refl, subst}
use Rattle.sqlite.specs.Schema.{Schema}
use Rattle.sqlite.specs.Table.{Table as Stored}
use Rattle.sqlite_trees.specs.declared.store.Shape.{Shape}
use Rattle.sqlite_trees.specs.declared.store.Shape.TheVariants as shape
use Rattle.sqlite_trees.specs.Tree.{IsTable}
use Rattle.sqlite_trees.specs.Objects.{catalog_tree, IsListed}
use Rattle.sqlite_trees.specs.View.{View, IsOrdered, IsShaped}
use Rattle.sqlite_catalog.specs.Listing.{IsSound}
use Rattle.sqlite_catalog.proofs.LayoutLemmas.{laid_out, objects_rise}
use Rattle.sqlite_trees.proofs.ListLemmas.{all-slice_get}

-- as the store keeps them while the transaction isn't broken
pub rows_rise : (v : View) (schema : Schema) → IsSound schema v.trees → IsListed (v.trees catalog_tree) v.shape v.reals → IsOrdered v.shape v.trees
    → (at : ℕ) (t : Stored) → slice_get schema.tables at ≡ Some t → IsTable (v.trees t.tree)
rows_rise v schema sound listed ordered at t is =
    let laid = laid_out listed (objects_rise v listed ordered) sound.lists.listed in
    let shaped = all-slice_get (λ (x : Stored). v.shape x.tree ≡ shape.Table) schema.tables at t is laid.tables in
    (subst (λ (s : Shape). IsShaped s (v.trees t.tree)) shaped (ordered t.tree)).0

-- a store that isn't broken is open
pub opened : (open' broken : Bool) → (open' ≡ false → IsTrue broken) → broken ≡ false → IsTrue open'
opened true broken shut unbroken = refl
opened false true shut unbroken = absurd (let bad : true ≡ false = unbroken in cc)
opened false false shut unbroken = absurd (let bad : false ≡ true = shut refl in cc)
