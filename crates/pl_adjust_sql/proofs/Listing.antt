-- How a table is found that sqlite_schema lists.
use Rattle.std.proofs.Common.{◌≡◌, ◌+◌, ◌∙◌, inl, inr, ℕ, zero, suc, List, [], ◌∷◌, slice_get, true, false, Some, Ok, IsTrue, refl, sym, ap, subst, arith, pos}
use Rattle.std.specs.List.{position_from, AllZip}
use Rattle.sqlite.specs.Table.{Table as Stored}
use Rattle.sqlite.specs.State.{State, IsLive}
use Rattle.sqlite_value.specs.Order.{Row}
use Rattle.sqlite_value.specs.declared.value.Value.TheVariants.{Int}
use Rattle.sqlite_trees.specs.Tree.{IsAscending, rowid}
use Rattle.sqlite_trees.specs.Objects.{catalog_tree}
use Rattle.sqlite_rules.specs.Lists.{Has}
use Rattle.sqlite_schema.specs.Names.{same_name}
use Rattle.sqlite.specs.Compile.{table_defined_by}
use Rattle.sqlite_catalog.specs.Listing.{IsTableRow, is_table_row}
use Rattle.sqlite_rules.proofs.ListLemmas.{has_kept}
use Rattle.sqlite_trees.proofs.ListLemmas.{all-slice_get}
use Rattle.pl_outside.specs.declared.keeper.Table.{Table}
use Rattle.pl_adjust_sql.specs.Tables.{name_of, IsFound}
use Rattle.pl_adjust_sql.specs.Created.{create_statement_of, created_table, created_places, IsListed}
use Rattle.pl_adjust_sql.proofs.Creating.{defined_as, has_its_name, are_placed}

zipped : (rows : List Row) (tables : List Stored) → AllZip IsTableRow rows tables → (row : Row) → Has rows row → (i : ℕ) × (t : Stored) × (slice_get tables i ≡ Some t) × IsTableRow row t
zipped [] tables all row has = absurd has
zipped (r ∷ rows) [] all row has = absurd all
zipped (r ∷ rows) (t ∷ tables) all row (inl same) = (0, t, refl, subst (λ (x : Row). IsTableRow x t) (sym same) all.0)
zipped (r ∷ rows) (t ∷ tables) all row (inr later) = let at = zipped rows tables all.1 row later in (suc at.0, at.1, at.2, at.3)

-- no two tables have one name, so the name finds the table that has it
abbrev Apart : Stored → Stored → Type 0
Apart s t = same_name s.name t.name ≡ false

named_at : (name : List ℕ) → same_name name name ≡ true → (tables : List Stored) (i : ℕ) (t : Stored) (from : ℕ) → slice_get tables i ≡ Some t → t.name ≡ name → IsAscending Apart tables
    → position_from (λ (x : Stored). same_name x.name name) from tables ≡ Some (from + i)
named_at name itself [] i t from at is apart = absurd cc
named_at name itself (x ∷ tables) zero t from at is apart =
    let same : x ≡ t = cc in
    let yes' : same_name x.name name ≡ true = ap (λ n. same_name n name) (ap (λ (y : Stored). y.name) same ∙ is) ∙ itself in
    let here : from ≡ from + 0 = omega arith in
    rw yes' (ap Some here)
named_at name itself (x ∷ tables) (suc i) t from at is apart =
    let no' : same_name x.name name ≡ false = subst (λ n. same_name x.name n ≡ false) is (all-slice_get (Apart x) tables i t at apart.0) in
    let there : from + 1 + i ≡ from + suc i = omega arith in
    rw no' (named_at name itself tables i t (from + 1) at is apart.1 ∙ ap Some there)

pub listed_is_found : (table : Table) (s : State) → IsLive s → IsTrue s.is_open → (row : Row) → Has (s.now.trees catalog_tree) row → IsListed table row
    → (tree : ℕ) × (rowid row ≡ Int (pos (tree + 1))) × IsFound s.now.schema table (created_table table tree) created_places
listed_is_found table s live open' row has listed =
    let lists = ((live open').0).lists.listed in
    let at = zipped _ s.now.schema.tables lists.tables row (has_kept is_table_row (s.now.trees catalog_tree) row has listed.kind) in
    let t = at.1 in
    let is = at.3 in
    let text : is.sql ≡ create_statement_of table = (let one = sym is.sql_is ∙ listed.text in cc) in
    let made = is.defined in
    let table_is : made.0 ≡ created_table table 0 = (let both = sym (subst (λ sql. table_defined_by sql ≡ Ok made.0) text made.1) ∙ defined_as table in cc) in
    let same : t ≡ created_table table t.tree = made.2 ∙ ap (λ (m : Stored). record m { tree = t.tree }) table_is in
    let within : 0 + at.0 ≡ at.0 = omega arith in (
      t.tree,
      is.described.id,
      record {
        at = at.0;
        named = named_at (name_of table) (has_its_name table) s.now.schema.tables at.0 t 0 at.2 (ap (λ (x : Stored). x.name) same) lists.named ∙ ap Some within;
        is = at.2 ∙ ap Some same;
        placed = are_placed table t.tree;
      },
    )
