-- The tables of adjustments as the documented statements make them.
use Rattle.std.specs.Prelude.{◌≡◌, ℕ, List, [], ◌∷◌, ◌++◌, codes, Bool, true, false, Some}
use Rattle.sqlite.specs.Collation.TheVariants.{Binary}
use Rattle.sqlite.specs.declared.types.Value.TheVariants.{Null}
use Rattle.sqlite.specs.Table.{Table as Stored}
use Rattle.sqlite.specs.Kind.TheVariants.{Integer}
use Rattle.sqlite_value.specs.Order.{Row, column}
use Rattle.sqlite_value.specs.declared.value.Value.TheVariants.{Text}
use Rattle.sqlite_schema.specs.declared.schema.Column.{Column}
use Rattle.sqlite_catalog.specs.Listing.{is_table_row}
use Rattle.pl_outside.specs.declared.keeper.Table.{Table}
use Rattle.pl_adjust_sql.specs.Tables.{name_of}

abbrev pub line_end : List ℕ
line_end = 10 ∷ []

abbrev pub create_statement_of : Table → List ℕ
create_statement_of table =
    codes "CREATE TABLE " ++ (name_of table
    ++ (codes " (id INTEGER PRIMARY KEY, effective_date INTEGER NOT NULL," ++ (line_end
    ++ codes "  num INTEGER NOT NULL, den INTEGER NOT NULL, sid INTEGER NOT NULL) STRICT")))

-- a column of integers of a strict table
abbrev pub integers : List ℕ → Bool → Column
integers name not_null = record {
  name = name;
  kind = Integer;
  is_strict = true;
  not_null = not_null;
  default = Null;
  collation = Binary;
}

-- the table that the statement makes, with its rows in the tree of this number
abbrev pub created_table : Table → ℕ → Stored
created_table table tree = record {
  name = name_of table;
  tree = tree;
  columns = integers (codes "id") false
      ∷ integers (codes "effective_date") true
      ∷ integers (codes "num") true
      ∷ integers (codes "den") true
      ∷ integers (codes "sid") true ∷ [];
  key = Some 0;
  primary = 0 ∷ [];
  uniques = [];
  orders = [];
  checks = [];
  references = [];
  computed = [];
  stamps = record { places = []; terms = []; formats = [] };
  is_counted = false;
}

-- Where a stored row has the columns. The id is the rowid, and place 1, where it is declared, has NULL.
abbrev pub created_places : List ℕ
created_places = 0 ∷ 2 ∷ 3 ∷ 4 ∷ 5 ∷ []

-- The row of sqlite_schema is that of a table, and its text is the documented statement. Statements may read
-- the table: it is not kept aside for a trigger or an index that isn't understood.
pub record IsListed (table : Table) (row : Row) : Type 0 where
  pub kind : is_table_row row ≡ true
  pub text : column row 4 ≡ Text (create_statement_of table)
