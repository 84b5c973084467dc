-- What the statements that make the tables do to a schema.
use Rattle.std.proofs.Common.{◌≡◌, ◌+◌, ◌∙◌, ◌⊎◌, inl, inr, ℕ, zero, suc, List, [], ◌∷◌, ◌++◌, length, slice_get, Bool, true, false, cond, None, Some, Option, Ok, Err, Result, refl, sym, ap, subst, arith, is_some, append_assoc}
use Rattle.std.specs.Prelude.{◌||◌, if◌then◌else◌}
use Rattle.std.specs.Option.{option_or}
use Rattle.std.specs.List.{position_from}
use Rattle.std.proofs.lemmas.Bool.{cases_Bool}
use Rattle.sqlite.specs.Table.{Table as Stored}
use Rattle.sqlite.specs.Schema.{Schema}
use Rattle.sqlite.specs.Command.TheVariants.{CreateTable}
use Rattle.sqlite.specs.Change.{created, next_tree, is_used}
use Rattle.sqlite.specs.Compile as compile
use Rattle.sqlite.specs.Compile.{compiled, first, planned, is_attached, creates, is_reserved, table_defined_by, table_in}
use Rattle.sqlite.specs.Does.{Tally, lacks_sequence, sequence_text, MakesTable, MakesSequence}
use Rattle.sqlite.specs.Effect.{Database}
use Rattle.sqlite.specs.Listing.{understood}
use Rattle.sqlite.specs.State.{State, Writes, Executes, ExecutesIn}
use Rattle.sqlite.proofs.Callers.{IsPlain, command_of, statement_of, runs_as}
use Rattle.sqlite_tied.specs.Compute.{everything}
use Rattle.sqlite_schema.specs.Names.{same_name, table_named, index_named, view_named}
use Rattle.sqlite_schema.specs.Rules.{places_named}
use Rattle.sqlite_syntax.specs.declared.statement.Parsed.{Parsed}
use Rattle.sqlite_ast.specs.declared.CreateTable.{CreateTable as Definition}
use Rattle.sqlite_ast.specs.declared.Statement.TheVariants as statement
use Rattle.sqlite_resolve.specs.Define as define
use Rattle.sqlite_resolve.specs.declared.compiled.Compiled.{Compiled}
use Rattle.sqlite_resolve.specs.declared.error.CompileError.TheVariants.{Unsupported, Exists}
use Rattle.pl_outside.specs.declared.keeper.Table.{Table}
use Rattle.pl_outside.specs.declared.keeper.Table.TheVariants.{Splits, Mergers, Dividends}
use Rattle.pl_adjust_sql.specs.Tables.{name_of, columns, IsFound}
use Rattle.pl_adjust_sql.specs.Created.{create_statement_of, created_table, created_places}
use Rattle.pl_adjust_sql.proofs.Statements.{settled}

-- ---- how the statement is read

pub record IsCreation (table : Table) : Type 0 where
  pub p : Parsed
  pub parsed : first (create_statement_of table) ≡ Ok p
  pub def : Definition
  pub is : p.statement ≡ statement.CreateTable def
  pub bare : (p.names ≡ []) × (p.formats ≡ [])
  pub new : (def.if_missing ≡ false) × (is_reserved def.name ≡ false) × (def.resolves ≡ false)
  pub table_is : define.table [] def ≡ Ok (created_table table 0)

abbrev make : Parsed → Compiled
make p = record { command = CreateTable; returning = None; names = []; formats = []; start = p.start; end = p.end; tail = p.tail }

module _ (s : Schema) (table : Table) (q : IsCreation table) where
  abbrev same : Bool
  same = is_some (option_or (table_named s q.def.name) (view_named s q.def.name))

  abbrev other : Bool
  other = is_some (index_named s q.def.name)

  -- it is refused where the name is not free, and else it makes the table
  compiled_as : (b c d : Bool) → is_attached s q.def.name ≡ b → other ≡ c → same ≡ d
      → compiled s (create_statement_of table) ≡ (if b then Err Unsupported else if c then Err Exists else if d then Err Exists else Ok (make q.p))
  unfolding compiled planned compile.meaning compile.returning compile.command compile.create_table compile.timed creates
  compiled_as true c d e f g = rw (q.parsed, q.is, q.bare.0, q.bare.1, e)
  compiled_as false true d e f g = rw (q.parsed, q.is, q.bare.0, q.bare.1, e, q.new.1, f)
  compiled_as false false true e f g = rw (q.parsed, q.is, q.bare.0, q.bare.1, e, q.new.1, f, g, q.new.0)
  compiled_as false false false e f g = rw (q.parsed, q.is, q.bare.0, q.bare.1, e, q.new.1, f, g, q.table_is, q.new.2)

  -- a statement that is understood makes a table
  understood_as : (it : Compiled) → understood s (create_statement_of table) ≡ Ok it → understood s (create_statement_of table) ≡ Ok (make q.p)
  understood_as it ok = here _ _ _ (compiled_as _ _ _ refl refl refl)
    where
      here : (b c d : Bool) → compiled s (create_statement_of table) ≡ (if b then Err Unsupported else if c then Err Exists else if d then Err Exists else Ok (make q.p))
          → understood s (create_statement_of table) ≡ Ok (make q.p)
      here false false false e = (settled s _ _ e refl).0
      here b c d e = absurd (let r = settled s _ _ e refl in let bad = sym r.0 ∙ ok in cc)

pub creation_of : (table : Table) → IsCreation table
unfolding everything
creation_of Splits = record { p = _; parsed = refl; def = _; is = refl; bare = (refl, refl); new = (refl, refl, refl); table_is = refl }
creation_of table = record { p = _; parsed = refl; def = _; is = refl; bare = (refl, refl); new = (refl, refl, refl); table_is = refl }

pub defined_as : (table : Table) → table_defined_by (create_statement_of table) ≡ Ok (created_table table 0)
unfolding table_defined_by table_in
defined_as table = let q = creation_of table in rw (q.parsed, q.is, q.bare.1) q.table_is

-- the text that is kept is the whole statement
whole : (table : Table) → statement_of (create_statement_of table) (Ok (make (creation_of table).p)) ≡ create_statement_of table
unfolding creation_of everything
whole Splits = refl
whole table = refl

-- ---- lists that get longer

module _ {X : Type 0} (p : X → Bool) where
  place_stays : (xs ys : List X) (from k : ℕ) → position_from p from xs ≡ Some k → position_from p from (xs ++ ys) ≡ Some k
  place_stays [] ys from k e = absurd cc
  place_stays (x ∷ xs) ys from k e = elim (p x) as (λ b. cond b (Some from) (position_from p (from + 1) xs) ≡ Some k → cond b (Some from) (position_from p (from + 1) (xs ++ ys)) ≡ Some k) [
    | true ↦ λ here. here
    | false ↦ λ later. place_stays xs ys (from + 1) k later
  ] e

  place_of_new : (xs ys : List X) (y : X) (from : ℕ) → position_from p from xs ≡ None → p y ≡ true → position_from p from (xs ++ y ∷ ys) ≡ Some (from + length xs)
  place_of_new [] ys y from e is = rw is (let same : from ≡ from + 0 = omega arith in ap Some same)
  place_of_new (x ∷ xs) ys y from e is = elim (p x) as (λ b. cond b (Some from) (position_from p (from + 1) xs) ≡ None → cond b (Some from) (position_from p (from + 1) (xs ++ y ∷ ys)) ≡ Some (from + suc (length xs))) [
    | true ↦ λ here. absurd cc
    | false ↦ λ later. let same : from + 1 + length xs ≡ from + suc (length xs) = omega arith in place_of_new xs ys y (from + 1) later is ∙ ap Some same
  ] e

get_stays : {X : Type 0} (xs ys : List X) (k : ℕ) (x : X) → slice_get xs k ≡ Some x → slice_get (xs ++ ys) k ≡ Some x
get_stays [] ys k x e = absurd cc
get_stays (z ∷ xs) ys zero x e = e
get_stays (z ∷ xs) ys (suc k) x e = get_stays xs ys k x e

get_new : {X : Type 0} (xs ys : List X) (y : X) → slice_get (xs ++ y ∷ ys) (length xs) ≡ Some y
get_new [] ys y = refl
get_new (x ∷ xs) ys y = get_new xs ys y

-- ---- what the statement makes

none_of : (o : Option ℕ) → is_some o ≡ false → o ≡ None
none_of None e = refl
none_of (Some n) e = absurd cc

left_of : (a b c : Bool) → (a || b || c) ≡ false → a ≡ false
left_of true b c e = e
left_of false b c e = refl

went : {B E R : Type 0} {b : B} {Stops : E → Type 0} → ((stop : E) × Stops stop × (Ok b ≡ Err stop)) ⊎ R → R
went (inl stopped) = absurd (let e = stopped.2 in cc)
went (inr on) = on

same_value : {B E : Type 0} {a b : B} → ◌≡◌ {A = Result B E} (Ok a) (Ok b) → a ≡ b
same_value e = cc

-- The schema gets the table at its end, and perhaps SQLite's own table of counters after it.
pub record Grows (table : Table) (old new : Schema) : Type 0 where
  pub tree : ℕ
  pub rest : List Stored
  pub is : new.tables ≡ old.tables ++ created_table table tree ∷ rest
  pub free : table_named old (name_of table) ≡ None

-- the table is made, and then perhaps that of counters
ends_so : (table : Table) (old : Schema) (first last : Database) (made : Stored) → first.schema ≡ created old made → made ≡ created_table table 0 → MakesSequence first (Ok last)
    → (rest : List Stored) × (last.schema.tables ≡ old.tables ++ created_table table (next_tree old) ∷ rest)
ends_so table old first last made is same made_sequence =
    let front : first.schema.tables ≡ old.tables ++ created_table table (next_tree old) ∷ [] = ap (λ s. s.tables) is ∙ ap (λ t. (created old t).tables) same in
    elim (cases_Bool (lacks_sequence first.schema)) [
      | inl lacks ↦ (let more : MakesTable sequence_text first (Ok last) = rw lacks at made_sequence in
          (record (more.table) { tree = next_tree first.schema } ∷ [], ap (λ s. s.tables) more.is ∙ ap (λ ts. ts ++ record (more.table) { tree = next_tree first.schema } ∷ []) front ∙ append_assoc old.tables _ _))
      | inr has ↦ (let same_db : last ≡ first = same_value (rw has at made_sequence) in
          ([], ap (λ (d : Database). d.schema.tables) same_db ∙ front))
    ]

pub grows : (table : Table) (old new : State) (count : ℕ) → Executes (create_statement_of table) [] old new (Ok count) → Grows table old.now.schema new.now.schema
unfolding ExecutesIn
grows table old new count h =
    let text = create_statement_of table in
    let s = old.now.schema in
    let q = creation_of table in
    let known = understood_as s table q h.0 h.1.is in
    let ran = runs_as text [] old new s refl CreateTable (ap command_of known) (subst IsPlain (sym known) (refl, refl)) count h in
    let w : Writes old new None CreateTable text [] count = subst (λ t. Writes old new None CreateTable t [] count) (ap (statement_of text) known ∙ whole table) ran in
    let all = went w.changed in
    let first = went all.1 in
    let made = first.1 in
    let same : made.table ≡ created_table table 0 = same_value (sym made.defined ∙ defined_as table) in
    let so = ends_so table s first.0 all.0 made.table made.is same first.2 in
    let now : new.now ≡ all.0 = ap (λ (p : Tally × Database). p.1) (same_value all.2) in
    record {
      tree = next_tree s;
      rest = so.0;
      is = ap (λ (d : Database). d.schema.tables) now ∙ so.1;
      free = none_of (table_named s (name_of table)) (left_of _ _ _ (subst (λ (t : Stored). is_used s t.name ≡ false) same made.free));
    }

-- ---- how it is found

pub has_its_name : (table : Table) → same_name (name_of table) (name_of table) ≡ true
unfolding same_name
has_its_name Splits = refl
has_its_name table = refl

pub are_placed : (table : Table) (tree : ℕ) → places_named (created_table table tree) columns ≡ Some created_places
unfolding same_name
are_placed table tree = refl

pub found : (table : Table) (old new : Schema) (g : Grows table old new) → IsFound new table (created_table table g.tree) created_places
found table old new g =
    let within : 0 + length old.tables ≡ length old.tables = omega arith in
    let test = λ (t : Stored). same_name t.name (name_of table) in
    record {
      at = length old.tables;
      named = ap (position_from test 0) g.is ∙ place_of_new test old.tables g.rest (created_table table g.tree) 0 g.free (has_its_name table) ∙ ap Some within;
      is = ap (λ ts. slice_get ts (length old.tables)) g.is ∙ get_new old.tables g.rest (created_table table g.tree);
      placed = are_placed table g.tree;
    }

pub stays : (made table : Table) (old new : Schema) → Grows made old new → (stored : Stored) (places : List ℕ) → IsFound old table stored places → IsFound new table stored places
stays made table old new g stored places f =
    let test = λ (t : Stored). same_name t.name (name_of table) in
    let more = created_table made g.tree ∷ g.rest in
    record {
      at = f.at;
      named = ap (position_from test 0) g.is ∙ place_stays test old.tables more 0 f.at f.named;
      is = ap (λ ts. slice_get ts f.at) g.is ∙ get_stays old.tables more f.at stored f.is;
      placed = f.placed;
    }

abbrev IsMade : Schema → Table → Type 0
IsMade schema table = (tree : ℕ) × IsFound schema table (created_table table tree) created_places

pub each : (schema : Schema) → IsMade schema Splits → IsMade schema Mergers → IsMade schema Dividends → (table : Table) → IsMade schema table
each schema splits mergers dividends Splits = splits
each schema splits mergers dividends Mergers = mergers
each schema splits mergers dividends Dividends = dividends
