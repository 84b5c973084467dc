-- What SQLite makes of a statement that shows five columns of one table and sorts by the first.
use Rattle.std.proofs.Common.{◌≡◌, ◌-◌, ℕ, List, [], ◌∷◌, ◌++◌, codes, Ok, Err, refl, Some, None, true, false, Bool, slice_get, nat_lt, map, if◌then◌else◌, ◌⊎◌, inl, inr, pos, negsuc}
use Rattle.std.proofs.lemmas.Bool.{cases_Bool}
use Rattle.sqlite.specs.Table.{Table}
use Rattle.sqlite.specs.Schema.{Schema}
use Rattle.sqlite.specs.Term.{Term, lit, col}
use Rattle.sqlite.specs.Query.{Query, inner, end}
use Rattle.sqlite.specs.declared.types.Value.TheVariants.{Int}
use Rattle.sqlite_value.specs.Keys.{ascending}
use Rattle.sqlite_value.specs.declared.keys.Key.{Key}
use Rattle.sqlite_value.specs.declared.keys.Collation.{Collation}
use Rattle.sqlite_schema.specs.declared.schema.Column.{Column}
use Rattle.sqlite_schema.specs.Names.{table_named, column_named, place_of}
use Rattle.sqlite_ast.specs.declared.Expr.{Expr, out-Expr}
use Rattle.sqlite_ast.specs.declared.Expr.TheOpen.{Expr-F, Shown-F}
use Rattle.sqlite_ast.specs.declared.Origin.TheVariants as origin
use Rattle.sqlite_ast.specs.declared.Source.{Source, out-Source}
use Rattle.sqlite_ast.specs.declared.Shown as written
use Rattle.sqlite_ast.specs.declared.Core.{Core, out-Core}
use Rattle.sqlite_ast.specs.declared.Sort.{Sort, out-Sort}
use Rattle.sqlite_ast.specs.declared.Select.{Select, out-Select}
use Rattle.sqlite_draft.specs.declared.join.Step.TheVariants.{Inner}
use Rattle.sqlite_draft.specs.declared.query.Draft.{Draft}
use Rattle.sqlite_draft.specs.Query.{query_of}
use Rattle.sqlite_resolve.specs.Compile as compile
use Rattle.sqlite_resolve.specs.Compile.{compiled, first, planned}
use Rattle.sqlite_resolve.specs.declared.compiled.Compiled.{Compiled}
use Rattle.sqlite_syntax.specs.declared.statement.Parsed.{Parsed}
use Rattle.sqlite_ast.specs.declared.Statement.TheVariants as statement
use Rattle.sqlite.specs.Command.TheVariants as command
use Rattle.sqlite_typing.specs.Types.{accepts_program}
use Rattle.sqlite_resolve.specs.declared.error.CompileError.TheVariants.{Mismatch}
use Rattle.sqlite_resolve.specs.Lowering.{take_slot, fresh, max_budget, begin, finish, spend, alone}
use Rattle.sqlite_resolve.specs.Scope.{Context, declared, column, find, in_level, only, hit, column_in, column_at, term_of, is_among, alias_of}
use Rattle.sqlite_resolve.specs.Body as body
use Rattle.sqlite_resolve.specs.Body.{bounds, bound, table_in, within}
use Rattle.sqlite_resolve.specs.Order as order
use Rattle.sqlite_resolve.specs.Select as select
use Rattle.sqlite_resolve.specs.Select.{outermost, inside, parts}
use Rattle.sqlite_resolve.specs.Program as program
use Rattle.sqlite_resolve.specs.Terms.{number}
use Rattle.sqlite_resolve.specs.Expr.{lower, lower_to, node, opened, passes}
use Rattle.sqlite_resolve.specs.declared.scope.Bound.{Bound}
use Rattle.sqlite_resolve.specs.declared.scope.Level.{Level}
use Rattle.sqlite_resolve.specs.declared.scope.Output.{Output}
use Rattle.sqlite_resolve.specs.declared.scope.Found.TheVariants as found
use Rattle.sqlite_resolve.specs.declared.state.State.{State}
use Rattle.sqlite_resolve.specs.declared.state.Carried.{Carried}

-- ---- the query that such a statement stands for

-- five columns of one tree, by the first of them
abbrev pub query : ℕ → Collation → ℕ → ℕ → ℕ → ℕ → ℕ → Query
query tree how a b c d e = record {
  from = inner tree end;
  filter = [];
  group = None;
  project = col 1 a ∷ col 1 b ∷ col 1 c ∷ col 1 d ∷ col 1 e ∷ [];
  distinct = false;
  collations = [];
  order = (col 1 a, ascending how) ∷ [];
  limit = lit (Int (negsuc 0));
  offset = lit (Int (pos 0));
}

-- ---- the statement as it is parsed

-- a column of this name is shown
pub record Shows (what : written.Shown) (name : List ℕ) : Type 0 where
  pub e : Expr
  pub text : List ℕ
  pub shown : written.out-Shown what ≡ Shown-F.One e None text
  pub bare : out-Expr e ≡ Expr-F.Column None name

-- one table is read
pub record Reads (src : Source) (name : List ℕ) : Type 0 where
  pub origin_is : (out-Source src).origin ≡ origin.Table name
  pub alias : (out-Source src).alias ≡ None
  pub on : (out-Source src).on ≡ None
  pub using : (out-Source src).using ≡ []
  pub inner_join : (out-Source src).is_left ≡ false

-- by a column
pub record Sorts (by : Sort) (name : List ℕ) : Type 0 where
  pub bare : out-Expr (out-Sort by).key ≡ Expr-F.Column None name
  pub up : (out-Sort by).descending ≡ false
  pub nulls : (out-Sort by).nulls_first ≡ None

-- ---- the column of a name

pub record HasColumn (t : Table) (name : List ℕ) : Type 0 where
  pub place : ℕ
  pub column : Column
  pub named : column_named t name ≡ Some place
  pub is : slice_get t.columns place ≡ Some column

abbrev carried_of : {t : Table} {name : List ℕ} → HasColumn t name → Carried
carried_of {t} c = declared t c.place c.column

abbrev output_of : {t : Table} {name : List ℕ} → HasColumn t name → Output
output_of {t} c = record { name = c.column.name; is_alias = false; is_column = true; term = col 1 (place_of t c.place); carried = carried_of c }

-- the table, which is the only one of the statement
abbrev only_one : List ℕ → ℕ → Bound
only_one name at = record { name = name; table = at; slot = 1; shared = [] }

abbrev start : State
start = fresh 1 max_budget

-- what is left after a column was read
abbrev after : State → Carried → State
after st last = record st { budget = st.budget - 1; written = None; last = last }

unpeeled : (e : Expr) (n : List ℕ) → out-Expr e ≡ Expr-F.Column None n → order.peeled e ≡ e
unfolding order.peeled
unpeeled e n bare = rw bare

module _ (s : Schema) (name : List ℕ) (at : ℕ) (t : Table) (named : table_named s name ≡ Some at) (is : slice_get s.tables at ≡ Some t) where
  bounds_are : (src : Source) → Reads src name → bounds s (src ∷ []) start ≡ Ok (only_one name at ∷ [], record start { next = 2 })
  unfolding bounds bound take_slot table_in
  bounds_are src reads = rw (reads.origin_is, reads.alias, reads.using, named)

  module _ (cx : Context) (shown : List Output) (over : cx.schema ≡ s) (levels : cx.levels ≡ record { tables = only_one name at ∷ []; shown = shown } ∷ []) where
    found_at : (n : List ℕ) (c : HasColumn t n) → find cx None n ≡ Ok (found.Column 1 at c.place)
    unfolding find in_level only hit column_in is_among
    found_at n c = rw (over, levels, is, c.named)

    lowered : (e : Expr) (n : List ℕ) → out-Expr e ≡ Expr-F.Column None n → (c : HasColumn t n) (st : State) → st.written ≡ None → nat_lt 1 st.budget ≡ true
        → lower cx e st ≡ Ok (col 1 (place_of t c.place), after st (carried_of c))
    unfolding lower_to node opened column term_of column_at begin finish spend passes
    lowered e n bare c st unwritten rich = rw (rich, unwritten, bare, found_at n c, over, is, c.is)

    shown_is : (what : written.Shown) (n : List ℕ) → Shows what n → (c : HasColumn t n) (done : List Output) (tables : List Bound) (st : State) → st.written ≡ None → nat_lt 1 st.budget ≡ true
        → body.shown lower cx tables done what st ≡ Ok (done ++ output_of c ∷ [], after st (carried_of c))
    unfolding body.shown body.heading body.is_column body.declared
    shown_is what n shows c done tables st unwritten rich =
        let low = lowered shows.e n shows.bare c st unwritten rich in
        rw (shows.shown, low, shows.bare, found_at n c, over, is, c.is)

    unaliased : (outs : List Output) (e : Expr) (n : List ℕ) → out-Expr e ≡ Expr-F.Column None n → alias_of n outs ≡ None → order.alias_in outs e ≡ None
    unfolding order.alias_in
    unaliased outs e n bare none = rw bare none

    sorted : (by : Sort) (n : List ℕ) → Sorts by n → (c : HasColumn t n) (outs : List Output) → alias_of n outs ≡ None → (st : State) → st.written ≡ None → nat_lt 1 st.budget ≡ true
        → order.sorts lower cx outs (by ∷ []) st ≡ Ok ((col 1 (place_of t c.place), record { collation = alone (carried_of c); descending = false }) ∷ [], after st (carried_of c))
    unfolding order.sorts order.sort order.key order.collation_of order.is_numeral order.written_on order.placed
    sorted by n sorts c outs none st unwritten rich =
        let e = (out-Sort by).key in
        let low = lowered e n sorts.bare c st unwritten rich in
        rw (unpeeled e n sorts.bare, unaliased outs e n sorts.bare none, low, sorts.bare, sorts.up, sorts.nulls)

  -- a statement that shows five columns and sorts by the first
  module _ (src : Source) (reads : Reads src name) (by : Sort) (a b c d e : written.Shown) (na nb nc nd ne : List ℕ) (shows_a : Shows a na) (shows_b : Shows b nb) (shows_c : Shows c nc) (shows_d : Shows d nd) (shows_e : Shows e ne)
      (sorts : Sorts by na) (ca : HasColumn t na) (cb : HasColumn t nb) (cc' : HasColumn t nc) (cd : HasColumn t nd) (ce : HasColumn t ne) where
    abbrev outs : List Output
    outs = output_of ca ∷ output_of cb ∷ output_of cc' ∷ output_of cd ∷ output_of ce ∷ []

    abbrev tables : List Bound
    tables = only_one name at ∷ []

    abbrev read : State
    read = record start { next = 2; budget = 99995; last = carried_of ce }

    outputs_are : (cx : Context) (shown : List Output) → cx.schema ≡ s → cx.levels ≡ record { tables = only_one name at ∷ []; shown = shown } ∷ []
        → body.outputs lower cx tables (a ∷ b ∷ c ∷ d ∷ e ∷ []) (record start { next = 2 }) ≡ Ok (outs, read)
    unfolding body.outputs
    outputs_are cx shown over levels =
        let st : State = record start { next = 2 } in
        let sa = shown_is cx shown over levels a na shows_a ca [] tables st refl refl in
        let st = after st (carried_of ca) in
        let sb = shown_is cx shown over levels b nb shows_b cb (output_of ca ∷ []) tables st refl refl in
        let st = after st (carried_of cb) in
        let sc = shown_is cx shown over levels c nc shows_c cc' (output_of ca ∷ output_of cb ∷ []) tables st refl refl in
        let st = after st (carried_of cc') in
        let sd = shown_is cx shown over levels d nd shows_d cd (output_of ca ∷ output_of cb ∷ output_of cc' ∷ []) tables st refl refl in
        let st = after st (carried_of cd) in
        let se = shown_is cx shown over levels e ne shows_e ce (output_of ca ∷ output_of cb ∷ output_of cc' ∷ output_of cd ∷ []) tables st refl refl in
        rw (sa, sb, sc, sd, se)

    joined : (cx : Context) → cx.schema ≡ s → (st : State) → body.joins lower cx tables (src ∷ []) st ≡ Ok (record { steps = Inner t.tree ∷ []; filter = [] }, st)
    unfolding body.joins body.join body.shared body.inner_join body.tests
    joined cx over st = rw (reads.on, reads.using, over, is, reads.inner_join)

    module _ (core : Core) (shown_are : (out-Core core).shown ≡ a ∷ b ∷ c ∷ d ∷ e ∷ []) (from_is : (out-Core core).from ≡ src ∷ []) (no_filter : (out-Core core).filter ≡ None) (no_group : (out-Core core).group ≡ [])
        (no_having : (out-Core core).having ≡ None) (plain : (out-Core core).distinct ≡ false) where
      abbrev level : Level
      level = record { tables = tables; shown = outs }

      result_is : body.result lower (outermost s) (record { tables = tables; shown = [] }) core (record start { next = 2 }) ≡ Ok (outs, read)
      unfolding body.result
      result_is = let o = outputs_are (within (outermost s) (record { tables = tables; shown = [] }) true) [] refl refl in rw (shown_are, o)

      matching_is : body.matching lower (outermost s) level core read ≡ Ok (record { steps = Inner t.tree ∷ []; filter = [] }, read)
      unfolding body.matching body.tests
      matching_is = let j = joined (within (outermost s) level false) refl read in rw (from_is, j, no_filter)

      body_is : body.body lower (outermost s) core start ≡ Ok (record { level = level; steps = Inner t.tree ∷ []; filter = [] }, read)
      unfolding body.body
      body_is = let b = bounds_are src reads in rw (from_is, b, result_is, matching_is)

      abbrev key_of_sort : Term × Key
      key_of_sort = (col 1 (place_of t ca.place), record { collation = alone (carried_of ca); descending = false })

      parts_are : parts s core (by ∷ []) start ≡ Ok (record { body = record { level = level; steps = Inner t.tree ∷ []; filter = [] }; is_grouped = false; keys = []; collations = []; having = []; order = key_of_sort ∷ [] }, after read (carried_of ca))
      unfolding parts order.keys select.having body.tests
      parts_are =
          let o = sorted (inside s level false) outs refl refl by na sorts ca outs refl read refl refl in
          rw (body_is, no_group, no_having, o)

      abbrev page : Term × Term
      page = (lit (Int (negsuc 0)), number 0)

      abbrev draft : Draft
      draft = record {
        from = inner t.tree end;
        filter = [];
        group = None;
        project = map (λ o. o.term) outs;
        distinct = false;
        collations = [];
        order = key_of_sort ∷ [];
        limit = lit (Int (negsuc 0));
        offset = number 0;
      }

      named_is : select.named s core (by ∷ []) page ≡ Ok (draft, map (λ o. o.name) outs, map (λ o. o.carried.collation) outs)
      unfolding select.named select.assembled select.ungrouped
      named_is = rw (parts_are, plain)

      alone_is : (again : Schema → Select → program.Building program.Shown) → program.alone again s core (by ∷ []) page [] ≡ Ok ((draft, map (λ o. o.name) outs, map (λ o. o.carried.collation) outs), [])
      unfolding program.alone program.single program.sources program.source program.viewing
      alone_is again = rw (from_is, reads.origin_is, named_is)

      module _ (sel : Select) (first_is : (out-Select sel).first ≡ core) (order_is : (out-Select sel).order ≡ by ∷ []) (no_with : (out-Select sel).with ≡ []) (no_others : (out-Select sel).others ≡ [])
          (no_limit : (out-Select sel).limit ≡ None) (no_offset : (out-Select sel).offset ≡ None) where
        query_is : program.query s sel ≡ Ok ((draft, map (λ o. o.name) outs, map (λ o. o.carried.collation) outs), [])
        unfolding program.query program.query_to program.level program.with program.whole select.paging select.constant_or
        query_is = rw (no_with, no_limit, no_offset, no_others, first_is, order_is, alone_is (program.query_to 15))

        abbrev names : List (List ℕ)
        names = map (λ o. o.name) outs

        abbrev accepted : Bool
        accepted = accepts_program s [] (query_of draft) []

        abbrev meant : Parsed → Compiled
        meant p = record { command = command.Select (record { lets = []; body = query_of draft }) names; returning = None; names = []; formats = []; start = p.start; end = p.end; tail = p.tail }

        compiled_is : (sql : List ℕ) (p : Parsed) → first sql ≡ Ok p → p.statement ≡ statement.Select sel → p.names ≡ [] → p.formats ≡ [] → (b : Bool) → accepted ≡ b → compiled s sql ≡ (if b then Ok (meant p) else Err Mismatch)
        unfolding compiled planned compile.meaning compile.returning compile.command compile.read compile.timed program.program
        compiled_is sql p is_p is_sel no_names no_formats true accepts = rw (is_p, is_sel, no_names, no_formats, query_is, accepts)
        compiled_is sql p is_p is_sel no_names no_formats false refused = rw (is_p, is_sel, no_names, no_formats, query_is, refused)

-- ---- the whole of such a text

-- the text is such a statement on the table of this name
pub record IsParsed (sql name : List ℕ) : Type 0 where
  pub p : Parsed
  pub parsed : first sql ≡ Ok p
  pub sel : Select
  pub selects : p.statement ≡ statement.Select sel
  pub bare : (p.names ≡ []) × (p.formats ≡ [])
  pub core : Core
  pub by : Sort
  pub whole : ((out-Select sel).first ≡ core) × ((out-Select sel).order ≡ by ∷ []) × ((out-Select sel).with ≡ []) × ((out-Select sel).others ≡ []) × ((out-Select sel).limit ≡ None) × ((out-Select sel).offset ≡ None)
  pub src : Source
  pub a : written.Shown
  pub b : written.Shown
  pub c : written.Shown
  pub d : written.Shown
  pub e : written.Shown
  pub parts : ((out-Core core).shown ≡ a ∷ b ∷ c ∷ d ∷ e ∷ []) × ((out-Core core).from ≡ src ∷ []) × ((out-Core core).filter ≡ None) × ((out-Core core).group ≡ []) × ((out-Core core).having ≡ None) × ((out-Core core).distinct ≡ false)
  pub reads : Reads src name
  pub sorts : Sorts by (codes "id")
  pub shows_a : Shows a (codes "id")
  pub shows_b : Shows b (codes "effective_date")
  pub shows_c : Shows c (codes "num")
  pub shows_d : Shows d (codes "den")
  pub shows_e : Shows e (codes "sid")

pub record Compiles (s : Schema) (sql : List ℕ) (tree : ℕ) (how : Collation) (a b c d e : ℕ) : Type 0 where
  pub names : List (List ℕ)
  pub body : Query
  pub is : body ≡ query tree how a b c d e
  pub start : ℕ
  pub end' : ℕ
  pub tail : ℕ
  pub either : (compiled s sql ≡ Err Mismatch) ⊎ (compiled s sql ≡ Ok (record { command = command.Select (record { lets = []; body = body }) names; returning = None; names = []; formats = []; start = start; end = end'; tail = tail }))

pub compiles : (s : Schema) (sql name : List ℕ) → IsParsed sql name → (at : ℕ) (t : Table) → table_named s name ≡ Some at → slice_get s.tables at ≡ Some t
    → (id : HasColumn t (codes "id")) (effective : HasColumn t (codes "effective_date")) (num : HasColumn t (codes "num")) (den : HasColumn t (codes "den")) (sid : HasColumn t (codes "sid"))
    → Compiles s sql t.tree (alone (declared t id.place id.column)) (place_of t id.place) (place_of t effective.place) (place_of t num.place) (place_of t den.place) (place_of t sid.place)
compiles s sql name q at t named is id effective num den sid =
    let it = compiled_is s name at t named is q.src q.reads q.by q.a q.b q.c q.d q.e _ _ _ _ _ q.shows_a q.shows_b q.shows_c q.shows_d q.shows_e q.sorts id effective num den sid q.core q.parts.0 q.parts.1 q.parts.2 q.parts.3 q.parts.4 q.parts.5
    q.sel q.whole.0 q.whole.1 q.whole.2 q.whole.3 q.whole.4 q.whole.5 sql q.p q.parsed q.selects q.bare.0 q.bare.1 in
    record {
      names = _;
      body = _;
      is = refl;
      start = _;
      end' = _;
      tail = _;
      either = elim (cases_Bool _) [ inl yes' ↦ inr (it true yes') | inr no' ↦ inl (it false no') ];
    }
