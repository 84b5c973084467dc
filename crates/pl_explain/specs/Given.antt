-- What is given where facts are stated.
use Rattle.std.specs.Prelude.{◌≡◌, ℕ, ◌<◌, ◌≤◌, Bool, true, if◌then◌else◌, ℤ, pos, ◌<ℤ◌, List, [], ◌∷◌, ◌++◌, length, flat_map, Option, Some, None, option_map, unwrap_or, is_some, slice_get, All, AllPairs, IfSome}
use Rattle.std.specs.List.{list_all}
use Rattle.pl_spec.specs.Limits.{most_sessions}
use Rattle.pl_spec.specs.Rounding.{IsCell}
use Rattle.pl_spec.specs.Parts.{sid_at}
use Rattle.pl_spec.specs.World as spec
use Rattle.pl_spec.specs.World.{living_sids, exists}
use Rattle.pl_spec.specs.Window.{Effect, changed}
use Rattle.pl_pipeline.specs.Table.{Pipeline}
use Rattle.pl_terms.specs.declared.node.TermId.{TermId}
use Rattle.pl_terms.specs.declared.node.Node.{Node}
use Rattle.pl_terms.specs.Kinds.{kind_of}
use Rattle.pl_terms.specs.Nodes.{node_of}
use Rattle.pl_terms.specs.Checked.{Parts, pipeline_of, IsChecked}
use Rattle.pl_cross.specs.Arrays.{HasTexts}
use Rattle.pl_lifetimes.specs.Assets.{AreAssets}
use Rattle.pl_world.specs.declared.world.World.{World}
use Rattle.pl_world.specs.Worlds.{world_of, IsMade}
use Rattle.pl_world.specs.Evaluations.{row_in, as_input, cell_in, input_cell_in, lets_pass, IsKept}
use Rattle.pl_world.specs.Views.{view_at, seen_in}
use Rattle.pl_derivation.specs.Facts.{Fact, number_in, entry_facts, kind_facts, value_facts}
use Rattle.pl_derivation.specs.Facts.Fact.{TermValue}
use Rattle.pl_explain.specs.declared.basis.Basis.{Basis}
use Rattle.pl_explain.specs.declared.fact_numbers.FactNumbers.{FactNumbers}
use Rattle.pl_explain.specs.declared.rows.Rows.{Rows}
use Rattle.pl_explain.specs.Looking.{look, row_at}

-- ---- what is stated

-- something is stated of the fact
abbrev pub has : FactNumbers → Fact → Bool
has stated f = is_some (look stated f)

abbrev pub has_all : FactNumbers → List Fact → Bool
has_all stated fs = list_all (has stated) fs

-- x, where something is stated of each of the facts
abbrev pub given : {X : Type 0} → FactNumbers → List Fact → X → Option X
given stated fs x = if has_all stated fs then Some x else None

-- where the facts are stated, x is given, which is such a one
pub record IsGiven {X : Type 0} (Such : X → Type 0) (stated : FactNumbers) (fs : List Fact) (x : X) (o : Option X) : Type 0 where
  pub value : o ≡ given stated fs x
  pub such : IfSome o Such

-- what is stated of facts is what the world has
abbrev pub StatesTruth : spec.World → Pipeline → FactNumbers → Type 0
StatesTruth w p stated = (f : Fact) (x : ℤ) → look stated f ≡ Some x → (x ≡ number_in w p f) × IsCell x

-- ---- what is asked

-- What the parts of a world and a checked pipeline keep, where the parts were made for the world's own
-- sessions and assets.
pub record IsReady (w : World) (c : Parts) : Type 0 where
  pub made : IsMade w
  pub days : AllPairs (λ a b. a <ℤ b) w.sessions.now
  pub few : length w.sessions.now ≤ most_sessions
  pub assets : AreAssets w.assets.now
  pub texts : HasTexts (world_of w)
  pub checked : IsChecked (pipeline_of c)

-- a session of a world of which what is stated is true
pub record IsAskedOn (b : Basis) (s : ℕ) : Type 0 where
  pub ready : IsReady b.world b.checked.now
  pub truth : StatesTruth (world_of b.world) (pipeline_of b.checked.now) b.stated.now
  pub session : s < length b.world.sessions.now

-- and an asset
pub record IsAskedAt (b : Basis) (col s : ℕ) : Type 0 where
  pub on : IsAskedOn b s
  pub column : col < length b.world.assets.now

-- the sid of the asset in a column
abbrev pub sid_in : Basis → ℕ → ℕ
sid_in b col = sid_at b.world.assets.now col

-- and a term whose mask the asset passes
pub record IsKeptAt (b : Basis) (t col s : ℕ) : Type 0 where
  pub at : IsAskedAt b col s
  pub term : t < length b.checked.now.graph
  pub kept : IsKept b.world b.checked.now t (sid_in b col) s

-- the value of a term for the asset in a column on a session, as arrays hold it
abbrev pub value_in : Basis → ℕ → ℕ → ℕ → ℤ
value_in b t col s = cell_in b.world b.checked.now t (sid_in b col) s

-- the same as it is seen from a later session, where it is from one
abbrev pub seen_value_in : Basis → ℕ → ℕ → ℕ → Option ℕ → ℤ
seen_value_in b t col s view = seen_in b.world b.checked.now t view (sid_in b col) s

-- ---- facts

-- what the kind of term t reads for asset a on session s, where it is seen from somewhere
abbrev pub facts_read : World → Parts → ℕ → ℕ → ℕ → Option ℕ → List Fact
facts_read w c t a s view =
    unwrap_or (option_map (λ n. kind_facts (world_of w) (pipeline_of c).graph (node_of n) (kind_of n.kind) (view_at view) a (pos s)) (slice_get c.graph t)) []

abbrev pub seen_facts_in : Basis → ℕ → ℕ → ℕ → Option ℕ → List Fact
seen_facts_in b t col s view = facts_read b.world b.checked.now t (sid_in b col) s view

abbrev pub facts_in : Basis → ℕ → ℕ → ℕ → List Fact
facts_in b t col s = seen_facts_in b t col s None

-- what the value of term t for asset a on session s rests on
abbrev pub own_facts : World → Parts → ℕ → ℕ → ℕ → Option ℕ → List Fact
own_facts w c t a s view = value_facts (world_of w) (pipeline_of c) (number_in (world_of w) (pipeline_of c)) t (view_at view) a (pos s)

-- the value of a term for an asset that exists; of another there is nothing to be stated
abbrev pub living_facts : spec.World → ℕ → ℕ → ℤ → List Fact
living_facts w t a d = if exists w a d then TermValue t a d ∷ [] else []

-- whether an asset passes a mask of the code
abbrev pub mask_passes : World → Parts → Option TermId → ℕ → ℕ → Bool
mask_passes w c m a s = lets_pass (as_input m) (input_cell_in w c (as_input m) a s)

-- ---- rows

-- a row has the cells of a cross-section, and what these rest on is stated
pub record IsKeptRow (w : World) (c : Parts) (stated : FactNumbers) (t d : ℕ) (row : List ℤ) : Type 0 where
  pub is : row ≡ row_in w c t d
  pub cells : All IsCell row
  pub stand : (n : Node) → slice_get c.graph t ≡ Some n → has_all stated (flat_map (entry_facts (pipeline_of c).graph (node_of n) (pos d)) (living_sids (world_of w) (pos d))) ≡ true

abbrev pub KeepsRows : World → Parts → FactNumbers → Rows → Type 0
KeepsRows w c stated rows = (t d : ℕ) (row : List ℤ) → row_at rows t d ≡ Some row → IsKeptRow w c stated t d row

-- the same of a basis
abbrev pub KeepsRowsOf : Basis → Rows → Type 0
KeepsRowsOf b rows = KeepsRows b.world b.checked.now b.stated.now rows

-- the row of a term on a session is kept
abbrev pub HasRow : ℕ → ℕ → Rows → Type 0
HasRow t d rows = (row : List ℤ) × (row_at rows t d ≡ Some row)

-- each row that was kept still is
abbrev pub KeepsAll : Rows → Rows → Type 0
KeepsAll old new = (t d : ℕ) (row : List ℤ) → row_at old t d ≡ Some row → row_at new t d ≡ Some row

-- ---- bars

-- some cells with what a cell is after an effect after them, where there is one
abbrev pub GrowsBy : ℤ → Option Effect → List ℤ → List ℤ → ℤ → Type 0
GrowsBy x None old new y = (y ≡ x) × (new ≡ old)
GrowsBy x (Some f) old new y = (y ≡ changed x f) × (new ≡ old ++ y ∷ [])
