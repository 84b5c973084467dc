-- What a plain evaluation of a term asks for, and what it gives.
use Rattle.std.specs.Prelude.{◌≡◌, ℕ, suc, ◌+◌, ◌-◌, ◌<◌, ◌≤◌, ◌&&◌, ℤ, pos, ◌≤ℤ◌, List, [], ◌∷◌, map, length, Option, Some, None, option_map, slice_get, Bool, true, get_or, All, AllPairs, ◌<ℤ◌, IfSome}
use Rattle.pl_spec.specs.Rounding.{MISSING, IsCell}
use Rattle.pl_spec.specs.declared.AssetRow.{AssetRow}
use Rattle.pl_spec.specs.Parts.{sid_at}
use Rattle.pl_spec.specs.World as spec
use Rattle.pl_spec.specs.World.{exists}
use Rattle.pl_pipeline.specs.Cross.{array_at}
use Rattle.pl_pipeline.specs.Kind.{Kind, CrossKind}
use Rattle.pl_pipeline.specs.Kind.Kind.{Cross}
use Rattle.pl_pipeline.specs.Term.{term_at}
use Rattle.pl_spec.specs.Cells.{is_true}
use Rattle.pl_pipeline.specs.Graph.{reach}
use Rattle.pl_pipeline.specs.Table.{value_of, in_array}
use Rattle.pl_terms.specs.declared.node.TermId.{TermId}
use Rattle.pl_terms.specs.declared.node.Input.{Input}
use Rattle.pl_terms.specs.declared.node.Input.TheVariants as input
use Rattle.pl_terms.specs.declared.node.Node.{Node}
use Rattle.pl_terms.specs.Kinds.{kind_of}
use Rattle.pl_terms.specs.Nodes.{graph_of, input_of, number_of}
use Rattle.pl_terms.specs.Checked.{Parts, pipeline_of}
use Rattle.pl_cross.specs.Arrays.{section_at}
use Rattle.pl_values.specs.Arrays.{IsKeep, is_kept}
use Rattle.pl_values.specs.Inputs.{input_window}
use Rattle.pl_world.specs.declared.world.World.{World}
use Rattle.pl_world.specs.Worlds.{world_of, IsMade}

-- ---- what is asked

-- a term of the graph, on a session for which it reaches back to no session below 0
pub record IsAsked (w : World) (c : Parts) (t session : ℕ) : Type 0 where
  pub made : IsMade w
  pub term : t < length c.graph
  pub within : session < length w.sessions.now
  pub days : AllPairs (λ a b. a <ℤ b) w.sessions.now
  pub reaches : pos 0 ≤ℤ reach w.sessions.now (term_at (graph_of c.graph) t) (pos session)

-- an input over the size sessions up to one
abbrev pub IsAskedInput : World → Parts → Option Input → ℕ → ℕ → Type 0
IsAskedInput w c None size session = Unit {0}
IsAskedInput w c (Some (input.Column k)) size session = size ≤ session
IsAskedInput w c (Some (input.Term u)) size session = (size ≤ session + 1) × ((n : ℕ) → n < size → IsAsked w c u.0 (session - n))

-- an optional term on one session
abbrev pub IsAskedOption : World → Parts → Option TermId → ℕ → Type 0
IsAskedOption w c None session = Unit {0}
IsAskedOption w c (Some u) session = IsAsked w c u.0 session

-- ---- what it gives

-- the value of term t for asset a on a session, as arrays hold it
abbrev pub cell_in : World → Parts → ℕ → ℕ → ℕ → ℤ
cell_in w c t a session = in_array (world_of w).texts (value_of (world_of w) (pipeline_of c) t a (pos session))

abbrev pub input_cell_in : World → Parts → Option Input → ℕ → ℕ → ℤ
input_cell_in w c (Some (input.Term u)) a session = cell_in w c u.0 a session
input_cell_in w c o a session = MISSING

abbrev pub window_in : World → Parts → ℕ → Option Input → ℕ → ℕ → List ℤ
window_in w c size o a session = input_window (world_of w) (pipeline_of c) (a ∷ []) size (option_map input_of o) 0 session

-- the cells of a term on a session, asset by asset
abbrev pub row_in : World → Parts → ℕ → ℕ → List ℤ
row_in w c t session = map (λ b. cell_in w c t b.sid session) w.assets.now

abbrev pub optional_row_in : World → Parts → Option TermId → ℕ → Option (List ℤ)
optional_row_in w c o session = option_map (λ u. row_in w c u.0 session) o

-- ---- masks

-- a mask is read as an input is
abbrev pub as_input : Option TermId → Option Input
as_input None = None
as_input (Some t) = Some (input.Term t)

-- without a mask every asset passes
abbrev pub lets_pass : Option Input → ℤ → Bool
lets_pass None x = true
lets_pass (Some i) x = is_true x

-- the asset exists and passes the mask of term t
abbrev pub IsKept : World → Parts → ℕ → ℕ → ℕ → Type 0
IsKept w c t a s = (n : Node) → slice_get c.graph t ≡ Some n → is_kept (world_of w) (pipeline_of c) (a ∷ []) (option_map number_of n.mask) 0 s ≡ true

-- the kind of term t passes the test
abbrev pub HasKind : Parts → ℕ → (Kind → Bool) → Type 0
HasKind c t test = (n : Node) → slice_get c.graph t ≡ Some n → test (kind_of n.kind) ≡ true

-- ---- why it ends

-- above the number of what is read
abbrev pub above : Option Input → ℕ
above (Some (input.Term u)) = suc u.0
above o = 0

abbrev pub above_option : Option TermId → ℕ
above_option None = 0
above_option (Some u) = suc u.0

-- ---- cross-sections

-- the asset in a column passes the mask whose row is given
abbrev pub lets_pass_at : Option (List ℤ) → ℕ → Bool
lets_pass_at None i = true
lets_pass_at (Some row) i = is_true (get_or row i (pos 0))

-- who exists and passes the mask
abbrev pub IsKeepRow : spec.World → List AssetRow → ℕ → Option (List ℤ) → List ℤ → Type 0
IsKeepRow w assets session mask row = IsKeep (λ i. exists w (sid_at assets i) (pos session) && lets_pass_at mask i) (length assets) row

-- the rows of a cross-section's input, its mask and its group
pub record AreRowsOf (w : World) (c : Parts) (t session : ℕ) (xs : List ℤ) (ms gs : Option (List ℤ)) : Type 0 where
  pub own : (n : Node) → slice_get c.graph t ≡ Some n → (u : TermId) × (slice_get n.inputs 0 ≡ Some (input.Term u)) × (xs ≡ row_in w c u.0 session)
  pub cells : All IsCell xs
  pub mask : (n : Node) → slice_get c.graph t ≡ Some n → ms ≡ optional_row_in w c n.mask session
  pub groups : (n : Node) → slice_get c.graph t ≡ Some n → gs ≡ optional_row_in w c n.group session
  pub mask_cells : IfSome ms (All IsCell)
  pub group_cells : IfSome gs (All IsCell)

-- the cells of a cross-section over the rows of its input, of who is kept, and of its group
pub record AreSectionCells (f : Kind) (xs ks : List ℤ) (ls : Option (List ℤ)) (row : List ℤ) : Type 0 where
  pub long : length row ≡ length xs
  pub each : (k : CrossKind) → f ≡ Cross k → (i : ℕ) → i < length xs → array_at row i ≡ section_at k xs ks ls i
  pub cells : All IsCell row
