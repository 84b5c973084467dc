-- The steps that a plain evaluation of a term takes.
use Rattle.std.specs.Prelude.{ℕ, ◌+◌, ◌-◌, ◌&&◌, if◌then◌else◌, ℤ, pos, List, Option, Some, None, sum_by, slice_get}
use Rattle.pl_spec.specs.World as spec
use Rattle.pl_spec.specs.World.{exists}
use Rattle.pl_spec.specs.Window.{before, downward}
use Rattle.pl_pipeline.specs.Kind.{Kind}
use Rattle.pl_pipeline.specs.Kind.Kind.{Window, Point, LabelTest, Cross, Downsample}
use Rattle.pl_spec.specs.Periods.{period_start}
use Rattle.pl_pipeline.specs.Term.{Term, term_at}
use Rattle.pl_pipeline.specs.Term.Term.{absent, column, node}
use Rattle.pl_pipeline.specs.Value.{View, Own, seen_from, view_of, passes, part_of, value}
use Rattle.pl_terms.specs.declared.node.TermId.{TermId}
use Rattle.pl_terms.specs.declared.node.Input.{Input}
use Rattle.pl_terms.specs.declared.node.Input.TheVariants as input
use Rattle.pl_terms.specs.declared.node.Node.{Node}
use Rattle.pl_terms.specs.Nodes.{graph_of}
use Rattle.pl_terms.specs.Checked.{Parts, pipeline_of}
use Rattle.pl_world.specs.declared.world.World.{World}
use Rattle.pl_world.specs.Worlds.{world_of}
use Rattle.pl_model.specs.WindowSteps.{window_steps}
use Rattle.pl_world.specs.Views.{view_at, window_view, operand_view}

-- ---- the steps

-- how many times an adjustment is applied to a bar's cell where a term is evaluated for an asset on a session
abbrev pub Cost : Type 0
Cost = ℕ → ℤ → ℕ

-- over the window of what stands in a term's place, in a view
abbrev pub window_cost : spec.World → View → ℕ → Term → Cost → Cost
window_cost w view size absent f a d = 0
window_cost w view size (column c) f a d = window_steps w c size a d (seen_from view d)
window_cost w view size (node k n x y z m g) f a d = sum_by (λ n. f a (before d n)) (downward size)

-- over all assets of the world
abbrev pub session_cost : spec.World → Cost → ℤ → ℕ
session_cost w f d = sum_by (λ b. f b.sid d) w.assets

-- the inputs are evaluated over their windows, on the session, for all assets, or on the first session of the
-- period, as the kind takes them
abbrev pub kind_cost : spec.World → Kind → Cost → Cost → Cost → Cost → Cost → Cost → Cost → Cost → Cost
kind_cost w (Window k) wx wy wz x y z m g a d = wx a d + wy a d + wz a d
kind_cost w (Point k) wx wy wz x y z m g a d = x a d + y a d + z a d
kind_cost w (LabelTest k) wx wy wz x y z m g a d = x a d
kind_cost w (Cross k) wx wy wz x y z m g a d = session_cost w x d + session_cost w m d + session_cost w g d
kind_cost w (Downsample f) wx wy wz x y z m g a d = x a (period_start f w.days d)
kind_cost w k wx wy wz x y z m g a d = 0

-- First the mask; where the asset exists and passes it, what the kind takes, from where the kind sees it.
-- Each is evaluated anew wherever it is read.
unfoldable pub cost : spec.World → List (List ℕ) → Term → View → Cost
cost w names absent view a d = 0
cost w names (column c) view a d = 0
cost w names (node k size x y z m g) view a d =
    let inner : View = view_of k view d in
    cost w names m Own a d
    + (if exists w a d && passes (part_of m (value w names m)) a d
    then kind_cost w k (window_cost w inner size x (cost w names x inner)) (window_cost w inner size y (cost w names y inner)) (window_cost w inner size z (cost w names z inner))
    (cost w names x inner) (cost w names y inner) (cost w names z inner) (cost w names m Own) (cost w names g Own) a d
    else 0)

-- the same of the term of a number
abbrev pub cost_in : World → Parts → ℕ → Option ℕ → ℕ → ℕ → ℕ
cost_in w c t view a session = cost (world_of w) (pipeline_of c).names (term_at (graph_of c.graph) t) (view_at view) a (pos session)

abbrev pub input_cost_at : World → Parts → Option Input → Option ℕ → ℕ → ℤ → ℕ
input_cost_at w c (Some (input.Term u)) view a d = cost (world_of w) (pipeline_of c).names (term_at (graph_of c.graph) u.0) (view_at view) a d
input_cost_at w c o view a d = 0

abbrev pub input_cost_in : World → Parts → Option Input → Option ℕ → ℕ → ℕ → ℕ
input_cost_in w c o view a session = input_cost_at w c o view a (pos session)

abbrev pub window_cost_in : World → Parts → ℕ → Option Input → Option ℕ → ℕ → ℕ → ℕ
window_cost_in w c size None view a session = 0
window_cost_in w c size (Some (input.Column k)) view a session = window_steps (world_of w) k size a (pos session) (seen_from (view_at view) (pos session))
window_cost_in w c size (Some (input.Term u)) view a session = sum_by (λ n. cost_in w c u.0 view a (session - n)) (downward size)

abbrev pub row_cost_in : World → Parts → ℕ → ℕ → ℕ
row_cost_in w c t session = sum_by (λ b. cost_in w c t None b.sid session) w.assets.now

abbrev pub input_row_cost_in : World → Parts → Option Input → ℕ → ℕ
input_row_cost_in w c (Some (input.Term u)) session = row_cost_in w c u.0 session
input_row_cost_in w c o session = 0

abbrev pub optional_cost_in : World → Parts → Option TermId → ℕ → ℕ
optional_cost_in w c None session = 0
optional_cost_in w c (Some u) session = row_cost_in w c u.0 session

-- what a kind takes where the asset is kept
abbrev pub given_cost_of : World → Parts → Kind → Node → Option ℕ → ℕ → ℕ → ℕ
given_cost_of w c (Window k) n view a s =
    let from : Option ℕ = Some (window_view (Window k) view s) in
    window_cost_in w c n.window (slice_get n.inputs 0) from a s + window_cost_in w c n.window (slice_get n.inputs 1) from a s + window_cost_in w c n.window (slice_get n.inputs 2) from a s
given_cost_of w c (Point k) n view a s =
    let from : Option ℕ = operand_view (Point k) view in
    input_cost_in w c (slice_get n.inputs 0) from a s + input_cost_in w c (slice_get n.inputs 1) from a s + input_cost_in w c (slice_get n.inputs 2) from a s
given_cost_of w c (LabelTest k) n view a s = input_cost_in w c (slice_get n.inputs 0) None a s
given_cost_of w c (Cross k) n view a s = input_row_cost_in w c (slice_get n.inputs 0) s + optional_cost_in w c n.mask s + optional_cost_in w c n.group s
given_cost_of w c (Downsample f) n view a s = input_cost_at w c (slice_get n.inputs 0) None a (period_start f w.sessions.now (pos s))
given_cost_of w c k n view a s = 0
