-- The laws of the definitions, for the terms of a checked pipeline.
use Rattle.std.specs.Prelude.{◌≡◌, ℕ, ◌<◌, ℤ, pos, ◌≤ℤ◌, List, length, Some, slice_get}
use Rattle.pl_spec.specs.Agree.{Agree}
use Rattle.pl_spec.specs.Permuted.{AgreeInAll}
use Rattle.pl_spec.specs.World.{World, Bar, IsWorld}
use Rattle.pl_pipeline.specs.Term.{Node, term_at}
use Rattle.pl_pipeline.specs.Graph.{reach}
use Rattle.pl_pipeline.specs.Reaching.{SameBarsFrom}
use Rattle.pl_pipeline.specs.NodeValue.{node_value}
use Rattle.pl_spec.specs.declared.Format.{Format}
use Rattle.pl_pipeline.specs.Table.{Pipeline, table, value_of}
use Rattle.pl_pipeline.specs.Text.{text}
use Rattle.pl_terms.specs.Nodes.{graph_of}
use Rattle.pl_terms.specs.Checked.{Parts, pipeline_of}

-- bars before the reach of a term may be others, or none: its value stays
abbrev pub EarlyBarsChangeNothing : Parts → Type 0
EarlyBarsChangeNothing c = (w : World) (bars : List Bar) (low : ℤ) → SameBarsFrom w (record w { bars = bars }) low
    → (t : ℕ) → t < length c.graph → (a : ℕ) (d : ℤ) → low ≤ℤ reach w.days (term_at (graph_of c.graph) t) d
    → value_of w (pipeline_of c) t a d ≡ value_of (record w { bars = bars }) (pipeline_of c) t a d

-- a term is worth what its node gives over the values of the terms that it mentions
abbrev pub ValuesFollowNodes : Parts → Type 0
ValuesFollowNodes c = (w : World) (t : ℕ) (n : Node) → slice_get (graph_of c.graph) t ≡ Some n
    → (a : ℕ) (d : ℤ) → value_of w (pipeline_of c) t a d ≡ node_value w (pipeline_of c).names (graph_of c.graph) n a d

-- Where two worlds agree up to session d, every term has one value in both, for every sid on every session up
-- to d, and their tables have the same rows up to d and are written alike: what comes later changes nothing.
pub record LaterDataChangeNothing (c : Parts) : Type 0 where
  pub values : (w v : World) (d day : ℤ) → IsWorld w → IsWorld v → Agree w v d day
      → (t a : ℕ) (s : ℤ) → s ≤ℤ d → value_of w (pipeline_of c) t a s ≡ value_of v (pipeline_of c) t a s
  pub rows : (w v : World) (d day : ℤ) → IsWorld w → IsWorld v → Agree w v d day
      → (from to : ℕ) → pos to ≤ℤ d → table w (pipeline_of c) from to ≡ table v (pipeline_of c) from to
  pub texts : (w v : World) (d day : ℤ) → IsWorld w → IsWorld v → Agree w v d day
      → (format : Format) (from to : ℕ) → pos to ≤ℤ d
      → text w (pipeline_of c) format (table w (pipeline_of c) from to) ≡ text v (pipeline_of c) format (table v (pipeline_of c) from to)

-- Whatever is looked up is the same in both worlds, and so are the rows of each pipeline, which are written
-- alike.
pub record ShowAlike (w v : World) : Type 0 where
  pub agree : AgreeInAll w v
  pub rows : (p : Pipeline) (from to : ℕ) → table w p from to ≡ table v p from to
  pub texts : (p : Pipeline) (format : Format) (from to : ℕ)
      → text w p format (table w p from to) ≡ text v p format (table v p from to)
