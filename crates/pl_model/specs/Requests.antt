-- What is asked of a part of a plain evaluation: a term, for the asset in a column on a session, seen from
-- there or from a later one.
use Rattle.std.specs.Prelude.{◌≡◌, ℕ, ◌<◌, ℤ, length, Some, slice_get}
use Rattle.pl_spec.specs.Parts.{sid_at}
use Rattle.pl_terms.specs.declared.node.Node.{Node}
use Rattle.pl_terms.specs.Kinds.{kind_of}
use Rattle.pl_terms.specs.Checked.{pipeline_of, IsChecked}
use Rattle.pl_world.specs.Evaluations.{IsAsked, IsKept}
use Rattle.pl_model.specs.declared.evaluation.Request.{Request}
use Rattle.pl_model.specs.Costs.{cost_in, given_cost_of}
use Rattle.pl_world.specs.Views.{seen_in, IsSeenFrom}

abbrev pub asset_of : Request → ℕ
asset_of r = sid_at r.world.now.assets.now r.col

-- the value, and the steps of its evaluation
abbrev pub asked_cell : Request → ℤ
asked_cell r = seen_in r.world.now r.checked.now r.term.0 r.view (asset_of r) r.session

abbrev pub asked_cost : Request → ℕ
asked_cost r = cost_in r.world.now r.checked.now r.term.0 r.view (asset_of r) r.session

-- what the kind of the term's node takes where the asset is kept
abbrev pub given_cost : Request → Node → ℕ
given_cost r n = given_cost_of r.world.now r.checked.now (kind_of n.kind) n r.view (asset_of r) r.session

pub record IsRequest (r : Request) : Type 0 where
  pub may : IsAsked r.world.now r.checked.now r.term.0 r.session
  pub checked : IsChecked (pipeline_of r.checked.now)
  pub col : r.col < length r.world.now.assets.now
  pub seen : IsSeenFrom r.world.now r.view r.session

-- with the term's node
pub record IsRequestOf (r : Request) (n : Node) : Type 0 where
  pub request : IsRequest r
  pub node : slice_get r.checked.now.graph r.term.0 ≡ Some n

-- the asset exists and passes the term's mask
abbrev pub IsKeptFor : Request → Type 0
IsKeptFor r = IsKept r.world.now r.checked.now r.term.0 (asset_of r) r.session
