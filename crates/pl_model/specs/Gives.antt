-- What a part of a plain evaluation gives: cells, and steps that rose by what they cost.
use Rattle.std.specs.Prelude.{◌≡◌, ℕ, ◌+◌, Bool, ℤ, List, [], ◌∷◌, Option, None, option_map, All, IfSome}
use Rattle.pl_spec.specs.Rounding.{IsCell}
use Rattle.pl_terms.specs.declared.node.Node.{Node}
use Rattle.pl_terms.specs.Nodes.{number_of}
use Rattle.pl_terms.specs.Checked.{pipeline_of}
use Rattle.pl_values.specs.Arrays.{is_kept}
use Rattle.pl_world.specs.Worlds.{world_of}
use Rattle.pl_world.specs.Evaluations.{as_input}
use Rattle.pl_model.specs.declared.evaluation.Request.{Request}
use Rattle.pl_model.specs.Requests.{asset_of}
use Rattle.pl_model.specs.Costs.{input_cost_in}

-- x is the value; the steps rose from old to new
pub record IsCellOf (worth : ℤ) (steps old new : ℕ) (x : ℤ) : Type 0 where
  pub value : x ≡ worth
  pub cell : IsCell x
  pub cost : new ≡ old + steps

pub record AreCellsOf (values : List ℤ) (steps old new : ℕ) (xs : List ℤ) : Type 0 where
  pub value : xs ≡ values
  pub cells : All IsCell xs
  pub cost : new ≡ old + steps

-- the same of a row that may be absent
pub record IsRowOf (row : Option (List ℤ)) (steps old new : ℕ) (o : Option (List ℤ)) : Type 0 where
  pub value : o ≡ row
  pub cells : IfSome o (All IsCell)
  pub cost : new ≡ old + steps

-- whether the asset exists and passes the mask; the mask alone was evaluated
pub record IsVerdict (r : Request) (n : Node) (old new : ℕ) (b : Bool) : Type 0 where
  pub value : b ≡ is_kept (world_of r.world.now) (pipeline_of r.checked.now) (asset_of r ∷ []) (option_map number_of n.mask) 0 r.session
  pub cost : new ≡ old + input_cost_in r.world.now r.checked.now (as_input n.mask) None (asset_of r) r.session
