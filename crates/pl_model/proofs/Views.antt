-- The bars that a plain evaluation reads, and what it costs.
use Rattle.std.proofs.Common.{◌≡◌, ℕ, ℤ, pos, List, All, Result, Ok, Err, ◌+◌, Option, Some, sym, ◌∙◌, ap, unwrap_or}
use Rattle.std.specs.Result.{IfOk, OnOk}
use Rattle.pl_spec.specs.declared.Column.{Column}
use Rattle.pl_spec.specs.Rounding.{IsCell}
use Rattle.pl_pipeline.specs.Value.{seen_from, seen_window}
use Rattle.pl_terms.specs.declared.node.Input.{Input}
use Rattle.pl_terms.specs.declared.node.Input.TheVariants as input
use Rattle.pl_terms.specs.Checked.{Parts}
use Rattle.pl_world.specs.declared.world.World.{World}
use Rattle.pl_world.specs.Worlds.{world_of}
use Rattle.pl_world.specs.Views.{view_at, window_seen_in}
use Rattle.pl_world.proofs.Views.{from-is}
use Rattle.pl_model.specs.WindowSteps.{window_steps}
use Rattle.pl_model.specs.Costs.{window_cost_in}
use Rattle.pl_model.specs.Gives.{AreCellsOf}

module _ (w : World) (p : Parts) (c : Column) (size a s v : ℕ) (view : Option ℕ) (o : Option Input) (is : o ≡ Some (input.Column c)) (e : v ≡ unwrap_or view s) where
  from-view : pos v ≡ seen_from (view_at view) (pos s)
  from-view = ap pos e ∙ sym (from-is view s)

  bars-seen : seen_window (world_of w) c size a (pos s) (pos v) ≡ window_seen_in w p size o view a s
  bars-seen = ap (seen_window (world_of w) c size a (pos s)) from-view ∙ ap (λ i. window_seen_in w p size i view a s) (sym is)

  bars-cost : window_steps (world_of w) c size a (pos s) (pos v) ≡ window_cost_in w p size o view a s
  bars-cost = ap (window_steps (world_of w) c size a (pos s)) from-view ∙ ap (λ i. window_cost_in w p size i view a s) (sym is)

  pub bars-read : (old new : ℕ) (xs : List ℤ) → xs ≡ seen_window (world_of w) c size a (pos s) (pos v) → All IsCell xs → new ≡ old + window_steps (world_of w) c size a (pos s) (pos v)
      → AreCellsOf (window_seen_in w p size o view a s) (window_cost_in w p size o view a s) old new xs
  bars-read old new xs f g h = record { value = f ∙ bars-seen; cells = g; cost = h ∙ ap (λ n. old + n) bars-cost }

pub if-ok : {A E : Type 0} (r : Result A E) (P Q S : A → Type 0) (R : Type 0) → IfOk r P → IfOk r Q → OnOk r R → ((v : A) → P v → Q v → R → S v) → IfOk r S
if-ok (Ok v) P Q S R p q o f = f v p q o
if-ok (Err e) P Q S R p q o f = tt
