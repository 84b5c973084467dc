-- Which slots are held when some outputs are released.
use Rattle.std.specs.Prelude.{◌≡◌, ℕ, ◌<◌, ◌≤◌, true, length}
use Rattle.pl_pipeline.specs.Graph.{contains}
use Rattle.pl_pipeline.specs.Table.{Pipeline}
use Rattle.pl_terms.specs.Uses.{outputs}
use Rattle.pl_planner.specs.Plans.{Planned, slot_of}
use Rattle.pl_workspace.specs.Slots.{Slots, Free, IsLive, slot_at}

-- the outputs from number n on have their slots, and every other slot is free
pub record HoldOnly (p : Pipeline) (plan : Planned) (n : ℕ) (w : Slots) : Type 0 where
  pub live : (t : ℕ) → n ≤ t → contains (outputs p) t ≡ true → IsLive (slot_at w (slot_of plan t))
  pub free : (s : ℕ) → s < length w.slots → ((t : ℕ) → n ≤ t → contains (outputs p) t ≡ true → slot_of plan t ≡ s → ⊥) → slot_at w s ≡ Free
