-- What a plan is good for.
use Rattle.std.specs.Prelude.{◌≡◌, ℕ, ◌<◌, ◌≤◌, ◌↔◌, true, false, ℤ, pos, ◌≤ℤ◌, ◌<ℤ◌, List, AllPairs, Some, slice_get}
use Rattle.pl_spec.specs.Limits.{most_extra_rows}
use Rattle.pl_spec.specs.Window.{before}
use Rattle.pl_pipeline.specs.Cones.{Borders, HasDepth, reads_of}
use Rattle.pl_pipeline.specs.Graph.{mentions_at, bound}
use Rattle.pl_pipeline.specs.NodeValue.{AllReadSteady}
use Rattle.pl_pipeline.specs.Term.{Graph, Node}
use Rattle.pl_pipeline.specs.Lows.{Reads}
use Rattle.pl_pipeline.specs.Table.{Pipeline}
use Rattle.pl_terms.specs.Checked.{IsChecked}
use Rattle.pl_planner.specs.Columns.{most_held}
use Rattle.pl_planner.specs.Plans.{Planned, IsAsked, IsPlanOf, has_cones, is_used, low_at, cone, IsLive}

-- What a used term k reads of a term t, for a session that it is computed on: t is used, has a lower number,
-- is live with k and is computed from that session on.
pub record IsCovered (p : Pipeline) (plan : Planned) (k t c : ℕ) (r : ℤ) : Type 0 where
  pub used : is_used plan t ≡ true
  pub lower : t < k
  pub live : IsLive p k t
  pub computed : pos (low_at plan t c) ≤ℤ r

abbrev pub ReadsAreCovered : Type 0
ReadsAreCovered = (days : List ℤ) → AllPairs (λ a b. a <ℤ b) days
    → (p : Pipeline) → IsChecked p → (plan : Planned) → IsPlanOf days p plan
    → (k t c : ℕ) (n : Node) (s r : ℤ) → IsAsked plan k c → slice_get p.graph k ≡ Some n
    → pos (low_at plan k c) ≤ℤ s → Reads days n s t r → IsCovered p plan k t c r

-- What is computed anew of a term u for term k, where k is computed on session s: u is used, has a lower
-- number and is computed from m sessions before on, which are few.
pub record IsCoveredAnew (plan : Planned) (k u m c : ℕ) (s : ℤ) : Type 0 where
  pub used : is_used plan u ≡ true
  pub lower : u < k
  pub computed : pos (low_at plan u c) ≤ℤ before s m
  pub few : m ≤ most_extra_rows

abbrev pub ConesAreCovered : Type 0
ConesAreCovered = (days : List ℤ) → AllPairs (λ a b. a <ℤ b) days
    → (p : Pipeline) → IsChecked p → (plan : Planned) → IsPlanOf days p plan
    → (k u m c : ℕ) (s : ℤ) → IsAsked plan k c → pos (low_at plan k c) ≤ℤ s
    → HasDepth u m (cone plan k) → IsCoveredAnew plan k u m c s

-- What the cone of a term k reads of a term b beside the cone, on up to m sessions before session s: b is used,
-- has a lower number, is live with k, and is computed from the first of these on.
pub record IsCoveredBeside (p : Pipeline) (plan : Planned) (k b m c : ℕ) (s : ℤ) : Type 0 where
  pub used : is_used plan b ≡ true
  pub lower : b < k
  pub live : IsLive p k b
  pub computed : pos (low_at plan b c) ≤ℤ before s m

abbrev pub BordersAreCovered : Type 0
BordersAreCovered = (days : List ℤ) → AllPairs (λ a b. a <ℤ b) days
    → (p : Pipeline) → IsChecked p → (plan : Planned) → IsPlanOf days p plan
    → (k b m c : ℕ) (s : ℤ) → IsAsked plan k c → pos (low_at plan k c) ≤ℤ s
    → Borders p.graph k b m → IsCoveredBeside p plan k b m c s

-- a plan has cones exactly where a window is over what moves
abbrev pub ConesTellFollowers : Type 0
ConesTellFollowers = (days : List ℤ) (p : Pipeline) → IsChecked p → (plan : Planned) → IsPlanOf days p plan
    → (has_cones plan ≡ false) ↔ AllReadSteady p.graph

-- Where no window is over what moves, a term reads what it mentions alone, and at once is held what is
-- mentioned later.
abbrev pub SteadyPlansHoldMentions : Type 0
SteadyPlansHoldMentions = (g : Graph) → AllReadSteady g
    → ((t : ℕ) → reads_of g t ≡ mentions_at g t) × ((outs : List ℕ) → most_held g outs ≡ bound g outs)
