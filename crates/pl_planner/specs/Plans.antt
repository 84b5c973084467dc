-- The plan of a run, and why there is none.
use Rattle.std.specs.Prelude.{◌≡◌, ℕ, ◌<◌, ◌≤◌, ◌+◌, ◌-◌, ◌*◌, ◌⊎◌, Bool, true, false, ◌&&◌, if◌then◌else◌, nat_le, nat_lt, ℤ, pos, ◌-ℤ◌, ◌<ℤ◌, ◌≤ℤ◌, List, [], length, map, get_or, slice_get, Option, Some, None}
use Rattle.std.specs.List.{list_any, range_with_len}
use Rattle.pl_spec.specs.Limits.{most_extra_rows, most_terms}
use Rattle.pl_spec.specs.Window.{before}
use Rattle.pl_pipeline.specs.Term.{Graph, Node}
use Rattle.pl_pipeline.specs.Graph.{Used, contains}
use Rattle.pl_pipeline.specs.Cones.{cone_depths, reads_of}
use Rattle.pl_pipeline.specs.Lows.{IsLow, least_reach}
use Rattle.pl_pipeline.specs.Table.{Pipeline}
use Rattle.pl_laws.specs.LowLaws.{HasBar}
use Rattle.pl_terms.specs.Uses as pipeline
use Rattle.pl_terms.specs.Uses.{outputs}
use Rattle.pl_planner.specs.declared.uses.Use.{Use}
use Rattle.pl_planner.specs.declared.slots.TermSlots.{TermSlots}
use Rattle.pl_planner.specs.declared.plans.PlanError.{PlanError}
use Rattle.pl_planner.specs.declared.plans.PlanError.TheVariants.{TooEarly, TooDeep, Memory}
use Rattle.pl_planner.specs.Columns.{columns_held, most_held}
use Rattle.pl_planner.specs.Holds.{live_terms_by}
use Rattle.pl_planner.specs.Rows.{extra_at}
use Rattle.pl_planner.specs.Uses.{use_at}
use Rattle.pl_planner.specs.Slotting.{IsLowest, slots_at}

-- the range, its least reach, the greatest number of arrays at once, what is known of each term by number,
-- how many sessions before each session of the range the terms are computed for it, and the cone of each
pub record Planned : Type 0 where
  pub from : ℕ
  pub to : ℕ
  pub reach : ℤ
  pub bound : ℕ
  pub uses : List Use
  pub extras : List ℕ
  pub slots : List TermSlots
  pub cones : List (List (ℕ × ℕ))

-- ---- what a plan says of term t

unfoldable pub is_used : Planned → ℕ → Bool
is_used plan t = (use_at plan.uses t).used

-- the session from which on it is computed for session s of the range and later ones
unfoldable pub low_at : Planned → ℕ → ℕ → ℕ
low_at plan t s = s - extra_at plan.extras (length plan.uses) (s - plan.from) t

abbrev pub low : Planned → ℕ → ℕ
low plan t = low_at plan t plan.from

abbrev pub extra : Planned → ℕ → ℕ
extra plan t = plan.from - low plan t

-- the last used term that reads it; none where it is an output
unfoldable pub last_user : Planned → ℕ → Option ℕ
last_user plan t =
    let last = (use_at plan.uses t).last in
    if nat_lt last (length plan.uses) then Some last else None

abbrev pub is_read_by : Option ℕ → ℕ → Bool
is_read_by None k = true
is_read_by (Some last) k = nat_le k last

-- it is kept while term k is computed
abbrev pub is_live : Planned → ℕ → ℕ → Bool
is_live plan k t = is_used plan t && nat_le t k && is_read_by (last_user plan t) k

unfoldable pub slot_of : Planned → ℕ → ℕ
slot_of plan t = (slots_at plan.slots t).own

-- the slot of the i-th distinct bar column that it or its cone reads while it is computed
unfoldable pub column_slot : Planned → ℕ → ℕ → ℕ
column_slot plan t i = get_or (slots_at plan.slots t).columns i 0

-- the terms that are computed anew for its windows, each with its depth
unfoldable pub cone : Planned → ℕ → List (ℕ × ℕ)
cone plan t = get_or plan.cones t []

-- a window is over terms that move with the bars
abbrev pub has_cones : Planned → Bool
has_cones plan = list_any (λ c. nat_lt 0 (length c)) plan.cones

-- ---- the plan of a pipeline

-- term t is used, and session s is one of the range
abbrev pub IsAsked : Planned → ℕ → ℕ → Type 0
IsAsked plan t s = (is_used plan t ≡ true) × ((plan.from ≤ s) × (s ≤ plan.to))

-- The sessions from which on terms are computed are the lows. No session before the reach is computed, and no
-- bar before it is read.
pub record AreLows (days : List ℤ) (p : Pipeline) (plan : Planned) : Type 0 where
  pub exact : (t s : ℕ) → IsAsked plan t s → IsLow days p.graph (outputs p) (pos s) t (pos (low_at plan t s))
  pub few : (t s : ℕ) → IsAsked plan t s → (low_at plan t s ≤ s) × (s - low_at plan t s ≤ most_extra_rows)
  pub covered : (t s : ℕ) → IsAsked plan t s → plan.reach ≤ℤ pos (low_at plan t s)
  pub bars : (t s : ℕ) (n : Node) → IsAsked plan t s → slice_get p.graph t ≡ Some n → HasBar n
      → plan.reach ≤ℤ before (pos (low_at plan t s)) n.window

-- a term reads what it mentions, and what its cone reads beside it
pub record IsLastUser (g : Graph) (outputs : List ℕ) (t last : ℕ) : Type 0 where
  pub used : Used g outputs last
  pub reads : contains (reads_of g last) t ≡ true
  pub most : (u : ℕ) → Used g outputs u → contains (reads_of g u) t ≡ true → u ≤ last

-- an output has no last user, and is kept to the end
abbrev pub AreLastUsers : Graph → List ℕ → ℕ → Option ℕ → Type 0
AreLastUsers g outputs t None = contains outputs t ≡ true
AreLastUsers g outputs t (Some last) = (contains outputs t ≡ false) × IsLastUser g outputs t last

-- the used terms that are still to be read when term k is computed, k among them
abbrev pub live_terms : Pipeline → ℕ → List ℕ
live_terms p k = live_terms_by (reads_of p.graph) p.graph (outputs p) k

-- term t is live while term k is computed
abbrev pub IsLive : Pipeline → ℕ → ℕ → Type 0
IsLive p k t = contains (live_terms p k) t ≡ true

-- one of the terms below n that are live with term k has the slot
pub record HasSlot (p : Pipeline) (plan : Planned) (k n slot : ℕ) : Type 0 where
  pub term : ℕ
  pub below : term < n
  pub live : IsLive p k term
  pub has : slot_of plan term ≡ slot

-- one of the first i bar columns of term k has the slot
abbrev pub HasColumn : Planned → ℕ → ℕ → ℕ → Type 0
HasColumn plan k i slot = (j : ℕ) × (j < i) × (column_slot plan k j ≡ slot)

-- A term has the lowest slot that no term before it has which is live with it, and its bar columns have the
-- lowest ones that no live term has. So no two that are live together share one, and bound slots are enough.
pub record AreSlots (p : Pipeline) (plan : Planned) : Type 0 where
  pub own : (k : ℕ) → is_used plan k ≡ true → IsLowest (HasSlot p plan k k) (slot_of plan k)
  pub columns : (k i : ℕ) → is_used plan k ≡ true → i < 5
      → IsLowest (λ s. HasSlot p plan k (k + 1) s ⊎ HasColumn plan k i s) (column_slot plan k i)
  pub apart : (k t u : ℕ) → is_used plan k ≡ true → IsLive p k t → IsLive p k u
      → slot_of plan t ≡ slot_of plan u → t ≡ u
  pub room : (k : ℕ) → is_used plan k ≡ true → slot_of plan k < plan.bound
  pub columns_room : (k i : ℕ) → is_used plan k ≡ true → i < columns_held p.graph k
      → column_slot plan k i < plan.bound

-- what a plan says of a pipeline over the sessions of these days
pub record IsPlanOf (days : List ℤ) (p : Pipeline) (plan : Planned) : Type 0 where
  pub order : plan.from ≤ plan.to
  pub within : plan.to < length days
  pub used : (t : ℕ) → is_used plan t ≡ pipeline.is_used p t
  pub least : plan.reach ≡ least_reach days p.graph (outputs p) (pos plan.from)
  pub early : pos 0 ≤ℤ plan.reach
  pub lows : AreLows days p plan
  pub held : plan.bound ≡ most_held p.graph (outputs p)
  pub last : (t : ℕ) → is_used plan t ≡ true → AreLastUsers p.graph (outputs p) t (last_user plan t)
  pub live : (k t : ℕ) → k < length p.graph → is_live plan k t ≡ contains (live_terms p k) t
  pub slots : AreSlots p plan
  pub cones : plan.cones ≡ map (cone_depths p.graph) (range_with_len 0 (length p.graph))

-- ---- why there is none

-- n is the greatest number of sessions by which a term is computed before a session of the range
pub record IsDeepest (days : List ℤ) (p : Pipeline) (from to n : ℕ) : Type 0 where
  pub term : ℕ
  pub session : ℕ
  pub low : ℤ
  pub within : (from ≤ session) × (session ≤ to)
  pub is_low : IsLow days p.graph (outputs p) (pos session) term low
  pub is : pos session -ℤ low ≡ pos n
  pub most : (t s : ℕ) (l : ℤ) → from ≤ s → s ≤ to → IsLow days p.graph (outputs p) (pos s) t l
      → (pos s -ℤ l) ≤ℤ pos n

-- the range begins before its reach, else a term is computed too many rows early; or for want of memory
abbrev pub IsPlanFault : List ℤ → Pipeline → ℕ → ℕ → PlanError → Type 0
IsPlanFault days p from to (TooEarly r) = (r ≡ least_reach days p.graph (outputs p) (pos from)) × (r <ℤ pos 0)
IsPlanFault days p from to (TooDeep n) =
    (pos 0 ≤ℤ least_reach days p.graph (outputs p) (pos from)) × IsDeepest days p from to n × (most_extra_rows < n)
IsPlanFault days p from to Memory = Unit {0}

-- ---- what each plan keeps by itself

pub record KeepsLimits (plan : Planned) : Type 0 where
  pub order : plan.from ≤ plan.to
  pub early : pos 0 ≤ℤ plan.reach
  pub few : plan.bound ≤ most_terms + 5
  pub terms : length plan.uses ≤ most_terms
  pub within : (t : ℕ) → is_used plan t ≡ true → t < length plan.slots
  pub size : length plan.extras ≡ (plan.to + 1 - plan.from) * length plan.uses
  pub rows : (t s : ℕ) → IsAsked plan t s → (extra_at plan.extras (length plan.uses) (s - plan.from) t ≤ s)
      × (extra_at plan.extras (length plan.uses) (s - plan.from) t ≤ most_extra_rows)
  pub among : (t : ℕ) → is_used plan t ≡ true → t < length plan.uses
  pub slots : (t : ℕ) → is_used plan t ≡ true → slot_of plan t < plan.bound
  pub cones : (t : ℕ) → is_used plan t ≡ true → t < length plan.cones
