-- The laws of how far back terms are computed.
use Rattle.std.specs.Prelude.{◌≡◌, ℕ, ◌<◌, ◌≤◌, ℤ, pos, ◌≤ℤ◌, ◌<ℤ◌, List, filter_map, length, Option, Some, None, slice_get, AllPairs}
use Rattle.pl_spec.specs.declared.Column.{Column}
use Rattle.pl_spec.specs.declared.Frequency.{Frequency}
use Rattle.pl_spec.specs.Periods.{period, period_start}
use Rattle.pl_spec.specs.Window.{before}
use Rattle.pl_pipeline.specs.Term.{Term, Input, Node, Graph, term_at, IsGraph}
use Rattle.pl_pipeline.specs.Term.Input.{BarColumn, TermInput}
use Rattle.pl_pipeline.specs.Graph.{least_of, reads_at, reach}
use Rattle.pl_spec.specs.World.{World, Bar}
use Rattle.pl_pipeline.specs.Reaching.{HasWindows, SameBarsFrom}
use Rattle.pl_pipeline.specs.Value.{value}
use Rattle.pl_pipeline.specs.Lows.{Reads, Needs, IsLow, least_reach}

-- bars before a term's reach may be others, or none: its value stays
abbrev pub ReachIsEnough : Type 0
ReachIsEnough = (w : World) (bars : List Bar) (low : ℤ) → SameBarsFrom w (record w { bars = bars }) low
    → (names : List (List ℕ)) (t : Term) → HasWindows t → (a : ℕ) (d : ℤ) → low ≤ℤ reach w.days t d
    → value w names t a d ≡ value (record w { bars = bars }) names t a d

-- what a computed session reads of a term is computed
abbrev pub LowsCover : Type 0
LowsCover = (days : List ℤ) → AllPairs (λ a b. a <ℤ b) days → (g : Graph) (outputs : List ℕ) (from : ℤ) (u t : ℕ) (n : Node) (low_u low_t s r : ℤ)
    → IsLow days g outputs from u low_u → IsLow days g outputs from t low_t → slice_get g u ≡ Some n → low_u ≤ℤ s → Reads days n s t r → low_t ≤ℤ r

abbrev pub HasBar : Node → Type 0
HasBar n = (i : ℕ) × (c : Column) × (slice_get n.inputs i ≡ Some (BarColumn c))

-- no needed session, and no bar that is read for one, lies before the least reach
pub record ReachCovers (days : List ℤ) (g : Graph) (outputs : List ℕ) (from : ℤ) : Type 0 where
  pub sessions : (t : ℕ) (s : ℤ) → Needs days g outputs from t s → least_reach days g outputs from ≤ℤ s
  pub terms : (t : ℕ) (s : ℤ) → Needs days g outputs from t s → least_reach days g outputs from ≤ℤ reach days (term_at g t) s
  pub bars : (t : ℕ) (n : Node) (s : ℤ) → Needs days g outputs from t s → slice_get g t ≡ Some n → HasBar n → least_reach days g outputs from ≤ℤ before (reads_at days n.kind s) n.window

abbrev pub ReachesCover : Type 0
ReachesCover = (days : List ℤ) (g : Graph) (outputs : List ℕ) (from : ℤ) → IsGraph g → ((k : ℕ) (n : Node) → slice_get g k ≡ Some n → 1 ≤ n.window)
    → ReachCovers days g outputs from

abbrev pub bar_from : ℕ → ℤ → Input → Option ℤ
bar_from size s (BarColumn c) = Some (before s size)
bar_from size s (TermInput k) = None

-- the first session that a node itself reads, of bars or of terms, for its own session s
abbrev pub own_from : List ℤ → Node → ℤ → ℤ
own_from days n s = least_of (filter_map (bar_from n.window (reads_at days n.kind s)) n.inputs) (reads_at days n.kind s)

-- the reach of a needed session is what some needed node itself reads
abbrev pub ReachesMeet : Type 0
ReachesMeet = (days : List ℤ) → AllPairs (λ a b. a <ℤ b) days → (g : Graph) (outputs : List ℕ) (from : ℤ) → IsGraph g → ((k : ℕ) (n : Node) → slice_get g k ≡ Some n → 1 ≤ n.window)
    → (t : ℕ) (s : ℤ) → t < length g → Needs days g outputs from t s
    → (u : ℕ) × (n : Node) × (r : ℤ) × Needs days g outputs from u r × (slice_get g u ≡ Some n) × (own_from days n r ≡ reach days (term_at g t) s)

-- The first session of a period is of the period, no earlier session is, and for a later session it is no
-- earlier.
pub record StartsAreFirst : Type 0 where
  pub within : (f : Frequency) (days : List ℤ) (d : ℤ) → period_start f days d ≤ℤ d
  pub start : (f : Frequency) (days : List ℤ) (d : ℕ) (day : ℤ) → slice_get days d ≡ Some day
      → (s : ℕ) × (first : ℤ) × (period_start f days (pos d) ≡ pos s) × (slice_get days s ≡ Some first) × (period f first ≡ period f day)
  pub least : (f : Frequency) (days : List ℤ) (d i : ℕ) (day x : ℤ) → slice_get days d ≡ Some day → slice_get days i ≡ Some x → period f x ≡ period f day → period_start f days (pos d) ≤ℤ pos i
  pub rises : (f : Frequency) (days : List ℤ) → AllPairs (λ a b. a <ℤ b) days → (d e : ℤ) → d ≤ℤ e → period_start f days d ≤ℤ period_start f days e

-- A term reaches no later than its session, and for a later session no farther back.
pub record ReachesRise : Type 0 where
  pub within : (days : List ℤ) (t : Term) (d : ℤ) → reach days t d ≤ℤ d
  pub rises : (days : List ℤ) → AllPairs (λ a b. a <ℤ b) days → (t : Term) (d e : ℤ) → d ≤ℤ e → reach days t d ≤ℤ reach days t e
