-- From which session on the terms of a graph are computed.
use Rattle.std.specs.Prelude.{◌≡◌, ℕ, ◌-◌, true, ℤ, ◌≤ℤ◌, List, map, Some, slice_get}
use Rattle.pl_spec.specs.Window.{before}
use Rattle.pl_pipeline.specs.Term.{Node, Graph, term_at}
use Rattle.pl_pipeline.specs.Term.Input.{TermInput}
use Rattle.pl_pipeline.specs.Graph.{contains, least_of, reads_at, reach}

-- Term t is read from session r on by a node for its own session s: an input over the window, a mask and a
-- group on s alone.
pub data Reads (days : List ℤ) (n : Node) (s : ℤ) : ℕ → ℤ → Type 0 where
  input : {t : ℕ} (i : ℕ) → slice_get n.inputs i ≡ Some (TermInput t) → Reads days n s t (before (reads_at days n.kind s) (n.window - 1))
  mask : {t : ℕ} → n.mask ≡ Some t → Reads days n s t s
  group : {t : ℕ} → n.group ≡ Some t → Reads days n s t s

-- Of term t session s is needed where the outputs are asked for from a session on: of an output that session,
-- and of what a needed term reads the first session that it reads.
pub data Needs (days : List ℤ) (g : Graph) (outputs : List ℕ) (from : ℤ) : ℕ → ℤ → Type 0 where
  output : {t : ℕ} → contains outputs t ≡ true → Needs days g outputs from t from
  read : {t : ℕ} {r : ℤ} (u : ℕ) (n : Node) (s : ℤ) → Needs days g outputs from u s → slice_get g u ≡ Some n → Reads days n s t r → Needs days g outputs from t r

-- the session from which on term t is computed
pub record IsLow (days : List ℤ) (g : Graph) (outputs : List ℕ) (from : ℤ) (t : ℕ) (low : ℤ) : Type 0 where
  pub needed : Needs days g outputs from t low
  pub least : (s : ℤ) → Needs days g outputs from t s → low ≤ℤ s

-- the least reach of the outputs
abbrev pub least_reach : List ℤ → Graph → List ℕ → ℤ → ℤ
least_reach days g outputs d = least_of (map (λ t. reach days (term_at g t) d) outputs) d
