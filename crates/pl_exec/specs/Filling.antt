-- A term that is computed while its bar columns are in slots.
use Rattle.std.specs.Prelude.{◌≡◌, ℕ, ◌+◌, ◌-◌, ℤ, List, max}
use Rattle.pl_spec.specs.Limits.{saturated}
use Rattle.pl_pipeline.specs.Term as spec
use Rattle.pl_terms.specs.Nodes.{node_of}
use Rattle.pl_workspace.specs.Slots.{Slots, live_count}
use Rattle.pl_exec.specs.declared.compute.Filled.{Filled}
use Rattle.pl_exec.specs.declared.compute.Term.{Term}
use Rattle.pl_exec.specs.Tasks.{Task, IsArray, term_steps}
use Rattle.pl_exec.specs.ChunkInputs.{HasRows, new_before, task_of}

abbrev pub task_for : Term → Task
task_for t = task_of t.chunk.now

abbrev pub node_for : Term → spec.Node
node_for t = node_of t.node.now

-- how many places from place p on have a new bar column
abbrev pub new_from : spec.Node → ℕ → ℕ
new_from n p = new_before n 3 - new_before n p

-- a, b and c are the cells for the bar columns of the last three places before place p
pub record HaveRows (t : Term) (p : ℕ) (a b c : List ℤ) : Type 0 where
  pub first : (q : ℕ) → q + 3 ≡ p → HasRows (task_for t) t.id.0 (node_for t) q a
  pub second : (q : ℕ) → q + 2 ≡ p → HasRows (task_for t) t.id.0 (node_for t) q b
  pub third : (q : ℕ) → q + 1 ≡ p → HasRows (task_for t) t.id.0 (node_for t) q c

-- Term k is computed: what it leaves of a workspace in which so many slots more were in use meanwhile, its
-- array, its steps, and what is told of them.
pub record IsFilled (t : Task) (k more : ℕ) (old new : Slots) (own : List ℤ) (before after : ℕ) (f : Filled) : Type 0 where
  pub array : IsArray t k own
  pub slots : new.slots ≡ old.slots
  pub len : new.len ≡ old.len
  pub peak : new.peak ≡ max old.peak (live_count old.slots + more)
  pub held : f.held ≡ live_count old.slots + more
  pub cost : after ≡ before + term_steps t k
  pub applied : f.applied ≡ saturated (term_steps t k)
