-- What the code keeps of terms one by one.
use Rattle.std.specs.Prelude.{◌≡◌, ℕ, ◌<◌, ◌≤◌, if◌then◌else◌, List, length, get_or}
use Rattle.pl_spec.specs.Limits.{most_terms}
use Rattle.pl_pipeline.specs.Cones.{cone_depths}
use Rattle.pl_pipeline.specs.Term.{Input}
use Rattle.pl_pipeline.specs.Table.{Pipeline}
use Rattle.pl_terms.specs.Checked.{IsChecked}
use Rattle.pl_terms.specs.Uses.{is_used}
use Rattle.pl_daily.specs.Capacities.{deepest, depth_in, sessions_read_at}

-- the number of a term of a pipeline as the language allows it
pub record IsNumber (p : Pipeline) (k : ℕ) : Type 0 where
  pub checked : IsChecked p
  pub few : length p.graph ≤ most_terms
  pub within : k < length p.graph

-- how many sessions a used term reads of the input, and 0 for another
abbrev pub used_sessions : Input → Pipeline → ℕ → ℕ
used_sessions x p k = if is_used p k then sessions_read_at x p k else 0

-- the depth of term u in the cone of a used term, and 0 for another
abbrev pub used_depth : Pipeline → ℕ → ℕ → ℕ
used_depth p u k = if is_used p k then depth_in u (cone_depths p.graph k) else 0

-- by number, on how many sessions before the last one terms are read as they are seen on the last
pub record AreDepths (p : Pipeline) (depths : List ℕ) : Type 0 where
  pub many : length depths ≡ length p.graph
  pub each : (u : ℕ) → u < length p.graph → get_or depths u 0 ≡ deepest p u
