-- What a plan is asked of.
use Rattle.std.specs.Prelude.{◌≤◌, ℕ, ℤ, List, [], ◌∷◌, length, Option, Some, None}
use Rattle.pl_spec.specs.Limits.{most_terms}
use Rattle.pl_pipeline.specs.Table.{Pipeline}
use Rattle.pl_calendar.specs.Days.{AreDays}
use Rattle.pl_terms.specs.Checked.{IsChecked}
use Rattle.pl_terms.specs.Uses.{outputs}

-- days as sessions have them, and a pipeline as the language allows it, of so few terms that each has a number
pub record AreAsked (ds : List ℤ) (p : Pipeline) : Type 0 where
  pub days : AreDays ds
  pub checked : IsChecked p
  pub few : length p.graph ≤ most_terms

-- what is wanted: one term alone, or all outputs
abbrev pub wanted : Pipeline → Option ℕ → List ℕ
wanted p None = outputs p
wanted p (Some t) = t ∷ []
