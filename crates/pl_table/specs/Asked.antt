-- What a table is asked of.
use Rattle.std.specs.Prelude.{ℕ, ℤ, List}
use Rattle.pl_spec.specs.World.{IsWorld, World}
use Rattle.pl_pipeline.specs.Table.{NamedColumn, Pipeline, Row, table}
use Rattle.pl_pipeline.specs.Text.{text}
use Rattle.pl_cross.specs.Arrays.{HasTexts}
use Rattle.pl_world.specs.Worlds.{AreSound, world_of}
use Rattle.pl_terms.specs.Checked.{IsChecked, pipeline_of}
use Rattle.pl_planner.specs.Plans.{IsPlanOf}
use Rattle.pl_table.specs.declared.asked.Asked.{Asked}
use Rattle.pl_table.specs.Rows.{value_part}

abbrev pub asked_world : Asked → World
asked_world a = world_of a.world

abbrev pub asked_pipeline : Asked → Pipeline
asked_pipeline a = pipeline_of a.checked.now

-- the rows of the plan's range, and their text
abbrev pub asked_table : Asked → List Row
asked_table a = table (asked_world a) (asked_pipeline a) a.plan.now.from a.plan.now.to

abbrev pub asked_text : Asked → List ℕ
asked_text a = text (asked_world a) (asked_pipeline a) a.format (asked_table a)

-- the field of a column for an asset on a session, with what stands before it
abbrev pub asked_field : Asked → ℕ → ℤ → NamedColumn → List ℕ
asked_field a sid session c = value_part (asked_world a) (asked_pipeline a) a.format sid session c

-- The parts are as their types keep them, and make a world in which each label has its code. The pipeline keeps
-- the rules of the language, and the plan is its own over the world's sessions.
pub record IsAsked (a : Asked) : Type 0 where
  pub sound : AreSound a.world
  pub world : IsWorld (asked_world a)
  pub texts : HasTexts (asked_world a)
  pub checked : IsChecked (asked_pipeline a)
  pub plan : IsPlanOf a.world.sessions.now (asked_pipeline a) a.plan.now
