-- What stands in a workspace when some sessions of a planned pipeline are computed.
use Rattle.std.specs.Prelude.{◌≡◌, ℕ, ◌+◌, ◌-◌, ◌^◌, ◌<◌, ◌≤◌, true, ℤ, List, length, map, flat_map, pos, get_or, slice_get, Some, All}
use Rattle.std.specs.List.{range_with_len}
use Rattle.pl_spec.specs.declared.Format.{Format}
use Rattle.pl_spec.specs.Parts.{sid_at}
use Rattle.pl_spec.specs.World.{World}
use Rattle.pl_pipeline.specs.Graph.{contains}
use Rattle.pl_spec.specs.Rounding.{IsCell}
use Rattle.pl_pipeline.specs.Table.{NamedColumn, Pipeline, Row, session_rows}
use Rattle.pl_pipeline.specs.Text.{row_line}
use Rattle.pl_terms.specs.Uses.{outputs}
use Rattle.pl_planner.specs.Plans.{low_at, slot_of}
use Rattle.pl_values.specs.Arrays.{cell_of, HasAll, Holds}
use Rattle.pl_workspace.specs.Slots.{Live, slot_at}
use Rattle.pl_table.specs.declared.outcome.Outcome.{Outcome}
use Rattle.pl_table.specs.declared.rows.Cells.{Cells}
use Rattle.pl_table.specs.declared.rows.Table.{Table}
use Rattle.pl_table.specs.Asked.{IsAsked, asked_pipeline, asked_world}
use Rattle.pl_table.specs.Writings.{AreWritings}

abbrev pub world_in : Outcome → World
world_in o = asked_world o.asked

abbrev pub pipeline_in : Outcome → Pipeline
pipeline_in o = asked_pipeline o.asked

abbrev pub sids_in : Outcome → List ℕ
sids_in o = map (sid_at o.asked.world.assets.now) o.cols.now

-- the slot of term t holds its values on the sessions up to the last one, for each asset
pub record HasArray (o : Outcome) (t : ℕ) : Type 0 where
  pub cells : List ℤ
  pub live : slot_at o.workspace.now (slot_of o.asked.plan.now t) ≡ Live cells
  pub holds : Holds (cell_of (world_in o) (pipeline_in o) (sids_in o) t) (length o.cols.now) (low_at o.asked.plan.now t o.from) (o.to + 1 - low_at o.asked.plan.now t o.from) cells

-- The sessions are of the plan's range, all assets that exist on them are there, and each output has its
-- array.
pub record IsOutcome (o : Outcome) : Type 0 where
  pub asked : IsAsked o.asked
  pub from : o.asked.plan.now.from ≤ o.from
  pub order : o.from ≤ o.to
  pub to : o.to ≤ o.asked.plan.now.to
  pub fits : o.to < 2 ^ 63
  pub cols : All (λ c. c < length o.asked.world.assets.now) o.cols.now
  pub all : (s : ℕ) → o.from ≤ s → s ≤ o.to → HasAll (world_in o) (sids_in o) s
  pub arrays : (t : ℕ) → contains (outputs (pipeline_in o)) t ≡ true → HasArray o t

-- one of its sessions
pub record IsWithin (o : Outcome) (session : ℕ) : Type 0 where
  pub from : o.from ≤ session
  pub to : session ≤ o.to

-- the cells of the columns for the asset in a place on a session
pub record HasCells (o : Outcome) (place session : ℕ) (values : List ℤ) : Type 0 where
  pub long : length values ≡ length (pipeline_in o).columns
  pub each : (k : ℕ) (c : NamedColumn) → slice_get (pipeline_in o).columns k ≡ Some c → get_or values k (pos 0) ≡ cell_of (world_in o) (pipeline_in o) (sids_in o) c.term place session
  pub cell : (k : ℕ) → k < length (pipeline_in o).columns → IsCell (get_or values k (pos 0))

-- an outcome, with how its columns are written
pub record IsTable (t : Table) : Type 0 where
  pub outcome : IsOutcome t.outcome.now
  pub writings : AreWritings (pipeline_in t.outcome.now) t.writings.now

-- a row's cells, which are those of its asset on its session
pub record AreCells (c : Cells) : Type 0 where
  pub outcome : IsOutcome c.outcome.now
  pub writings : AreWritings (pipeline_in c.outcome.now) c.writings.now
  pub cells : HasCells c.outcome.now c.place c.session c.values.now

-- the lines of rows
abbrev pub lines : World → Pipeline → Format → List Row → List ℕ
lines w p format rows = flat_map (row_line w p format) rows

-- the rows of n sessions from one on
abbrev pub rows_of_sessions : World → Pipeline → ℕ → ℕ → List Row
rows_of_sessions w p from n = flat_map (λ d. session_rows w p (pos d)) (range_with_len from n)
