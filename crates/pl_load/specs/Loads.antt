-- What was loaded.
use Rattle.std.specs.Prelude.{◌≡◌, ℕ, ℤ, pos, ◌≤ℤ◌, List, Option, Some, None, Result, IfOk, IfErr, slice_get}
use Rattle.pl_spec.specs.AsOf.{as_of}
use Rattle.pl_pipeline.specs.Table.{Pipeline}
use Rattle.pl_terms.specs.Checked.{pipeline_of}
use Rattle.pl_outside.specs.Counts.{Rose, count_plus}
use Rattle.pl_outside.specs.Files.{BeginsAll}
use Rattle.pl_world.specs.declared.owned.OwnedWorld.{OwnedWorld}
use Rattle.pl_world.specs.Known.{ShowsSame}
use Rattle.pl_world.specs.Worlds.{owned_world, IsOwnedMade}
use Rattle.pl_planner.specs.Plans.{IsPlanOf}
use Rattle.pl_words.specs.declared.request.InputFile.TheVariants.{Sessions, Assets, Labels, Numbers, Results, Bars, Revisions}
use Rattle.pl_words.specs.Request.{Request, RunRequest, PlanRequest, WorldNames, Run, Plan, name_asked, adjustments_of}
use Rattle.pl_load.specs.declared.fault.Fault.{Fault}
use Rattle.pl_load.specs.Contents.{Contents, AreHeld}
use Rattle.pl_load.specs.Held.{pipeline_held, days_held, world_held}
use Rattle.pl_load.specs.Known.{world_known}
use Rattle.pl_load.specs.Steps.{Reading, WorkStep, names_read, tables_read}
use Rattle.pl_load.specs.Work.{data_steps, run_work, plan_work}
use Rattle.pl_load.specs.Planning.{HasRows}
use Rattle.pl_load.specs.Range.{index_of}
use Rattle.pl_load.specs.Given.{AreGiven}
use Rattle.pl_load.specs.Stages.{StageEnds, HasRead, IsRisen}
use Rattle.pl_load.specs.declared.loading.Loaded.{Loaded}
use Rattle.pl_load.specs.declared.planning.PlannedPipeline.{PlannedPipeline}
use Rattle.pl_load.specs.Views.{ShelfView, KeeperView, Change, log_of, ShelfLeft, KeeperLeft, KeeperAlone}

-- Some part of the work of a command was done. Over these contents the steps of that part end so, and of them
-- the value is. What was read is what these steps read, each file and each table once and in their order, and
-- its contents are what was given of the files and loaded of the tables in this call. They are what the parts
-- hold under the names of the command, where they tell. The parts are left as parts.
pub record IsLoadOf {T : Type 0} (shelf : Change ShelfView) (keeper : Change KeeperView) (asked : Option Request)
    (steps : Contents → List WorkStep) (Means : Contents → T → Type 0) (result : Result T Fault) : Type 0 where
  pub held : Contents
  pub are_held : AreHeld shelf.before.holds keeper.before.lists asked held
  pub ends : StageEnds shelf.before.sound keeper.before.sound (steps held) result
  pub loaded : IfOk result (Means held)
  pub reads : List Reading
  pub has_read : HasRead (steps held) reads result
  pub begun : BeginsAll shelf.before.begun shelf.after.begun (names_read (λ file. name_asked asked file) reads)
  pub calls : keeper.after.calls ≡ count_plus keeper.before.calls (tables_read reads)
  pub given : AreGiven asked reads (log_of shelf.before keeper.before) (log_of shelf.after keeper.after) result
  pub risen : IfErr result (IsRisen (Rose shelf.before.faults shelf.after.faults)
      (Rose keeper.before.faults keeper.after.faults))
  pub shelf_left : ShelfLeft shelf
  pub keeper_left : KeeperLeft keeper
  pub alone : adjustments_of asked ≡ None → KeeperAlone keeper

-- The world is what is known of the other by session d, up to which it shows what the other does; without a
-- session it is the other itself.
pub record IsKnownBy (w : OwnedWorld) (d : ℕ) (v : OwnedWorld) : Type 0 where
  pub day : ℤ
  pub is_day : slice_get w.sessions d ≡ Some day
  pub world : owned_world v ≡ as_of (owned_world w) d day
  pub same : (p : Pipeline) (from to : ℕ) → pos to ≤ℤ pos d → ShowsSame (owned_world v) (owned_world w) p from to

abbrev pub IsKnown : OwnedWorld → Option ℕ → OwnedWorld → Type 0
IsKnown w None v = v ≡ w
IsKnown w (Some d) v = IsKnownBy w d v

-- The parts are those of the contents, as far as they are known by the date as of which the run is, and the
-- plan is one of the pipeline over the sessions, for the range of the two dates. The rows of the range are
-- those of the whole world.
pub record IsLoaded (held : Contents) (q : RunRequest) (l : Loaded) : Type 0 where
  pub pipeline : pipeline_held held ≡ pipeline_of l.checked
  pub world : world_known held q ≡ owned_world l.world
  pub same : ShowsSame (owned_world l.world) (world_held held q.world) (pipeline_of l.checked) l.plan.from l.plan.to
  pub plan : IsPlanOf (days_held held) (pipeline_of l.checked) l.plan
  pub from : index_of (days_held held) q.from.day ≡ l.plan.from
  pub to : index_of (days_held held) q.to.day ≡ l.plan.to

-- what a writer of the rows asks
pub record IsReadyRun (l : Loaded) : Type 0 where
  pub made : IsOwnedMade l.world
  pub plan : IsPlanOf l.world.sessions (pipeline_of l.checked) l.plan

-- the names of a world are those under which a command asks for its files and its tables
pub record AsksWorld (asked : Option Request) (q : WorldNames) : Type 0 where
  pub sessions : name_asked asked Sessions ≡ Some q.sessions
  pub assets : name_asked asked Assets ≡ Some q.assets
  pub labels : name_asked asked Labels ≡ q.labels
  pub numbers : name_asked asked Numbers ≡ q.numbers
  pub results : name_asked asked Results ≡ q.results
  pub bars : name_asked asked Bars ≡ Some q.bars
  pub revisions : name_asked asked Revisions ≡ q.revisions
  pub adjustments : adjustments_of asked ≡ q.adjustments

-- the world is that of the contents
pub record IsWorldHeld (q : WorldNames) (held : Contents) (w : OwnedWorld) : Type 0 where
  pub days : days_held held ≡ w.sessions
  pub world : world_held held q ≡ owned_world w

-- The data of a world is loaded in this way, by whatever command asks for it.
abbrev pub IsData : Change ShelfView → Change KeeperView → WorldNames → Result OwnedWorld Fault → Type 0
IsData shelf keeper q result =
    (asked : Option Request) → AsksWorld asked q
    → IsLoadOf shelf keeper asked (λ held. data_steps held q) (IsWorldHeld q) result

-- A run is loaded in this way.
abbrev pub IsLoad : Change ShelfView → Change KeeperView → RunRequest → Result Loaded Fault → Type 0
IsLoad shelf keeper q result =
    IsLoadOf shelf keeper (Some (Run q)) (λ held. run_work held q) (λ held l. IsLoaded held q l) result

-- The pipeline is that of the contents, and the plan is one of it over their sessions, for the range of the
-- two dates.
pub record IsPlanned (held : Contents) (q : PlanRequest) (l : PlannedPipeline) : Type 0 where
  pub pipeline : pipeline_held held ≡ pipeline_of l.checked
  pub plan : IsPlanOf (days_held held) (pipeline_of l.checked) l.plan
  pub rows : HasRows (days_held held) (pipeline_of l.checked) l.plan
  pub from : index_of (days_held held) q.from.day ≡ l.plan.from

-- A plan is loaded in this way.
abbrev pub IsPlanLoad : Change ShelfView → Change KeeperView → PlanRequest → Result PlannedPipeline Fault → Type 0
IsPlanLoad shelf keeper q result =
    IsLoadOf shelf keeper (Some (Plan q)) (λ held. plan_work held q) (λ held l. IsPlanned held q l) result
