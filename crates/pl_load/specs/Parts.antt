-- What the parts of a load give: the rest of a world after its sessions and assets, and the rest of a run or
-- of a plan after its pipeline.
use Rattle.std.specs.Prelude.{◌≡◌, ℤ, List, ◌∷◌, ◌++◌, Option, Some, None, Result}
use Rattle.pl_spec.specs.declared.AssetRow.{AssetRow}
use Rattle.pl_spec.specs.Parts.{ColumnAdjustment}
use Rattle.pl_numbers.specs.Numbers.{NumberTable}
use Rattle.pl_pipeline.specs.Table.{Pipeline}
use Rattle.pl_planner.specs.Plans.{Planned, IsPlanOf}
use Rattle.pl_world.specs.Known.{ShowsSame}
use Rattle.pl_world.specs.Worlds.{owned_world}
use Rattle.pl_words.specs.declared.request.InputFile.TheVariants.{Sessions, Labels, Numbers, Results, Bars, Revisions}
use Rattle.pl_words.specs.Request.{Request, PlanRequest, RunRequest, WorldNames, Run, Plan}
use Rattle.pl_load.specs.declared.fault.Fault.{Fault}
use Rattle.pl_load.specs.Contents.{Contents}
use Rattle.pl_load.specs.Held.{days_held, world_held, labels_asked, numbers_asked, results_asked, bars_in, adjustments_asked, revised_asked}
use Rattle.pl_load.specs.Known.{world_known}
use Rattle.pl_load.specs.Planning.{HasRows}
use Rattle.pl_load.specs.Range.{index_of, range_steps}
use Rattle.pl_load.specs.Steps.{WorkStep}
use Rattle.pl_load.specs.Work.{data_steps, figures_steps, revised_steps, rows_steps, sessions_step}
use Rattle.pl_load.specs.declared.loading.PlannedWorld.{PlannedWorld}
use Rattle.pl_load.specs.declared.loading.WorldRows.{WorldRows}
use Rattle.pl_load.specs.Loads.{IsLoadOf, AsksWorld}
use Rattle.pl_load.specs.Views.{ShelfView, KeeperView, Change, unchanged}

-- the adjustments with their revisions, among these sessions and assets
abbrev pub AreRevised : WorldNames → List ℤ → List AssetRow → Contents → List ColumnAdjustment → Type 0
AreRevised q days assets held adjustments =
    revised_asked days assets (adjustments_asked assets q.adjustments held.rows) q.revisions (held.file Revisions) ≡ adjustments

abbrev pub IsRevisedLoad : Change ShelfView → Change KeeperView → WorldNames → List ℤ → List AssetRow
    → Result (List ColumnAdjustment) Fault → Type 0
IsRevisedLoad shelf keeper q days assets result =
    (asked : Option Request) → AsksWorld asked q
    → IsLoadOf shelf keeper asked (λ held. revised_steps days assets held q) (AreRevised q days assets) result

-- the numbers of both files
abbrev pub AreFigures : WorldNames → List AssetRow → Contents → NumberTable → Type 0
AreFigures q assets held table =
    results_asked assets (numbers_asked assets q.numbers (held.file Numbers)) q.results (held.file Results) ≡ table

-- which no keeper has a part in
abbrev pub IsFiguresLoad : Change ShelfView → WorldNames → List AssetRow → Result NumberTable Fault → Type 0
IsFiguresLoad shelf q assets result =
    (asked : Option Request) (keeper : KeeperView) → AsksWorld asked q
    → IsLoadOf shelf (unchanged keeper) asked (λ held. figures_steps assets held q) (AreFigures q assets) result

-- the labels, the numbers, the bars and the adjustments
pub record AreRows (q : WorldNames) (days : List ℤ) (assets : List AssetRow) (held : Contents) (r : WorldRows) : Type 0 where
  pub labels : labels_asked assets q.labels (held.file Labels) ≡ r.labels
  pub numbers : AreFigures q assets held r.numbers
  pub bars : bars_in days assets (held.file Bars) ≡ r.bars
  pub adjustments : AreRevised q days assets held r.adjustments

abbrev pub IsRowsLoad : Change ShelfView → Change KeeperView → WorldNames → List ℤ → List AssetRow
    → Result WorldRows Fault → Type 0
IsRowsLoad shelf keeper q days assets result =
    (asked : Option Request) → AsksWorld asked q
    → IsLoadOf shelf keeper asked (λ held. rows_steps days assets held q) (AreRows q days assets) result

-- the world of a run of this pipeline, and its plan
pub record IsPlannedWorld (q : RunRequest) (p : Pipeline) (held : Contents) (w : PlannedWorld) : Type 0 where
  pub world : world_known held q ≡ owned_world w.world
  pub same : ShowsSame (owned_world w.world) (world_held held q.world) p w.plan.from w.plan.to
  pub plan : IsPlanOf (days_held held) p w.plan
  pub from : index_of (days_held held) q.from.day ≡ w.plan.from
  pub to : index_of (days_held held) q.to.day ≡ w.plan.to

abbrev pub world_steps : RunRequest → Pipeline → Contents → List WorkStep
world_steps q p held =
    data_steps held q.world ++ range_steps p (days_held held) q.from q.to q.options.as_of

abbrev pub IsWorldLoad : Change ShelfView → Change KeeperView → RunRequest → Pipeline → Result PlannedWorld Fault → Type 0
IsWorldLoad shelf keeper q p result =
    IsLoadOf shelf keeper (Some (Run q)) (world_steps q p) (IsPlannedWorld q p) result

-- the plan of this pipeline
pub record IsPlanHeld (q : PlanRequest) (p : Pipeline) (held : Contents) (made : Planned) : Type 0 where
  pub plan : IsPlanOf (days_held held) p made
  pub rows : HasRows (days_held held) p made
  pub from : index_of (days_held held) q.from.day ≡ made.from

abbrev pub plan_steps_for : PlanRequest → Pipeline → Contents → List WorkStep
plan_steps_for q p held =
    sessions_step (held.file Sessions) ∷ range_steps p (days_held held) q.from q.to None

abbrev pub IsPlanFor : Change ShelfView → Change KeeperView → PlanRequest → Pipeline → Result Planned Fault → Type 0
IsPlanFor shelf keeper q p result =
    IsLoadOf shelf keeper (Some (Plan q)) (plan_steps_for q p) (IsPlanHeld q p) result
