-- The world that lent parts are.
use Rattle.std.specs.Prelude.{◌<◌, ℤ, List, length, All}
use Rattle.pl_spec.specs.declared.AssetRow.{AssetRow}
use Rattle.pl_spec.specs.declared.BarRow.{BarRow}
use Rattle.pl_spec.specs.World as spec
use Rattle.pl_spec.specs.World.{IsWorld}
use Rattle.pl_spec.specs.Lookups.{BarsOnce, LabelsOnce}
use Rattle.pl_spec.specs.Numbers.{NumbersOnce}
use Rattle.pl_spec.specs.Parts as parts
use Rattle.pl_spec.specs.Parts.{AreFor, ColumnAdjustment, ColumnLabel, ColumnNumber}
use Rattle.pl_calendar.specs.Days.{AreDays}
use Rattle.pl_lifetimes.specs.Assets.{AreAssets}
use Rattle.pl_assets.specs.Labels.{AreLabels}
use Rattle.pl_bars.specs.Bars.{AreBars}
use Rattle.pl_adjust.specs.Columns.{AreByDay}
use Rattle.pl_adjust.specs.Events.{PutsCell}
use Rattle.pl_numbers.specs.Numbers.{AreNumbers}
use Rattle.pl_world.specs.declared.owned.OwnedWorld.{OwnedWorld}
use Rattle.pl_world.specs.declared.world.World.{World}

abbrev pub world_of : World → spec.World
world_of w =
    parts.world_of w.sessions.now w.assets.now w.labels.now.rows w.labels.now.texts w.bars.now
    w.adjustments.now w.numbers.now.rows

-- the same of parts that are owned
abbrev pub owned_world : OwnedWorld → spec.World
owned_world w =
    parts.world_of w.sessions w.assets w.labels.rows w.labels.texts w.bars w.adjustments w.numbers.rows

-- The parts were made for these sessions and assets: each bar is of one of the sessions, and each label row,
-- bar, adjustment and number of one of the assets.
pub record AreMadeFor (days : List ℤ) (assets : List AssetRow) (labels : List ColumnLabel)
    (bars : List BarRow) (adjustments : List ColumnAdjustment) (numbers : List ColumnNumber) : Type 0 where
  pub labels_in : All (λ r. r.col < length assets) labels
  pub bars_in : All (λ b. b.col < length assets) bars
  pub sessions_in : All (λ b. b.session < length days) bars
  pub adjustments_in : All (λ x. x.col < length assets) adjustments
  pub numbers_in : All (λ r. r.col < length assets) numbers

-- the parts were made for the world's own sessions and assets
abbrev pub IsMade : World → Type 0
IsMade w =
    AreMadeFor w.sessions.now w.assets.now w.labels.now.rows w.bars.now w.adjustments.now w.numbers.now.rows

-- the same of parts that are owned
abbrev pub IsOwnedMade : OwnedWorld → Type 0
IsOwnedMade w = AreMadeFor w.sessions w.assets w.labels.rows w.bars w.adjustments w.numbers.rows

-- the parts were made for one another, and each is as its type keeps it
pub record AreSound (w : World) : Type 0 where
  pub made : IsMade w
  pub days : AreDays w.sessions.now
  pub assets : AreAssets w.assets.now
  pub labels : AreLabels w.labels.now
  pub bars : AreBars w.bars.now
  pub in_order : AreByDay w.adjustments.now
  pub puts : All (λ x. PutsCell x.event) w.adjustments.now
  pub numbers : AreNumbers w.numbers.now

-- The parts stand in their orders, and are a world that has each bar, each label row and each number once.
pub record PartsMakeAWorld (w : World) : Type 0 where
  pub sound : AreSound w
  pub parts : AreFor w.sessions.now w.assets.now w.labels.now.rows w.bars.now w.adjustments.now
      w.numbers.now.rows
  pub world : IsWorld (world_of w)
  pub bars_once : BarsOnce (world_of w)
  pub labels_once : LabelsOnce (world_of w)
  pub numbers_once : NumbersOnce (world_of w).numbers
