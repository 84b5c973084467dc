-- Worlds that files and tables can hold.
use Rattle.std.specs.Prelude.{All}
use Rattle.pl_spec.specs.World.{World}
use Rattle.pl_calendar.specs.Days.{AreDays}
use Rattle.pl_lifetimes.specs.Assets.{AreAssets}
use Rattle.pl_pieces.specs.Held.{AreBarsOf, AreLabelsOf, AreNumbersOf, IsLifetime}
use Rattle.pl_pieces.specs.Tables.{AreAdjustmentsOf}

-- each part of the world is as its reader keeps it
pub record FilesCanHold (w : World) : Type 0 where
  pub days : AreDays w.days
  pub assets : AreAssets w.assets
  pub lifetimes : All IsLifetime w.assets
  pub bars : AreBarsOf w
  pub labels : AreLabelsOf w
  pub numbers : AreNumbersOf w
  pub adjustments : AreAdjustmentsOf w
