-- Adjustments and effects as the definitions know them.
use Rattle.std.specs.Prelude.{ℤ, List, All, map, filter_map}
use Rattle.pl_spec.specs.declared.Column.{Column}
use Rattle.pl_spec.specs.Rounding.{IsCell}
use Rattle.pl_spec.specs.Window as window
use Rattle.pl_spec.specs.Window.{effect}
use Rattle.pl_spec.specs.World as world
use Rattle.pl_spec.specs.World.{Event}
use Rattle.pl_adjust.specs.declared.adjust.Adjust.{Adjust}
use Rattle.pl_adjust.specs.declared.adjust.Change.{Change}
use Rattle.pl_adjust.specs.declared.adjust.Change.TheVariants.{Overwrite}
use Rattle.pl_adjust.specs.declared.adjust.Change.TheVariants as change
use Rattle.pl_adjust.specs.declared.adjust.Effect.{Effect}
use Rattle.pl_adjust.specs.declared.adjust.Effect.TheVariants.{Put}
use Rattle.pl_adjust.specs.declared.adjust.Effect.TheVariants as done

abbrev pub change_of : Change → world.Change
change_of (change.Scale ratio) = world.Scale ratio
change_of (Overwrite bar_day column value) = world.Overwrite bar_day column value

abbrev pub ChangesToCell : world.Change → Type 0
ChangesToCell (world.Scale ratio) = Unit {0}
ChangesToCell (world.Overwrite day c value) = IsCell value

abbrev pub event_of : Adjust → Event
event_of a = record { kind = a.kind; day = a.day; change = change_of a.change }

abbrev pub effect_of : Effect → window.Effect
effect_of (done.Scale ratio) = window.Scale ratio
effect_of (Put value) = window.Put value

-- what overwrites a cell is a cell
abbrev pub PutsCell : Event → Type 0
PutsCell e = ChangesToCell e.change

abbrev pub PutCells : List Event → Type 0
PutCells es = All PutsCell es

abbrev pub IsPut : Effect → Type 0
IsPut (done.Scale ratio) = Unit {0}
IsPut (Put value) = IsCell value

-- what adjustments do to the cell of a column in the bar of a day
abbrev pub effects_of : Column → ℤ → List Adjust → List window.Effect
effects_of c bar xs = filter_map (effect c bar) (map event_of xs)
