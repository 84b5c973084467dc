-- What clauses see of the outside of a run, before it and after it.
use Rattle.std.specs.Prelude.{ℕ, ◌≤◌, Bool, List, IsTrue, Option}
use Rattle.pl_outside.specs.declared.sink.Sink as sinks
use Rattle.pl_outside.specs.Left.{LeavesSink}
use Rattle.pl_load.specs.Given.{Log}
use Rattle.pl_load.specs.Views.{ShelfView, KeeperView, Change, change, log_of}

-- what a sink took, where it tells, whether it is sound, its faults and its room
pub record SinkView : Type 0 where
  pub taken : Option (List ℕ)
  pub sound : Bool
  pub faults : ℕ
  pub room : ℕ

abbrev pub sink_view : {O : Type 0} → sinks.Ghosts O → O → SinkView
sink_view members out =
    record { taken = members.taken out; sound = members.sound out; faults = members.faults out; room = members.room out }

abbrev pub sink_change : {O : Type 0} → sinks.Ghosts O → O → O → Change SinkView
sink_change members old new = change (sink_view members old) (sink_view members new)

abbrev pub SinkLeft : Change SinkView → Type 0
SinkLeft c = LeavesSink (λ (v : SinkView). v.sound) (λ v. v.faults) c.before c.after

-- what the text of a run goes to: what it took, where it tells, whether it is sound, and its room
pub record Output : Type 0 where
  pub taken : Option (List ℕ)
  pub sound : Bool
  pub room : ℕ

abbrev pub output_of : SinkView → Output
output_of out = record { taken = out.taken; sound = out.sound; room = out.room }

-- the parts of the outside, and how many steps were counted
pub record Outside : Type 0 where
  pub shelf : Change ShelfView
  pub keeper : Change KeeperView
  pub out : Change Output
  pub steps : Change ℕ

abbrev pub outside : Change ShelfView → Change KeeperView → Change SinkView → Change ℕ → Outside
outside shelf keeper out steps =
    record { shelf = shelf; keeper = keeper; out = change (output_of out.before) (output_of out.after); steps = steps }

-- what was given and loaded before, and what was as the run ends
abbrev pub log_before : Outside → Log
log_before o = log_of o.shelf.before o.keeper.before

abbrev pub log_after : Outside → Log
log_after o = log_of o.shelf.after o.keeper.after

-- `out` is sound with room for a text of that length
abbrev pub HasRoom : Outside → ℕ → Type 0
HasRoom o n = IsTrue o.out.before.sound × (n ≤ o.out.before.room)
