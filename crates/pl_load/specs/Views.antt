-- What clauses see of a shelf and of a keeper, before a call and after it.
use Rattle.std.specs.Prelude.{ℕ, Bool, List, Option}
use Rattle.pl_outside.specs.Files.{Files}
use Rattle.pl_outside.specs.Lists.{Lists}
use Rattle.pl_outside.specs.Logs as logs
use Rattle.pl_load.specs.Given.{Log}
use Rattle.pl_outside.specs.declared.shelf.Shelf as shelves
use Rattle.pl_outside.specs.declared.keeper.AdjustKeeper as keepers
use Rattle.pl_outside.specs.Left.{Leaves, IsUntouched}

-- what it holds and which names were begun, where it tells, what it gave, whether it is sound, and its faults
pub record ShelfView : Type 0 where
  pub holds : Option Files
  pub begun : Option (List (List ℕ))
  pub gave : List logs.Given
  pub sound : Bool
  pub faults : ℕ

-- its lists, where it tells, what it loaded, whether it is sound, its faults and its calls
pub record KeeperView : Type 0 where
  pub lists : Option Lists
  pub loaded : List logs.Loaded
  pub sound : Bool
  pub faults : ℕ
  pub calls : ℕ

pub record Change (A : Type 0) : Type 0 where
  pub before : A
  pub after : A

abbrev pub change : {A : Type 0} → A → A → Change A
change before after = record { before = before; after = after }

-- of what a call does not use
abbrev pub unchanged : {A : Type 0} → A → Change A
unchanged view = change view view

abbrev pub shelf_view : {S : Type 0} → shelves.Ghosts S → S → ShelfView
shelf_view members shelf =
    record {
      holds = members.holds shelf;
      begun = members.begun shelf;
      gave = members.gave shelf;
      sound = members.sound shelf;
      faults = members.faults shelf;
    }

abbrev pub keeper_view : {K : Type 0} → keepers.Ghosts K → K → KeeperView
keeper_view members keeper =
    record {
      lists = members.lists keeper;
      loaded = members.loaded keeper;
      sound = members.sound keeper;
      faults = members.faults keeper;
      calls = members.calls keeper;
    }

-- by the members of their traits
abbrev pub shelf_change : {S : Type 0} → shelves.Ghosts S → S → S → Change ShelfView
shelf_change members old new = change (shelf_view members old) (shelf_view members new)

abbrev pub keeper_change : {K : Type 0} → keepers.Ghosts K → K → K → Change KeeperView
keeper_change members old new = change (keeper_view members old) (keeper_view members new)

-- they are left as parts, and a keeper may be left alone
abbrev pub ShelfLeft : Change ShelfView → Type 0
ShelfLeft c = Leaves (λ (v : ShelfView). v.holds) (λ v. v.sound) (λ v. v.faults) c.before c.after

abbrev pub KeeperLeft : Change KeeperView → Type 0
KeeperLeft c = Leaves (λ (v : KeeperView). v.lists) (λ v. v.sound) (λ v. v.faults) c.before c.after

abbrev pub KeeperAlone : Change KeeperView → Type 0
KeeperAlone c = IsUntouched (λ (v : KeeperView). v.faults) (λ v. v.calls) c.before c.after

-- what both gave and loaded
abbrev pub log_of : ShelfView → KeeperView → Log
log_of shelf keeper = record { files = shelf.gave; tables = keeper.loaded }
