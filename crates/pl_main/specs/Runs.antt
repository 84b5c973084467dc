-- What is seen of a run whose text goes to a stream.
use Rattle.std.specs.Prelude.{ℕ, List, false, Some}
use Rattle.pl_load.specs.Views.{ShelfView, KeeperView, Change, change}
use Rattle.pl_cli.specs.Views.{Outside, Output}

-- the bytes that a stream took; it has no room that is known
abbrev pub stream : List ℕ → Output
stream bytes = record { taken = Some bytes; sound = false; room = 0 }

-- The steps are counted from 0.
abbrev pub over_stream : Change ShelfView → Change KeeperView → Change (List ℕ) → ℕ → Outside
over_stream shelf keeper out steps =
    record { shelf = shelf; keeper = keeper; out = change (stream out.before) (stream out.after); steps = change 0 steps }
