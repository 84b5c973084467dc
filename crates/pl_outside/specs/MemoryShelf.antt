-- How a shelf in memory keeps what a clause sees.
use Rattle.std.specs.Prelude.{map}
use Rattle.pl_outside.specs.declared.memory_shelf.MemoryShelf.TheInside.{Inside}
use Rattle.pl_outside.specs.HeldFiles.{shown, rest_at, IsWithin}
use Rattle.pl_outside.specs.ShelfState.{ShelfState}

abbrev pub state_of : Inside → ShelfState
state_of a =
    record {
      files = map shown a.files.items;
      rest = rest_at a.files.items a.begun a.read;
      gave = a.log.files;
      given = a.given;
      calls = a.calls;
    }

abbrev pub IsReading : Inside → Type 0
IsReading a = IsWithin a.files.items a.begun a.read
