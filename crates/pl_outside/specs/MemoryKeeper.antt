-- How a keeper in memory keeps its rows.
use Rattle.std.specs.Prelude.{string_bytes}
use Rattle.pl_outside.specs.declared.memory_keeper.MemoryKeeper.TheInside.{Inside}
use Rattle.pl_outside.specs.KeeperState.{KeeperState}

abbrev pub state_of : Inside → KeeperState
state_of a =
    record {
      name = string_bytes a.name;
      splits = a.splits.items;
      mergers = a.mergers.items;
      dividends = a.dividends.items;
      loaded = a.log.tables;
      calls = a.calls;
      splits_ascend = a.splits_ascend;
      mergers_ascend = a.mergers_ascend;
      dividends_ascend = a.dividends_ascend;
    }
