-- Keepers in memory.
use Rattle.std.proofs.Common.{◌≡◌, ℕ, List}
use Rattle.std.proofs.Props.{props}
use Rattle.pl_spec.specs.declared.RawAdjust.{RawAdjust}
use Rattle.pl_outside.specs.Calls.{Calls}
use Rattle.pl_outside.specs.KeeperState.{KeeperState}
use Rattle.pl_outside.specs.Lists.{IsAscending}
use Rattle.pl_outside.specs.Logs.{Loaded}

IsAscending-prop : (rows : List RawAdjust) → IsProp (IsAscending rows)
IsAscending-prop rows = hlevel props

-- that rows ascend can be shown in one way alone, so two keepers with the same rows and calls are one
pub same_rows : (name : List ℕ) (splits mergers dividends : List RawAdjust) (loaded : List Loaded) (calls : Calls)
    (s t : IsAscending splits) (m n : IsAscending mergers) (d e : IsAscending dividends)
    → ◌≡◌ {A = KeeperState}
    (record { name = name; splits = splits; mergers = mergers; dividends = dividends; loaded = loaded; calls = calls; splits_ascend = s; mergers_ascend = m; dividends_ascend = d })
    (record { name = name; splits = splits; mergers = mergers; dividends = dividends; loaded = loaded; calls = calls; splits_ascend = t; mergers_ascend = n; dividends_ascend = e })
same_rows name splits mergers dividends loaded calls s t m n d e = λ i.
    record {
      name = name;
      splits = splits;
      mergers = mergers;
      dividends = dividends;
      loaded = loaded;
      calls = calls;
      splits_ascend = IsAscending-prop splits s t i;
      mergers_ascend = IsAscending-prop mergers m n i;
      dividends_ascend = IsAscending-prop dividends d e i;
    }
