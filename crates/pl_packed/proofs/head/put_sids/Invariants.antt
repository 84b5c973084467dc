use Rattle.std.proofs.Common.{◌≡◌, ◌++◌, drop, flat_map}
use Rattle.pl_spec.specs.declared.AssetRow.{AssetRow}
use Rattle.pl_packed.specs.Packed.{four_bytes, sids_bytes}
use Rattle.pl_packed.proofs.head.put_sids.Given as goal

abbrev pub invariant-sids : goal.invariant-sids
invariant-sids l =
    l.head.items ++ flat_map (λ (a : AssetRow). four_bytes a.sid) (drop l.i l.assets) ≡ l.fn.head.items ++ sids_bytes l.assets
