use Rattle.std.proofs.Common.{◌≡◌, ◌++◌, drop, flat_map}
use Rattle.std.specs.Int.{w32, cast_unsigned}
use Rattle.pl_packed.specs.Packed.{four_bytes, days_bytes}
use Rattle.pl_packed.proofs.head.put_days.Given as goal

abbrev pub invariant-days : goal.invariant-days
invariant-days l =
    l.head.items ++ flat_map (λ day. four_bytes (cast_unsigned w32 day)) (drop l.i l.sessions) ≡ l.fn.head.items ++ days_bytes l.sessions
