-- Days that have dates.
use Rattle.std.proofs.Common.{◌≡◌, true, ℤ, pos, neg_ℤ}
use Rattle.std.specs.Int.RustNames.{int_le}
use Rattle.std.proofs.lemmas.Bool.{and_parts}
use Rattle.pl_spec.specs.Dates.{IsDay}
use Rattle.pl_spec.proofs.Signed.{int_le-true}
use Rattle.pl_parts.specs.Texts.{has_date}

pub dated : (day : ℤ) → has_date day ≡ true → IsDay day
dated day e =
    let parts = and_parts (int_le (neg_ℤ (pos 25567)) day) (int_le day (pos 84005)) e in
    record { first = int_le-true (neg_ℤ (pos 25567)) day parts.0; last = int_le-true day (pos 84005) parts.1 }
