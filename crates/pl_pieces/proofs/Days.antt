-- The text of a day that a file has is its date.
use Rattle.std.proofs.Common.{◌≡◌, true, ℤ, pos, neg_ℤ, refl}
use Rattle.std.specs.Int.RustNames.{int_le}
use Rattle.pl_spec.specs.Dates.{IsDay, date_text}
use Rattle.pl_spec.proofs.Signed.{le-int_le}
use Rattle.pl_parts.specs.Texts.{day_text}

pub text-of-day : (day : ℤ) → IsDay day → day_text day ≡ date_text day
unfolding day_text
text-of-day day h =
    let first : int_le (neg_ℤ (pos 25567)) day ≡ true = le-int_le _ _ h.first in
    let last : int_le day (pos 84005) ≡ true = le-int_le _ _ h.last in
    rw (first, last) refl
