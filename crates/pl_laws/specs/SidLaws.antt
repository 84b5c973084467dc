-- The law of the texts of sids.
use Rattle.std.specs.Prelude.{◌≡◌, ℕ, ◌<◌, ◌^◌, List, Some}
use Rattle.std.specs.Fmt.{decimal}
use Rattle.pl_spec.specs.Decimals.{sid_in}

-- a text is read as a sid exactly where it is the text of that number, which has 32 bits
abbrev pub SidsAreRead : Type 0
SidsAreRead = (text : List ℕ) (sid : ℕ)
    → (sid < 2 ^ 32 → text ≡ decimal sid → sid_in text ≡ Some sid) × (sid_in text ≡ Some sid → (sid < 2 ^ 32) × (text ≡ decimal sid))
