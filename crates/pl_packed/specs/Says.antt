-- What it says of some bytes that they are read as these bars, or refused for this fault.
use Rattle.std.specs.Prelude.{◌≡◌, ◌≢◌, ℕ, ◌+◌, ◌*◌, ◌≤◌, ⊤, ℤ, List, [], ◌∷◌, ◌++◌, length, flat_map, Result, Ok, Err}
use Rattle.pl_spec.specs.declared.AssetRow.{AssetRow}
use Rattle.pl_spec.specs.declared.BarRow.{BarRow}
use Rattle.pl_spec.specs.Limits.{most_bars}
use Rattle.pl_packed.specs.Fit.{AreKept}
use Rattle.pl_packed.specs.Packed.{mark, days_bytes, known, head, words_of, words_bytes, sums_bytes, seal, packed}
use Rattle.pl_packed.specs.declared.error.UnpackError.{UnpackError}
use Rattle.pl_packed.specs.declared.error.UnpackError.TheVariants.{NotPacked, OtherSessions, OtherAssets, BadLength, BadBar, Damaged, Memory}

abbrev pub Begins : List ℕ → List ℕ → Type 0
Begins front bytes = (rest : List ℕ) × (bytes ≡ front ++ rest)

-- after the head stand as many bytes as so many bars and an end take
abbrev pub HasRoomFor : List ℤ → List AssetRow → List ℕ → ℕ → List ℕ → Type 0
HasRoomFor days assets bytes count after = (bytes ≡ head days assets count ++ after) × (length after ≡ 48 * count + 48)

-- they are these bars, and more
abbrev pub GoesOn : ℕ → ℕ → List BarRow → List ℕ → List ℕ → Type 0
GoesOn cols sessions bars after more = AreKept cols sessions bars × (after ≡ words_bytes (flat_map words_of bars) ++ more)

-- they do not begin with a bar that may stand after these
abbrev pub IsNoBar : ℕ → ℕ → List BarRow → List ℕ → Type 0
IsNoBar cols sessions bars more = (bar : BarRow) → AreKept cols sessions (bars ++ bar ∷ []) → ¬ Begins (words_bytes (words_of bar)) more

-- of so many bars the one of this number, from 1, is the first that is none
abbrev pub IsBadBar : ℕ → ℕ → ℕ → List ℕ → ℕ → Type 0
IsBadBar cols sessions count after place =
    (bars : List BarRow) × (more : List ℕ) × GoesOn cols sessions bars after more × (place ≡ length bars + 1) × (place ≤ count)
    × IsNoBar cols sessions bars more

-- the first fault in the order of the bytes
abbrev pub IsFault : List ℤ → List AssetRow → List ℕ → UnpackError → Type 0
IsFault days assets bytes NotPacked = ¬ Begins mark bytes
IsFault days assets bytes OtherSessions = Begins mark bytes × ¬ Begins (mark ++ days_bytes days) bytes
IsFault days assets bytes OtherAssets = Begins (mark ++ days_bytes days) bytes × ¬ Begins (known days assets) bytes
IsFault days assets bytes BadLength =
    Begins (known days assets) bytes × ((count : ℕ) (after : List ℕ) → count ≤ most_bars → ¬ HasRoomFor days assets bytes count after)
IsFault days assets bytes (BadBar place) =
    (count : ℕ) × (after : List ℕ) × HasRoomFor days assets bytes count after × (count ≤ most_bars)
    × IsBadBar (length assets) (length days) count after place
IsFault days assets bytes Damaged =
    (bars : List BarRow) × (after : List ℕ) × (more : List ℕ) × HasRoomFor days assets bytes (length bars) after
    × GoesOn (length assets) (length days) bars after more
    × (more ≢ seal (head days assets (length bars)) (sums_bytes (flat_map words_of bars)))
IsFault days assets bytes Memory = ⊤

-- the bytes are these bars, packed; or they have this fault
abbrev pub Says : List ℤ → List AssetRow → List ℕ → Result (List BarRow) UnpackError → Type 0
Says days assets bytes (Ok bars) = AreKept (length assets) (length days) bars × (bytes ≡ packed days assets bars)
Says days assets bytes (Err error) = IsFault days assets bytes error
