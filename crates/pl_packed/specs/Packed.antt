-- Packed bars: a list of bytes.
use Rattle.std.specs.Prelude.{ℕ, ◌+◌, ◌*◌, ◌^◌, ◌%◌, ℤ, codes, List, [], ◌∷◌, ◌++◌, length, map, sum, flat_map}
use Rattle.std.specs.Int.{w32, w64, to_le_bytes, cast_unsigned}
use Rattle.sha2.specs.Sha256.{sha256}
use Rattle.pl_spec.specs.declared.AssetRow.{AssetRow}
use Rattle.pl_spec.specs.declared.BarRow.{BarRow}
use Rattle.pl_bars.specs.Bars.{key_of}

-- a number of 32 bits, and one of 64, the lowest byte first
unfoldable pub four_bytes : ℕ → List ℕ
four_bytes n = to_le_bytes w32 n

unfoldable pub eight_bytes : ℕ → List ℕ
eight_bytes n = to_le_bytes w64 n

-- ---- the head

-- the form and its version; no text begins with the byte 137
abbrev pub mark : List ℕ
mark = 137 ∷ codes "bars 1\n"

-- the days of the sessions, after their count
abbrev pub days_bytes : List ℤ → List ℕ
days_bytes days = four_bytes (length days) ++ flat_map (λ day. four_bytes (cast_unsigned w32 day)) days

-- the sids of the assets, after their count
abbrev pub sids_bytes : List AssetRow → List ℕ
sids_bytes assets = four_bytes (length assets) ++ flat_map (λ a. four_bytes a.sid) assets

-- what the bars were judged against
abbrev pub known : List ℤ → List AssetRow → List ℕ
known days assets = (mark ++ days_bytes days) ++ sids_bytes assets

-- that, and how many bars there are
abbrev pub head : List ℤ → List AssetRow → ℕ → List ℕ
head days assets count = known days assets ++ four_bytes count

-- ---- the bars

-- the six words of a bar: its place, and its cells
abbrev pub words_of : BarRow → List ℕ
words_of bar = key_of bar ∷ map (λ cell. cast_unsigned w64 cell) bar.cells

abbrev pub words_bytes : List ℕ → List ℕ
words_bytes words = flat_map eight_bytes words

-- ---- the end

-- the sum of each word times its place from the end, which is 1 for the last
abbrev pub weighed : List ℕ → ℕ
weighed [] = 0
weighed (word ∷ words) = length (word ∷ words) * word + weighed words

-- that sum and the plain one, of 64 bits each
abbrev pub sums_bytes : List ℕ → List ℕ
sums_bytes words = eight_bytes (sum words % 2 ^ 64) ++ eight_bytes (weighed words % 2 ^ 64)

-- the sums, and the digest of the head and the sums
abbrev pub seal : List ℕ → List ℕ → List ℕ
seal head sums = sums ++ sha256 (head ++ sums)

-- ---- the whole

-- the bars and the end after this head
unfoldable pub sealed : List ℕ → List BarRow → List ℕ
sealed front bars =
    let words = flat_map words_of bars in
    front ++ (words_bytes words ++ seal front (sums_bytes words))

abbrev pub packed : List ℤ → List AssetRow → List BarRow → List ℕ
packed days assets bars = sealed (head days assets (length bars)) bars
