-- How large the buffer of bars is.
use Rattle.std.proofs.Common.{◌≡◌, ◌≤◌, ◌+◌, ◌-◌, ◌*◌, ℕ, ℤ, List, ap, length, min, arith}
use Rattle.std.proofs.lemmas.List.FromFn.{length-range_with_len}
use Rattle.std.proofs.lemmas.Nat.{mul-le}
use Rattle.pl_spec.specs.Limits.{most_assets, most_sessions}
use Rattle.pl_windows.specs.declared.asked.Asked.{Asked}
use Rattle.pl_windows.specs.Chunks as chunks
use Rattle.pl_windows.specs.declared.chunk.Chunk.{Chunk}
use Rattle.pl_windows.specs.Chunks.{HasRoom, IsChunk, all_cols, rows_for}
use Rattle.pl_windows.specs.Ranges.{IsAsked}

-- as many sessions as a world has at most, and as many assets
pub cells-few : (rows cols : ℕ) → rows ≤ most_sessions → cols ≤ most_assets → rows * cols ≤ most_sessions * most_assets
cells-few rows cols r c = mul-le rows cols most_sessions most_assets r c

-- the rows of a chunk are among those of the world
pub rows-few : (a : Asked) → IsAsked a → (first last : ℕ) → a.from ≤ first → first ≤ last → last ≤ a.to → a.window + (last - first) ≤ most_sessions
rows-few a made first last from order to = omega (arith, made.range.reach, made.range.within, made.parts.sound.days.few, from, order, to)

pub cols-few : (a : Asked) → IsAsked a → length a.world.assets.now ≤ most_assets
cols-few a made = made.parts.sound.assets.few

pub cols-long : (a : Asked) → length (all_cols a) ≡ length a.world.assets.now
cols-long a = length-range_with_len 0 (length a.world.assets.now)

-- a chunk has no more rows than the largest one
rows-fit : (a : Asked) (k : Chunk) → IsChunk a k → a.window + (k.last - k.first) ≤ rows_for a (min chunks.most_sessions (a.to + 1 - a.from))
rows-fit a k is = omega (arith, is.from, is.order, is.to, is.few)

-- so its bars have room
pub room-is : (a : Asked) → IsAsked a → (k : Chunk) → IsChunk a k → (bars : List ℤ) → HasRoom a bars → (cols : ℕ) → cols ≡ length a.world.assets.now
    → (a.window + (k.last - k.first)) * cols ≤ length bars
room-is a made k is bars room cols long =
    let fit = mul-le (a.window + (k.last - k.first)) cols (rows_for a (min chunks.most_sessions (a.to + 1 - a.from))) cols (rows-fit a k is) (omega arith) in
    let same = ap (λ n. rows_for a (min chunks.most_sessions (a.to + 1 - a.from)) * n) long in
    omega (arith, fit, same, room)
