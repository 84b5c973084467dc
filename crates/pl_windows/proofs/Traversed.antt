-- The window on which a traversal stands, in the world that is asked of.
use Rattle.std.proofs.Common.{◌≡◌, ℕ, zero, suc, ◌+◌, ◌-◌, ◌<◌, ◌≤◌, ◌==◌, true, ℤ, pos, List, [], ◌∷◌, length, map, drop, get_or, refl, ap, ◌∙◌, arith}
use Rattle.std.proofs.lemmas.Bool.Decides.{nat_tests}
use Rattle.std.proofs.lemmas.List.FromFn.{get_or-range_with_len}
use Rattle.pl_spec.specs.declared.Column.{Column}
use Rattle.pl_spec.specs.Parts.{AreFor, sid_at}
use Rattle.pl_spec.specs.Window.{bar_window, before, downward, seen_cell}
use Rattle.pl_spec.specs.World.{World}
use Rattle.pl_adjarray.specs.Buffered.{Buffered, col_at}
use Rattle.pl_adjarray.specs.Traversals.{Traversal, advances}
use Rattle.pl_adjarray.specs.Worlds.{IsWindow}
use Rattle.pl_windows.specs.declared.asked.Asked.{Asked}
use Rattle.pl_windows.specs.Chunks.{IsTraversed}
use Rattle.pl_windows.specs.Ranges.{IsAsked, asked_world}

pub window-is : (a : Asked) → IsAsked a → (d : ℕ) (t : Traversal) → IsTraversed a d t → (i : ℕ) → i < length a.world.assets.now → (cells : List ℤ)
    → IsWindow t.array t.window i t.session cells → cells ≡ bar_window (asked_world a) a.column a.window (sid_at a.world.assets.now i) (pos d)
window-is a made d t h i inside cells win =
    let own : col_at t.array i ≡ i = ap (λ (l : List ℕ). get_or l i 0) h.buffer.cols ∙ get_or-range_with_len 0 (length a.world.assets.now) i 0 inside ∙ omega arith in
    let parts : AreFor t.array.days a.world.assets.now a.world.labels.now.rows t.array.bars t.array.adjustments a.world.numbers.now.rows
    = rw (h.buffer.days, h.buffer.bars, h.buffer.adjustments) made.parts.parts in
    let within : col_at t.array i < length a.world.assets.now = rw own inside in
    rw (h.buffer.days, h.buffer.bars, h.buffer.adjustments, h.buffer.column, h.window, h.session, own) at
    (win a.world.assets.now a.world.labels.now.rows a.world.labels.now.texts a.world.numbers.now.rows parts within)

drop-downward : (k n : ℕ) → drop k (downward (k + n)) ≡ downward n
drop-downward zero n = let e : 0 + n ≡ n = omega arith in ap downward e
drop-downward (suc k) n = let e : suc k + n ≡ suc (k + n) = omega arith in ap (λ m. drop (suc k) (downward m)) e ∙ drop-downward k n

drop-map : {X Y : Type 0} (f : X → Y) (k : ℕ) (xs : List X) → drop k (map f xs) ≡ map f (drop k xs)
drop-map f zero xs = refl
drop-map f (suc k) [] = refl
drop-map f (suc k) (x ∷ xs) = drop-map f k xs

-- the newest cells of a window are a shorter window
pub newest-is : (w : World) (c : Column) (size n a : ℕ) (d : ℤ) → n ≤ size → drop (size - n) (bar_window w c size a d) ≡ bar_window w c n a d
newest-is w c size n a d h =
    let f : ℕ → ℤ = λ k. seen_cell w a c (before d (suc k)) d in
    let parts : size ≡ (size - n) + n = omega (arith, h) in
    drop-map f (size - n) (downward size)
    ∙ ap (λ m. map f (drop (size - n) (downward m))) parts
    ∙ ap (map f) (drop-downward (size - n) n)

-- a traversal that begins has made no advance
pub none-made : (b : Buffered) (size : ℕ) → advances (record { array = b; window = size; session = b.first }) ≡ 0
none-made b size = let same : (b.first == b.first) ≡ true = grind (arith, nat_tests) in rw same refl
