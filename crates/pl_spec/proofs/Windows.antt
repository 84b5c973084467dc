-- A window of bars by session numbers.
use Rattle.std.proofs.Common.{◌≡◌, ℕ, zero, suc, ◌+◌, ◌-◌, ◌<◌, ◌≤◌, ℤ, ◌<ℤ◌, pos, List, [], ◌∷◌, length, map, Option, Some, None, refl, ◌∙◌, ap, arith}
use Rattle.std.specs.List.{range_with_len}
use Rattle.std.proofs.lemmas.Int.{ints}
use Rattle.pl_spec.specs.World.{World, Event}
use Rattle.pl_spec.specs.declared.Column.{Column}
use Rattle.pl_spec.specs.Window.{seen_cell, before, downward, bar_window, effects_from}

pub before-pos : (d n : ℕ) → n ≤ d → before (pos d) n ≡ pos (d - n)
before-pos d n h = omega (arith, ints)

pub before-zero : (d : ℤ) → before d 0 ≡ d
before-zero d = omega (arith, ints)

pub before-less : (d : ℤ) (n : ℕ) → before d (suc n) <ℤ d
before-less d n = omega (arith, ints)

pub length-downward : (n : ℕ) → length (downward n) ≡ n
length-downward zero = refl
length-downward (suc n) = ap suc (length-downward n)

pub map-downward : {X : Type 0} (p q : ℕ → X) (size : ℕ) → ((n : ℕ) → n < size → p n ≡ q n) → map p (downward size) ≡ map q (downward size)
map-downward p q zero h = refl
map-downward p q (suc size) h =
    let front : p size ≡ q size = h size (omega arith) in
    let rest : map p (downward size) ≡ map q (downward size) = map-downward p q size (λ n l. h n (omega arith)) in
    rw (front, rest) refl

pub no-effects : (c : Column) (high : Option ℤ) (es : List Event) → effects_from c None high es ≡ []
no-effects c (Some high) es = refl
no-effects c None es = refl

-- a list by how many sessions ago is the list by session
pub downward-sessions : {X : Type 0} (f : ℤ → X) (d size : ℕ) → size ≤ d → map (λ n. f (before (pos d) (suc n))) (downward size) ≡ map (λ s. f (pos s)) (range_with_len (d - size) size)
downward-sessions f d zero h = refl
downward-sessions f d (suc size) h =
    let first : before (pos d) (suc size) ≡ pos (d - suc size) = before-pos d (suc size) (omega arith) in
    let rest : map (λ n. f (before (pos d) (suc n))) (downward size) ≡ map (λ s. f (pos s)) (range_with_len (d - size) size) = downward-sessions f d size (omega arith) in
    let next : d - size ≡ (d - suc size) + 1 = omega arith in
    ap (λ l. f (before (pos d) (suc size)) ∷ l) rest
    ∙ ap (λ s. f s ∷ map (λ s. f (pos s)) (range_with_len (d - size) size)) first
    ∙ ap (λ s. f (pos (d - suc size)) ∷ map (λ s. f (pos s)) (range_with_len s size)) next

pub bar_window-sessions : (w : World) (c : Column) (a d size : ℕ) → size ≤ d
    → bar_window w c size a (pos d) ≡ map (λ s. seen_cell w a c (pos s) (pos d)) (range_with_len (d - size) size)
bar_window-sessions w c a d size h = downward-sessions (λ s. seen_cell w a c s (pos d)) d size h
