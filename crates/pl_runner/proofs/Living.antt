-- Assets that exist on one of some sessions.
use Rattle.std.proofs.Common.{◌≡◌, ℕ, ◌+◌, ◌-◌, ◌<◌, ◌≤◌, true, false, pos, sym, ap, ◌∙◌, arith}
use Rattle.std.specs.List.{range_with_len}
use Rattle.std.proofs.lemmas.List.Folds.{list_any_at, list_any_none, Any-from_list_any}
use Rattle.std.proofs.lemmas.List.FromFn.{length-range_with_len, get_or-range_with_len}
use Rattle.pl_spec.specs.Parts.{sid_at}
use Rattle.pl_spec.specs.World.{World, exists}
use Rattle.pl_runner.specs.Chunks.{lives_within}

pub lives-some : (w : World) (low to col s : ℕ) → low ≤ s → s ≤ to → exists w (sid_at w.assets col) (pos s) ≡ true → lives_within w low to col ≡ true
unfolding lives_within
lives-some w low to col s a b e =
    let few : s - low < to + 1 - low = omega arith in
    let at : low + (s - low) ≡ s = omega arith in
    let here = get_or-range_with_len low (to + 1 - low) (s - low) 0 few ∙ at in
    list_any_at (λ (x : ℕ). exists w (sid_at w.assets col) (pos x)) (range_with_len low (to + 1 - low)) (s - low) 0 (omega (arith, length-range_with_len low (to + 1 - low)))
    (ap (λ (x : ℕ). exists w (sid_at w.assets col) (pos x)) here ∙ e)

pub lives-none : (w : World) (low to col : ℕ) → ((s : ℕ) → low ≤ s → s ≤ to → exists w (sid_at w.assets col) (pos s) ≡ false) → lives_within w low to col ≡ false
unfolding lives_within
lives-none w low to col none =
    list_any_none (λ (x : ℕ). exists w (sid_at w.assets col) (pos x)) (range_with_len low (to + 1 - low))
    (λ i d h.
    let few : i < to + 1 - low = omega (arith, length-range_with_len low (to + 1 - low)) in
    ap (λ (x : ℕ). exists w (sid_at w.assets col) (pos x)) (get_or-range_with_len low (to + 1 - low) i d few) ∙ none (low + i) (omega arith) (omega arith))

pub lives-found : (w : World) (low to col : ℕ) → lives_within w low to col ≡ true → (s : ℕ) × (low ≤ s) × (s ≤ to) × (exists w (sid_at w.assets col) (pos s) ≡ true)
unfolding lives_within
lives-found w low to col e =
    let any = Any-from_list_any (λ (x : ℕ). exists w (sid_at w.assets col) (pos x)) (range_with_len low (to + 1 - low)) e in
    let few : any.0 < to + 1 - low = omega (arith, any.2, length-range_with_len low (to + 1 - low)) in
    let at = get_or-range_with_len low (to + 1 - low) any.0 any.1 few in
    let is : any.1 ≡ low + any.0 = sym any.3 ∙ at in
    (low + any.0, omega arith, omega arith, ap (λ (x : ℕ). exists w (sid_at w.assets col) (pos x)) (sym is) ∙ any.4)
