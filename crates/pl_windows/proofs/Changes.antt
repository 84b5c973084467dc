-- What became effective since the session before.
use Rattle.std.proofs.Common.{◌≡◌, ℕ, suc, ◌-◌, ◌<◌, ◌≤◌, ◌==◌, Bool, true, false, not, ◌||◌, cond, ℤ, pos, List, [], ◌∷◌, length, filter, Option, Some, slice_get, refl, sym, ap, ◌∙◌, arith}
use Rattle.std.specs.List.{list_any}
use Rattle.std.proofs.lemmas.Bool.Decides.{nat_tests}
use Rattle.std.proofs.lemmas.Option.{slice_get-get_or}
use Rattle.std.specs.Prelude.{get_or}
use Rattle.pl_spec.specs.Parts.{sid_at}
use Rattle.pl_spec.specs.Window.{is_between}
use Rattle.pl_spec.specs.World.{day_of, events_of}
use Rattle.pl_spec.proofs.Columns.{no_asset, sid-there}
use Rattle.pl_spec.proofs.Windows.{before-pos}
use Rattle.pl_adjust.specs.Columns.{events_at}
use Rattle.pl_adjust.proofs.Sids.{column_events}
use Rattle.pl_world.specs.declared.world.World.{World}
use Rattle.pl_world.specs.Worlds.{PartsMakeAWorld, world_of}
use Rattle.pl_windows.specs.Windows.{has_between, is_changed}

-- some element passes, where not none does
pub any-filter : {X : Type 0} (p : X → Bool) (xs : List X) → not (length (filter p xs) == 0) ≡ list_any p xs
any-filter p [] = refl
any-filter p (x ∷ xs) = here (p x) (any-filter p xs)
  where
    here : (b : Bool) → not (length (filter p xs) == 0) ≡ list_any p xs → not (length (cond b (x ∷ filter p xs) (filter p xs)) == 0) ≡ (b || list_any p xs)
    here true rest = let some : (suc (length (filter p xs)) == 0) ≡ false = grind (arith, nat_tests) in rw some refl
    here false rest = rest

-- the events of a column are those of its sid
pub events-are : (w : World) → PartsMakeAWorld w → (col : ℕ) → col < length w.assets.now → events_of (world_of w) (sid_at w.assets.now col) ≡ events_at w.adjustments.now col
events-are w made col inside =
    ap (events_of (world_of w)) (sid-there w.assets.now col inside)
    ∙ column_events w.sessions.now w.assets.now w.labels.now.rows w.labels.now.texts w.bars.now w.adjustments.now w.numbers.now.rows made.parts.sids_ascend made.parts.adjustments_in
    col (get_or w.assets.now col no_asset) (slice_get-get_or w.assets.now col no_asset inside)

pub changed-is : (w : World) → PartsMakeAWorld w → (col d : ℕ) → col < length w.assets.now → 1 ≤ d → (low high : ℤ)
    → slice_get w.sessions.now (d - 1) ≡ Some low → slice_get w.sessions.now d ≡ Some high
    → not (length (filter (is_between low high) (events_at w.adjustments.now col)) == 0) ≡ is_changed (world_of w) (sid_at w.assets.now col) (pos d)
unfolding is_changed
changed-is w made col d inside some low high at_low at_high =
    let es = events_at w.adjustments.now col in
    let own = events_of (world_of w) (sid_at w.assets.now col) in
    any-filter (is_between low high) es
    ∙ sym (ap (λ x. has_between (day_of (world_of w) x) (day_of (world_of w) (pos d)) own) (before-pos d 1 some)
    ∙ ap (λ (o : Option ℤ). has_between o (day_of (world_of w) (pos d)) own) at_low
    ∙ ap (λ (o : Option ℤ). has_between (Some low) o own) at_high
    ∙ ap (list_any (is_between low high)) (events-are w made col inside))
