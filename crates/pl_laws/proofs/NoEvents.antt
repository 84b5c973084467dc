-- A window over a bar column of an asset without events is the raw bars, and a window of one session is its
-- value.
use Rattle.std.proofs.Common.{◌≡◌, ℕ, suc, ℤ, [], ◌∷◌, map, Option, Some, None, refl, ◌∙◌, ap, arith}
use Rattle.std.proofs.Math.Path.{fun_ext}
use Rattle.std.proofs.lemmas.Int.{ints}
use Rattle.pl_spec.specs.declared.Column.{Column}
use Rattle.pl_spec.specs.World.{World, day_of, events_of, bar_cell}
use Rattle.pl_spec.specs.Window.{effects_from, after_all, seen_cell, before, downward, bar_window, raw_window}
use Rattle.pl_pipeline.specs.Value.{Meaning, number_of, window_of}
use Rattle.pl_pipeline.specs.Value.Part.{Values}

none_between : (c : Column) (low high : Option ℤ) → effects_from c low high [] ≡ []
none_between c (Some low) (Some high) = refl
none_between c (Some low) None = refl
none_between c None (Some high) = refl
none_between c None None = refl

pub seen-raw : (w : World) (a : ℕ) (c : Column) (s d : ℤ) → events_of w a ≡ [] → seen_cell w a c s d ≡ bar_cell w a c s
unfolding seen_cell
seen-raw w a c s d e =
    ap (λ es. after_all (bar_cell w a c s) (effects_from c (day_of w s) (day_of w d) es)) e
    ∙ ap (after_all (bar_cell w a c s)) (none_between c (day_of w s) (day_of w d))

pub bar_window-raw : (w : World) (c : Column) (size a : ℕ) (d : ℤ) → events_of w a ≡ [] → bar_window w c size a d ≡ raw_window w c size a d
bar_window-raw w c size a d e = ap (λ f. map f (downward size)) (fun_ext (λ n. seen-raw w a c (before d (suc n)) d e))

pub window_of-one : (w : World) (f : Meaning) (a : ℕ) (d : ℤ) → window_of w 1 (Values f) a d ≡ number_of (f a d) ∷ []
window_of-one w f a d = let same : before d 0 ≡ d = omega (arith, ints) in ap (λ s. number_of (f a s) ∷ []) same
