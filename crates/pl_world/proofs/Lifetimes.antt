-- Which assets exist, by their places.
use Rattle.std.proofs.Common.{option_map, unwrap_or, ℤ, pos, ◌≡◌, ℕ, ◌<◌, Bool, slice_get, Option, Some, None, refl, ◌∙◌}
use Rattle.std.specs.List.{AllPairs}
use Rattle.pl_spec.specs.declared.AssetRow.{AssetRow}
use Rattle.pl_spec.specs.Parts.{sid_at}
use Rattle.pl_spec.specs.World.{World, exists, lives_on}
use Rattle.pl_lifetimes.proofs.Among.{among-at}

exists-of : (w : World) (col session : ℕ) (day : ℤ) (o : Option AssetRow) (b : Bool) → AllPairs (λ x y. x.sid < y.sid) w.assets → slice_get w.days session ≡ Some day
    → slice_get w.assets col ≡ o → option_map (lives_on day) o ≡ Some b → exists w (unwrap_or (option_map (λ a. a.sid) o) 0) (pos session) ≡ b
exists-of w col session day None b up is_day at lives = absurd (let no : None ≡ Some b = lives in cc)
exists-of w col session day (Some a) b up is_day at lives =
    let same : lives_on day a ≡ b = cc in
    rw is_day (among-at (lives_on day) w.assets col a up at ∙ same)

-- the asset of a column exists on a session exactly where it lives on the session's day
pub exists-at : (w : World) (col session : ℕ) (day : ℤ) (b : Bool) → AllPairs (λ x y. x.sid < y.sid) w.assets → slice_get w.days session ≡ Some day
    → option_map (lives_on day) (slice_get w.assets col) ≡ Some b → exists w (sid_at w.assets col) (pos session) ≡ b
exists-at w col session day b up is_day lives = exists-of w col session day (slice_get w.assets col) b up is_day refl lives
