-- The world of the parts.
use Rattle.std.proofs.Common.{◌≡◌, ℕ, ◌<◌, length, refl, arith}
use Rattle.std.specs.Prelude.{All}
use Rattle.pl_world.specs.declared.owned.OwnedWorld.{OwnedWorld}
use Rattle.pl_world.specs.Worlds.{owned_world, IsOwnedMade}
use Rattle.pl_bench.specs.Draws.{behind}
use Rattle.pl_bench.specs.StatedWorld.{IsStated, stated_world}
use Rattle.pl_bench.proofs.Assets.{length-assets}
use Rattle.pl_bench.proofs.Days.{length-stated_days}
use Rattle.pl_bench.proofs.SectorRows.{labels-in}
use Rattle.pl_bench.proofs.BarRows.{cols-in, sessions-in}

pub world-is : (number : ℕ) (w : OwnedWorld) → IsStated number w → owned_world w ≡ stated_world number
unfolding stated_world
world-is number w is = rw (is.sessions, is.assets, is.labels, is.bars, is.adjustments, is.numbers) refl

pub made-for : (number : ℕ) (w : OwnedWorld) → IsStated number w → All (λ x. x.col < length w.assets) w.adjustments
    → IsOwnedMade w
made-for number w is cols =
    let many : length w.assets ≡ 400 = rw is.assets length-assets in
    let long : length w.sessions ≡ 600 = rw is.sessions length-stated_days in
    record {
      labels_in = rw (many, is.labels) (labels-in number);
      bars_in = rw (many, is.bars) (cols-in (behind number 400));
      sessions_in = rw (long, is.bars) (sessions-in (behind number 400));
      adjustments_in = cols;
      numbers_in = rw is.numbers (λ k d l. absurd (omega arith));
    }
