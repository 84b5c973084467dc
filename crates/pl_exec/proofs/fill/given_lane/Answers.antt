use Rattle.std.proofs.Common.{◌≡◌, ◌+◌, arith, get_or, pos, subst}
use Rattle.pl_exec.specs.ChunkInputs.{IsGivenOn}
use Rattle.pl_exec.proofs.fill.given_lane.Goals as goal

pub returns-in-Window : goal.returns-in-Window
returns-in-Window c j h =
    let e : 0 + j ≡ j = omega arith in
    subst (λ k. IsGivenOn c.args.lane.now.course.now c.args.lane.now.i k (get_or c.fill_stretch.new.out j (pos 0))) e (c.fill_stretch.ensures.values j (omega (arith, h, c.requires.long)))
