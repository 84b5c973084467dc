use Rattle.std.proofs.Common.{◌≡◌, ◌-◌, length, arith, ap, ◌∙◌}
use Rattle.pl_lanes.proofs.Cells.{few-present}
use Rattle.pl_lanes.proofs.Bits.{at-exact}
use Rattle.pl_factors.specs.Spans.{before, first, last, presence}
use Rattle.pl_factors.proofs.Bounds.{before-few}
use Rattle.pl_factors.proofs.Sliding.{count-slides}
use Rattle.pl_factors.proofs.sums.next_count.Goals as goal

pub overflow_add-result : goal.overflow_add-result
overflow_add-result c =
    let kept = c.requires.is in
    record { fits = omega (arith, kept, c.presence.ensures.few, few-present (before c.args.a.now), before-few c.args.a.now c.requires.few) }

pub overflow_sub-result : goal.overflow_sub-result
overflow_sub-result c =
    let xs = c.args.a.now in
    let enters : c.presence.result ≡ presence (last xs) = c.presence.ensures.value ∙ ap presence (at-exact xs (length xs - 1) c.requires.cells) in
    let leaves : c.presence-2.result ≡ presence (first xs) = c.presence-2.ensures.value ∙ ap presence (at-exact xs 0 c.requires.cells) in
    omega (arith, count-slides xs (omega arith), enters, leaves, c.requires.is)

pub returns : goal.returns
returns c =
    let xs = c.args.a.now in
    let enters : c.presence.result ≡ presence (last xs) = c.presence.ensures.value ∙ ap presence (at-exact xs (length xs - 1) c.requires.cells) in
    let leaves : c.presence-2.result ≡ presence (first xs) = c.presence-2.ensures.value ∙ ap presence (at-exact xs 0 c.requires.cells) in
    omega (arith, count-slides xs (omega arith), enters, leaves, c.requires.is)
