use Rattle.std.proofs.Common.{arith, take, get_or, sym, ap, ◌∙◌, length-take}
use Rattle.pl_syntax.specs.Text.{after_byte}
use Rattle.pl_syntax.proofs.Steps.{after_near, after_more}
use Rattle.pl_syntax.proofs.text.place_after.Goals as goal

pub place_behind-here-requires-clause-line : goal.place_behind-here-requires-clause-line
place_behind-here-requires-clause-line c =
    let front = take c.loop-b.b-index c.args.bytes.now in
    omega (arith, (after_near front c.args.place).0, length-take c.loop-b.b-index c.args.bytes.now, ap (λ p. p.line) c.loop-b.invariant)

pub place_behind-here-requires-clause-col : goal.place_behind-here-requires-clause-col
place_behind-here-requires-clause-col c =
    let front = take c.loop-b.b-index c.args.bytes.now in
    omega (arith, (after_near front c.args.place).1, length-take c.loop-b.b-index c.args.bytes.now, ap (λ p. p.col) c.loop-b.invariant)

pub loop-b-preserved : goal.loop-b-preserved
loop-b-preserved c =
    let bs = c.args.bytes.now in
    let i = c.loop-b.b-index in
    c.place_behind-here.ensures ∙ (ap (after_byte (get_or bs i 0)) c.loop-b.invariant ∙ sym (after_more bs i c.args.place c.loop-b-test.true))
