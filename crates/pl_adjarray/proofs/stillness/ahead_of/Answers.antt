use Rattle.std.proofs.Common.{◌≡◌, [], ◌≤◌, arith}
use Rattle.pl_adjarray.specs.Stillness.{effective_within}
use Rattle.pl_adjarray.proofs.Stretches.{fewer, wider}
use Rattle.pl_adjarray.proofs.stillness.ahead_of.Goals as goal

pub returns-then-count-near : goal.returns-then-count-near
returns-then-count-near c =
    let b = c.args.array.now in
    let near : c.min-near.result ≤ c.args.most = omega (arith, c.min-near.ensures) in
    wider (λ n. effective_within b c.args.session n c.args.col ≡ []) c.min-near.result c.args.most c.before_change-count.result
    (λ k j h l none. fewer b c.before_change-count.ensures.ready c.args.session c.args.col k j (omega (arith, l, c.requires)) h none)
    near c.if-count-near.true c.before_change-count.ensures.greatest
