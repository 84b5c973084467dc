use Rattle.std.proofs.Common.{◌∙◌, length, arith}
use Rattle.pl_daily.proofs.Ends.{ending_behind}
use Rattle.pl_daily.proofs.rings.copy_ending.Goals as goal

pub returns-then-after-back : goal.returns-then-after-back
returns-then-after-back c =
    c.copy_last.ensures ∙ ending_behind c.args.front.now c.args.back.now (length c.args.window.now) c.args.after (omega (arith, c.if-after-back.true))
