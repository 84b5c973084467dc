use Rattle.std.proofs.Common.{◌∙◌, sym}
use Rattle.pl_payouts.proofs.Outcomes.{comes}
use Rattle.pl_payouts.proofs.ratio.ratio_of.Goals as goal

pub returns-clause-plain : goal.returns-clause-plain
returns-clause-plain c answer =
    let both = comes c.args.sessions.now c.args.assets.now c.args.bars.now c.args.payout.now c.len-sessions.ensures.days.ascend c.requires.payout answer in
    (λ e. both.0 (sym c.find_ratio.ensures ∙ e), λ h. c.find_ratio.ensures ∙ both.1 h)
