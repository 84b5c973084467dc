use Rattle.std.proofs.Common.{◌∙◌, sym}
use Rattle.pl_bars.proofs.BarOnward.{here_is_point}
use Rattle.pl_bars.proofs.onward.stands_at.Goals as goal

pub returns-then-place-rows-clause-point : goal.returns-then-place-rows-clause-point
returns-then-place-rows-clause-point c = λ t.
    here_is_point c.args.col c.args.session c.args.rows.now c.args.place _ c.requires c.if-place-rows.true (sym c.is_bar_of.ensures ∙ t)
