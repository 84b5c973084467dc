use Rattle.std.proofs.Common.{ap, ◌∙◌}
use Rattle.pl_derivation.specs.Texts.{line_in}
use Rattle.pl_derivation.proofs.TextsRead.{line_back}
use Rattle.pl_derivation.proofs.TextsSaid.{line_said}
use Rattle.pl_derivation.proofs.laws.lines_are_read.Goals as goal

pub returns : goal.returns
returns c text l = (λ ok e. ap line_in e ∙ line_back l ok, line_said text l)
