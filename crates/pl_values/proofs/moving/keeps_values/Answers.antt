use Rattle.std.proofs.Common.{◌∙◌}
use Rattle.pl_terms.specs.Kinds.{kind_of}
use Rattle.pl_values.proofs.KindFamilies.{keeps-own}
use Rattle.pl_values.proofs.moving.keeps_values.Goals as goal

pub returns : goal.returns
returns c = c.kind_row.ensures.keeps_values ∙ keeps-own (kind_of c.args.kind.now)
