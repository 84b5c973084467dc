use Rattle.pl_cli.proofs.Cut.{lent-part}
use Rattle.pl_cli.proofs.parts.loaded_text.Goals as goal

pub returns : goal.returns
returns c = lent-part c.args.part _ _ _ _ c.text_of.result c.lent-parts.ensures.world c.span_of-span.ensures c.text_of.ensures
