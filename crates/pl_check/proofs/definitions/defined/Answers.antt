use Rattle.std.proofs.Common.{ap, option_map, ◌∙◌}
use Rattle.pl_check.specs.Seen.{value_of, definitions_of}
use Rattle.pl_check.proofs.Defining.{looked_up}
use Rattle.pl_check.proofs.definitions.defined.Goals as goal

pub returns : goal.returns
unfolding definitions_of
returns c = ap (option_map value_of) (c.copied.ensures ∙ c.get.ensures.value) ∙ looked_up c.args.definitions.now.entries c.args.name.now
