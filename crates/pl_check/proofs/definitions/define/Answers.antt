use Rattle.std.proofs.Common.{ap, map, ◌∙◌}
use Rattle.pl_check.specs.Seen.{definition_of, definitions_of}
use Rattle.pl_check.proofs.Defining.{defined_behind}
use Rattle.pl_check.proofs.definitions.define.Goals as goal

pub returns-in-Ok-clause-ok : goal.returns-in-Ok-clause-ok
unfolding definitions_of
returns-in-Ok-clause-ok c = ap (map definition_of) c.in-Ok.ensures.entries ∙ defined_behind c.args.definitions.now.entries c.args.name c.args.value c.requires
