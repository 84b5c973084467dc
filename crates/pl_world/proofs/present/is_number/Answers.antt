use Rattle.std.proofs.Common.{◌∙◌}
use Rattle.pl_terms.specs.Checked.{pipeline_of}
use Rattle.pl_world.proofs.Counted.{some-is}
use Rattle.pl_world.proofs.present.is_number.Goals as goal

pub returns : goal.returns
returns c = c.is_some.ensures ∙ some-is (pipeline_of c.args.checked.now) c.args.t.0 c.number_name.result c.number_name.ensures.some c.number_name.ensures.none
