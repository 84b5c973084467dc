use Rattle.std.proofs.Common.{◌∙◌}
use Rattle.std.specs.Str.{bytes_eq}
use Rattle.pl_numbers.proofs.NumbersJoined.{found-among}
use Rattle.pl_numbers.proofs.join.is_among.Goals as goal

pub returns : goal.returns
returns c = c.is_some.ensures ∙ found-among (bytes_eq c.args.text.now) c.args.names.now c.number_of.result c.number_of.ensures
