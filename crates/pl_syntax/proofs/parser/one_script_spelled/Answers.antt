use Rattle.pl_syntax.proofs.Verdicts.{one_parsed}
use Rattle.pl_syntax.proofs.parser.one_script_spelled.Goals as goal

pub returns : goal.returns
returns c = one_parsed
