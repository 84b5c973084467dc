use Rattle.pl_syntax.proofs.Reading.{is_read}
use Rattle.pl_syntax.proofs.token_laws.each_is_read.Goals as goal

pub returns : goal.returns
returns c = λ p bs. let r = is_read p bs in (r.tokens, r.tail, r.reads)
