use Rattle.pl_syntax.proofs.Verdicts.{spelled, spelled_answers, cause, fault_answers}
use Rattle.pl_syntax.proofs.Printing.{printed_answers}
use Rattle.pl_syntax.proofs.parser.parse.Goals as goal

pub returns-clause-found : goal.returns-clause-found
returns-clause-found c = spelled c.args.bytes.now c.read_all.result c.read_all.ensures

pub returns-clause-only : goal.returns-clause-only
returns-clause-only c = λ x few s. spelled_answers c.args.bytes.now c.read_all.result c.read_all.ensures x s

pub returns-clause-printed : goal.returns-clause-printed
returns-clause-printed c = λ s few e. printed_answers c.args.bytes.now c.read_all.result c.read_all.ensures s e

pub returns-clause-cause : goal.returns-clause-cause
returns-clause-cause c = cause c.args.bytes.now c.read_all.result c.read_all.ensures

pub returns-clause-fault : goal.returns-clause-fault
returns-clause-fault c = λ k p few x. fault_answers c.args.bytes.now c.read_all.result c.read_all.ensures k p x
