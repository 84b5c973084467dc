use Rattle.pl_cli.specs.Commands.{fault_of, line_of_numbers}
use Rattle.pl_cli.proofs.Finished.{asked-borrowed, told-as}
use Rattle.pl_cli.proofs.top.Outcome.tell.Goals as goal

pub returns-clause-told : goal.returns-clause-told
returns-clause-told g c = told-as _ _ _ _ _ _ _ _ (fault_of c.args.self.now.ended) (line_of_numbers c.args.self.now.ended) (asked-borrowed _ _ c.as_ref.ensures.value) c.tell_ended.ensures.told
