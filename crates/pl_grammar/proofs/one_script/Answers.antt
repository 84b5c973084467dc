use Rattle.pl_grammar.specs.Faults.{most_depth}
use Rattle.pl_grammar.proofs.ScriptRead.{one_script}
use Rattle.pl_grammar.proofs.one_script.Goals as goal

pub returns : goal.returns
returns c = λ ts tail a b x y. one_script most_depth ts a b x.derives y.derives
