use Rattle.pl_terms.specs.Kinds.{kind_of}
use Rattle.pl_table.proofs.Sorted.{sort-there, sort-none}
use Rattle.pl_table.proofs.writing.writing_of.Goals as goal

pub returns-in-Some : goal.returns-in-Some
returns-in-Some c = sort-there c.args.graph.now c.args.term.0 (kind_of c.in-Some.kind.now) _ c.requires c.in-Some.ensures.some c.writing_of_kind.ensures

pub returns-in-None : goal.returns-in-None
returns-in-None c = sort-none c.args.graph.now c.args.term.0 c.requires c.in-None.ensures.none
