use Rattle.pl_pointwise.proofs.ResultLemmas.{written-cells, written-flags}
use Rattle.pl_pointwise.proofs.pointwise.Goals as goal

pub returns-clause-cells : goal.returns-clause-cells
returns-clause-cells c =
    written-cells _ c.args.a.now c.args.b.now c.args.c.now _ _
    c.requires.kind c.requires.operands c.write_places.ensures.length c.write_places.ensures.values

pub returns-clause-flags : goal.returns-clause-flags
returns-clause-flags c = λ filter.
    written-flags _ c.args.a.now c.args.b.now c.args.c.now _ _
    c.requires.kind filter c.write_places.ensures.length c.write_places.ensures.values
