use Rattle.std.proofs.Common.{◌∙◌, sym, rules}
use Rattle.pl_load.proofs.CellRules.{the-term, term-within, term-used, no-term}
use Rattle.pl_load.proofs.cell_place.term_of.Goals as goal

pub returns-then-eq-clause-exact : goal.returns-then-eq-clause-exact
returns-then-eq-clause-exact c = the-term c.args.checked.now c.args.name.now c.loop-i.i _ _ c.column_name.ensures c.column_term.ensures (sym c.eq.ensures ∙ c.if-eq.true) c.loop-i.invariant

pub returns-then-eq-clause-within : goal.returns-then-eq-clause-within
returns-then-eq-clause-within c = term-within c.args.checked.now c.args.name.now c.graph-graph.ensures.checked c.loop-i.i _ _ c.column_name.ensures c.column_term.ensures

pub returns-then-eq-clause-used : goal.returns-then-eq-clause-used
returns-then-eq-clause-used c = term-used c.args.checked.now c.args.name.now c.graph-graph.ensures.checked c.loop-i.i _ _ c.column_name.ensures c.column_term.ensures

pub returns-clause-exact : goal.returns-clause-exact
returns-clause-exact c = no-term c.args.checked.now c.args.name.now c.loop-i.i (search rules) c.loop-i.invariant
