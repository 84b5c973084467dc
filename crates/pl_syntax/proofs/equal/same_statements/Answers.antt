use Rattle.pl_syntax.proofs.Same.{statements_pairwise, next, apart, short, ended}
use Rattle.pl_syntax.proofs.equal.same_statements.Goals as goal

pub returns-in-empty : goal.returns-in-empty
returns-in-empty c = short statements_pairwise _ c.loop-statement-test.true c.statement-item.is c.in-empty.len_below c.loop-statement.invariant

pub returns-then-not-same_statement : goal.returns-then-not-same_statement
returns-then-not-same_statement c = apart statements_pairwise _ c.loop-statement-test.true c.statement-item.is c.in-len1-up.len_at_least c.first-item.is c.loop-statement.invariant c.same_statement.ensures c.if-not-same_statement.true

pub loop-statement-preserved : goal.loop-statement-preserved
loop-statement-preserved c = next statements_pairwise _ c.loop-statement-test.true c.statement-item.is c.in-len1-up.len_at_least c.first-item.is c.loop-statement.invariant (c.same_statement.ensures.0 c.if-not-same_statement.false)

pub returns : goal.returns
returns c = ended statements_pairwise _ c.loop-statement-test.false c.is_empty.ensures c.loop-statement.invariant
