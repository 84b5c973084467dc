use Rattle.std.proofs.Common.{◌∙◌, sym}
use Rattle.pl_records.proofs.LineEnds.{no-quote}
use Rattle.pl_records.proofs.WholeRecords.{unquoted-ends}
use Rattle.pl_records.proofs.pieces.has_no_quote.Goals as goal

pub returns-clause-value : goal.returns-clause-value
returns-clause-value c = no-quote c.args.text.now _ _ c.memchr.ensures c.is_none.ensures

pub returns-clause-whole : goal.returns-clause-whole
returns-clause-whole c none = unquoted-ends c.args.text.now (sym (no-quote c.args.text.now _ _ c.memchr.ensures c.is_none.ensures) ∙ none)
