use Rattle.std.proofs.Common.{ap, arith, length}
use Rattle.pl_table.proofs.Lengths.{quote-long}
use Rattle.pl_table.proofs.fields.put_label_text.Goals as goal

pub put_text-requires-clause-short : goal.put_text-requires-clause-short
put_text-requires-clause-short c = omega (arith, ap length c.requires.quoted, c.requires.short, quote-long c.args.text.now)
