use Rattle.pl_records.proofs.Sorts.{rise-sorted}
use Rattle.pl_bars.specs.Bars.{key_of}
use Rattle.pl_bars.proofs.reading.ordered.Goals as goal

pub returns-then-rise : goal.returns-then-rise
returns-then-rise c = rise-sorted key_of c.args.rows.items c.requires.own (c.requires.rises c.if-rise.true)
