use Rattle.pl_adjust.proofs.FirstFaults.{made_is}
use Rattle.pl_bench.proofs.AdjustRows.{memory-alone}
use Rattle.pl_bench.proofs.adjusts.adjustments_of.Goals as goal

pub want_of_memory-requires : goal.want_of_memory-requires
want_of_memory-requires c =
    let right = (c.tables_in_plain_words.ensures.right c.args.assets.now c.args.splits.now c.args.mergers.now c.args.dividends.now).1 c.requires in
    memory-alone c.in-Err.error _ right.0 right.1 c.in-Err.ensures.exact

pub returns-in-Ok-clause-adjustments : goal.returns-in-Ok-clause-adjustments
returns-in-Ok-clause-adjustments c = made_is c.args.assets.now c.args.splits.now c.args.mergers.now c.args.dividends.now c.in-Ok.adjustments c.in-Ok.ensures.exact
