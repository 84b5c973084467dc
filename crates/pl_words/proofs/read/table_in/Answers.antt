use Rattle.pl_words.specs.Apps.{values_in}
use Rattle.pl_words.specs.Views.{options_of}
use Rattle.pl_words.proofs.Places.{table_read}
use Rattle.pl_words.proofs.read.table_in.Goals as goal

pub returns : goal.returns
returns c =
    table_read c.args.names.now (values_in c.args.matches.now) (options_of c.args.options) _ _ _ _ _ _ c.requires
    c.in_ok-from.ensures c.in_ok-to.ensures c.in_ok-world.ensures
