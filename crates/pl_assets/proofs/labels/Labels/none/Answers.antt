use Rattle.pl_assets.proofs.LabelTables.{no_table}
use Rattle.pl_assets.proofs.labels.Labels.none.Goals as goal

pub invariant_of-result : goal.invariant_of-result
invariant_of-result c = no_table c.new.result c.new-2.result.items c.new.ensures.names c.new.ensures.texts c.new.ensures.places c.new-2.ensures.items
