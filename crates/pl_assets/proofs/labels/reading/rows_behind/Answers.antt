use Rattle.std.proofs.Common.{◌∙◌, ap, sym, rules}
use Rattle.pl_assets.specs.Labels.{texts_of}
use Rattle.pl_records.proofs.Sorts.{AreKeys-none}
use Rattle.pl_assets.specs.LabelPlaces.{key_of}
use Rattle.pl_assets.proofs.LabelRowsMade.{no_rows, no_numbers}
use Rattle.pl_assets.proofs.FirstSeen.{no_texts}
use Rattle.pl_assets.proofs.labels.reading.rows_behind.Goals as goal

pub put_rows-requires-clause-none : goal.put_rows-requires-clause-none
put_rows-requires-clause-none c = no_rows c.new-rows.result c.new-rows.ensures.places

pub put_rows-requires-clause-numbered : goal.put_rows-requires-clause-numbered
put_rows-requires-clause-numbered c = no_numbers c.new-rows.result c.new-rows.ensures.names c.new-rows.ensures.texts c.new-rows.ensures.places

pub put_rows-requires-clause-texts : goal.put_rows-requires-clause-texts
put_rows-requires-clause-texts c = c.new-rows.ensures.texts ∙ sym (ap texts_of (no_rows c.new-rows.result c.new-rows.ensures.places) ∙ no_texts)

pub put_rows-requires-clause-keys : goal.put_rows-requires-clause-keys
put_rows-requires-clause-keys c = AreKeys-none key_of c.new-keys.result c.new-rows.result.places.items c.new-rows.ensures.places (search rules)
