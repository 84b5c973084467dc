use Rattle.std.proofs.Common.{sym, ◌∙◌}
use Rattle.pl_assets.proofs.TextLists.{not_new}
use Rattle.pl_assets.proofs.labels.texts.Texts.insert.Goals as goal

pub returns-in-Some-clause-texts : goal.returns-in-Some-clause-texts
returns-in-Some-clause-texts c = not_new c.args.self.now c.args.text.now c.in-Some.number (sym c.number_of.ensures ∙ c.in-Some.is)
