use Rattle.std.proofs.Common.{sym, ◌∙◌}
use Rattle.std.specs.Str.{bytes_eq}
use Rattle.pl_assets.proofs.TextLists.{position-map}
use Rattle.pl_assets.proofs.labels.texts.Texts.number_of.Goals as goal

pub returns : goal.returns
returns c = rw (← c.self.view_is) (c.get_index_of.ensures.index ∙ sym (position-map (bytes_eq c.args.text.now) (λ v. v.items) c.self.inside.set.keys))
