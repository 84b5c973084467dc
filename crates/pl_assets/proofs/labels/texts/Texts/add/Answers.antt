use Rattle.std.proofs.Common.{sym, ◌∙◌, ap, map, not}
use Rattle.std.specs.Str.{bytes_eq}
use Rattle.pl_assets.proofs.TextLists.{prefix-map, inserted}
use Rattle.pl_assets.proofs.labels.texts.Texts.add.Goals as goal

pub returns-clause-texts : goal.returns-clause-texts
returns-clause-texts c = rw (← c.self.view_is) (ap (map (λ v. v.items)) c.in_ok-number.ensures.keys ∙ inserted (λ v. v.items) c.self.inside.set.keys c.args.text)

pub returns-clause-number : goal.returns-clause-number
returns-clause-number c = rw (← c.self.view_is) (c.in_ok-number.ensures.index ∙ sym (prefix-map (λ k. not (bytes_eq c.args.text.items k)) (λ v. v.items) c.self.inside.set.keys))
