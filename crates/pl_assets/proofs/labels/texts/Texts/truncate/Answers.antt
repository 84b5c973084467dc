use Rattle.std.proofs.Common.{sym, ◌∙◌, ap, map}
use Rattle.std.proofs.lemmas.List.{take-map}
use Rattle.pl_assets.proofs.labels.texts.Texts.truncate.Goals as goal

pub returns : goal.returns
returns c = rw (← c.self.view_is) (ap (map (λ v. v.items)) c.truncate.ensures.keys ∙ sym (take-map (λ v. v.items) c.args.len c.self.inside.set.keys))
