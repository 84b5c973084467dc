use Rattle.std.proofs.Common.{sym, ◌∙◌, ap, map, take}
use Rattle.std.proofs.lemmas.List.{take-map}
use Rattle.pl_spec.specs.Lines.{quote}
use Rattle.pl_assets.proofs.labels.texts.LabelTexts.truncate.Goals as goal

pub invariant_of-self : goal.invariant_of-self
invariant_of-self c =
    ap (map (λ v. v.items)) c.truncate-2.ensures.items ∙ sym (take-map (λ v. v.items) c.args.len c.self.inside.fields.items)
    ∙ ap (take c.args.len) c.self.invariant ∙ take-map quote c.args.len c.self.inside.texts
    ∙ ap (map quote) (sym c.truncate.ensures)
