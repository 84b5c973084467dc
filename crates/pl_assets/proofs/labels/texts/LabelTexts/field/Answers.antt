use Rattle.std.proofs.Common.{◌∙◌, ap, get_or, []}
use Rattle.pl_spec.specs.Lines.{quote}
use Rattle.pl_assets.proofs.TextLists.{field_at_code}
use Rattle.pl_assets.proofs.labels.texts.LabelTexts.field.Goals as goal

pub returns : goal.returns
returns c =
    c.as_slice.ensures.value
    ∙ field_at_code (λ v. v.items) quote c.self.inside.fields.items c.self.inside.texts c.args.code c.index.result.now c.self.invariant (rw c.self.view_is c.requires) c.index.ensures
    ∙ ap (λ t. quote (get_or t c.args.code [])) c.self.view_is
