use Rattle.std.proofs.Common.{sym, ◌∙◌}
use Rattle.pl_spec.specs.Lines.{quote}
use Rattle.pl_assets.proofs.TextLists.{not_new, field_behind}
use Rattle.pl_assets.proofs.labels.texts.LabelTexts.insert.Goals as goal

pub returns-in-Some-clause-texts : goal.returns-in-Some-clause-texts
returns-in-Some-clause-texts c =
    rw (← c.self.view_is) (not_new c.self.inside.texts c.args.text.now c.in-Some.code (sym c.number_of.ensures ∙ c.in-Some.is))

pub invariant_of-self-in-Ok : goal.invariant_of-self-in-Ok
invariant_of-self-in-Ok c =
    field_behind (λ v. v.items) quote c.self.inside.fields.items c.push.new.self.items c.self.inside.texts c.insert.new.self c.in_ok-field.field c.args.text.now
    c.self.invariant c.in_ok-push.ensures.items c.in_ok-field.ensures c.in-Ok.ensures.texts (sym c.number_of.ensures ∙ c.in_default.is)
