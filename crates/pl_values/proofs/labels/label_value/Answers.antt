use Rattle.std.proofs.Common.{◌∙◌, rules, w32, w64, FitsSigned, sym}
use Rattle.std.proofs.lemmas.Int.{to_z-of_z}
use Rattle.pl_values.proofs.Names.{no-name, code-given}
use Rattle.pl_values.proofs.labels.label_value.Goals as goal

pub returns-in-Some-clause-value : goal.returns-in-Some-clause-value
returns-in-Some-clause-value c =
    let fits : FitsSigned w64 c.code_value.result = search rules in
    let day : FitsSigned w32 c.args.day = c.ranges.day in
    to_z-of_z w64 _ fits ∙ c.code_value.ensures
    ∙ code-given c.args.labels.now.rows c.args.labels.now.texts c.args.name.now c.in-Some.number c.args.col c.args.day c.label_at.result (sym c.requires ∙ c.in-Some.is)
    (simp to_z-of_z at c.label_at.ensures.code) (simp to_z-of_z at c.label_at.ensures.known)

pub returns-in-None-clause-value : goal.returns-in-None-clause-value
returns-in-None-clause-value c = no-name c.args.name.now c.args.labels.now.rows c.args.labels.now.texts c.args.col c.args.day (sym c.requires ∙ c.in-None.is)
