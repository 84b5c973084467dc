use Rattle.std.proofs.Common.{◌≡◌, [], ◌∙◌, ap, sym, rules, w32, w64, FitsSigned, pos, option_and_then, unwrap_or, Option, List, ℕ}
use Rattle.std.proofs.lemmas.Int.{to_z-of_z}
use Rattle.pl_pipeline.specs.Value.{name_at}
use Rattle.pl_assets.specs.Labels.{label_on}
use Rattle.pl_assets.proofs.LabelWorlds.{labels_those}
use Rattle.pl_values.specs.Families.{label_code}
use Rattle.pl_world.proofs.parts.label_cell.Goals as goal

pub returns-clause-value : goal.returns-clause-value
returns-clause-value c =
    let fits : FitsSigned w64 c.label_value.result = search rules in
    let day : FitsSigned w32 c.day-day.result = search rules in
    let w = c.args.world.now in
    let texts = c.args.world.now.labels.now.texts in
    let name : name_at c.args.checked.now.names c.args.name ≡ c.label_name-text.result.now = ap (λ (o : Option (List ℕ)). unwrap_or o []) c.label_name-text.ensures in
    let those = labels_those w.sessions.now w.assets.now w.labels.now.rows texts w.bars.now w.adjustments.now w.numbers.now.rows c.parts_make_a_world.ensures.sound.assets.ascend c.requires.made.labels_in
    (name_at c.args.checked.now.names c.args.name) c.args.col (pos c.args.session) c.requires.col in
    to_z-of_z w64 _ fits ∙ simp to_z-of_z at c.label_value.ensures.value
    ∙ sym (ap (label_code texts) (those
    ∙ ap (option_and_then (label_on w.labels.now.rows (name_at c.args.checked.now.names c.args.name) c.args.col)) c.day-day.ensures.exact
    ∙ ap (λ m. label_on w.labels.now.rows m c.args.col c.day-day.result) name))
