use Rattle.std.proofs.Common.{rules, ◌≡◌, ◌∙◌, ap, length, min, take, map, filter_map}
use Rattle.std.proofs.lemmas.List.{take_min}
use Rattle.pl_spec.specs.World.{column_number}
use Rattle.pl_pipeline.specs.Graph.{contains, input_column}
use Rattle.pl_terms.specs.Nodes.{input_of}
use Rattle.pl_exec.proofs.Places.{before_cut}
use Rattle.pl_exec.proofs.columns.is_before.Goals as goal

pub returns : goal.returns
returns c =
    let end : c.min-end.result ≡ min c.args.place (length c.inputs_of-inputs.result.now) = search rules in
    c.has_column.ensures
    ∙ ap (λ m. contains (filter_map input_column (map input_of (take m c.inputs_of-inputs.result.now))) (column_number c.args.column)) end
    ∙ ap (λ l. contains (filter_map input_column (map input_of l)) (column_number c.args.column)) (take_min c.args.place c.inputs_of-inputs.result.now)
    ∙ before_cut c.inputs_of-inputs.result.now c.args.place c.args.column
    ∙ ap (λ l. contains (filter_map input_column (take c.args.place l)) (column_number c.args.column)) c.inputs_of-inputs.ensures.value
