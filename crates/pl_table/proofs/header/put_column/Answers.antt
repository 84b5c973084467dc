use Rattle.std.proofs.Common.{◌≡◌, ◌++◌, ◌∷◌, [], ◌∙◌, ap, sym, subst, arith, ℕ, List, length, Some, append_assoc}
use Rattle.pl_terms.specs.declared.node.Node.{Node}
use Rattle.pl_terms.specs.Nodes.{graph_of}
use Rattle.pl_terms.specs.Checked.{pipeline_of}
use Rattle.pl_terms.specs.Sorts.{sort_at}
use Rattle.pl_terms.proofs.Graphs.{graph-long}
use Rattle.pl_planner.proofs.Pipelines.{column-in}
use Rattle.pl_pipeline.specs.Text.{kind_at, kind_word}
use Rattle.pl_spec.specs.declared.Format.{Format}
use Rattle.pl_table.specs.Fields.{column_part, field_part, sort_written, word_written}
use Rattle.pl_table.proofs.Outputs.{has-column, name-there, term-there}
use Rattle.pl_table.proofs.Sorted.{word-is}
use Rattle.pl_table.proofs.header.put_column.Goals as goal

pub writing_of-writing-requires : goal.writing_of-writing-requires
writing_of-writing-requires c =
    let checked = c.args.checked.now in
    let d = has-column checked.columns c.args.column c.requires in
    let is = term-there checked.columns c.args.column c.column_term.result c.column_term.ensures d.0 d.1 in
    let inside = column-in (pipeline_of checked) c.graph.ensures.checked c.args.column d.0 d.1 in
    omega (arith, is, inside, graph-long checked.graph, ap length c.graph.ensures.value)

pub returns-in_ok-put_name-in-Csv : goal.returns-in_ok-put_name-in-Csv
returns-in_ok-put_name-in-Csv c d at =
    let own = name-there c.args.checked.now.columns c.args.column c.column_name-name.result.now c.column_name-name.ensures d at in
    let old = c.args.text.now.items in
    c.in_ok-put_name-in-Csv.ensures ∙ ap (λ (t : List ℕ). old ++ field_part c.args.format t) (sym own)
    ∙ ap (λ (f : Format). old ++ field_part f d.name) c.in-Csv.is
    ∙ ap (λ (f : Format). old ++ column_part f (graph_of c.args.checked.now.graph) d) (sym c.in-Csv.is)

pub returns-in_ok-put_name-in-Fixed : goal.returns-in_ok-put_name-in-Fixed
returns-in_ok-put_name-in-Fixed c d at =
    let own = name-there c.args.checked.now.columns c.args.column c.column_name-name.result.now c.column_name-name.ensures d at in
    let old = c.args.text.now.items in
    c.in_ok-put_name-in-Fixed.ensures ∙ ap (λ (t : List ℕ). old ++ field_part c.args.format t) (sym own)
    ∙ ap (λ (f : Format). old ++ field_part f d.name) c.in-Fixed.is
    ∙ ap (λ (f : Format). old ++ column_part f (graph_of c.args.checked.now.graph) d) (sym c.in-Fixed.is)

pub returns-in_ok-extend_from_slice-in-Cells : goal.returns-in_ok-extend_from_slice-in-Cells
returns-in_ok-extend_from_slice-in-Cells c d at =
    let checked = c.args.checked.now in
    let g = graph_of checked.graph in
    let old = c.args.text.now.items in
    let name = c.column_name-name.result.now in
    let writing = c.writing_of-writing.result in
    let own = name-there checked.columns c.args.column name c.column_name-name.ensures d at in
    let term = term-there checked.columns c.args.column c.column_term.result c.column_term.ensures d at in
    let sort = subst (λ (ns : List Node). sort_at (graph_of ns) c.column_term.result.0 ≡ Some (sort_written writing)) c.graph.ensures.value c.writing_of-writing.ensures in
    c.in_ok-extend_from_slice-in-Cells.ensures.items
    ∙ ap (λ (t : List ℕ). t ++ c.word_of.result.now) c.in_ok-put_name-in-Cells.ensures
    ∙ ap (λ (t : List ℕ). (old ++ 44 ∷ name) ++ t) c.word_of.ensures
    ∙ append_assoc old (44 ∷ name) (58 ∷ word_written writing)
    ∙ ap (λ (t : List ℕ). old ++ 44 ∷ (t ++ 58 ∷ word_written writing)) (sym own)
    ∙ ap (λ (t : List ℕ). old ++ 44 ∷ (d.name ++ 58 ∷ t)) (sym (word-is g c.column_term.result.0 writing sort))
    ∙ ap (λ (u : ℕ). old ++ 44 ∷ (d.name ++ 58 ∷ kind_word (kind_at g u))) (sym term)
    ∙ ap (λ (f : Format). old ++ column_part f g d) (sym c.in-Cells.is)
