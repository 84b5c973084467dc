use Rattle.std.proofs.Common.{◌≤◌, ◌<◌, ◌++◌, ◌∷◌, [], ◌∙◌, ap, sym, ℕ, List, length, arith}
use Rattle.std.specs.Prelude.{flat_map}
use Rattle.std.proofs.lemmas.List.{take_all}
use Rattle.pl_pipeline.specs.Table.{NamedColumn}
use Rattle.pl_terms.specs.Checked.{pipeline_of}
use Rattle.pl_terms.proofs.Graphs.{columns-long}
use Rattle.pl_table.specs.Fields.{column_part}
use Rattle.pl_table.proofs.Lines.{front_of, header-is}
use Rattle.pl_table.proofs.Outputs.{columns-more, has-column, parts-more}
use Rattle.pl_table.proofs.header.make_header.Goals as goal

pub loop-column-preserved : goal.loop-column-preserved
loop-column-preserved c =
    let p = pipeline_of c.args.checked.now in
    let there = has-column c.args.checked.now.columns c.loop-column.column (omega (arith, c.columns-column-end.ensures)) in
    parts-more (front_of c.args.format) _ _ _ _ _ c.loop-column.invariant (c.in_ok-put_column.ensures there.0 there.1)
    (columns-more (column_part c.args.format p.graph) p.columns c.loop-column.column there.0 there.1)

pub returns : goal.returns
returns c =
    let p = pipeline_of c.args.checked.now in
    let done : length p.columns ≤ c.loop-column.column = omega (arith, c.columns-column-end.ensures, columns-long c.args.checked.now.columns) in
    c.in_ok-push.ensures.items
    ∙ ap (λ (t : List ℕ). t ++ 10 ∷ []) (c.loop-column.invariant
    ∙ ap (λ (xs : List NamedColumn). front_of c.args.format ++ flat_map (column_part c.args.format p.graph) xs) (take_all c.loop-column.column p.columns done))
    ∙ sym (header-is p c.args.format)
