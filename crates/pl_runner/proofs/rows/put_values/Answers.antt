use Rattle.std.proofs.Common.{◌++◌, ◌∙◌, ap, pos, List, arith}
use Rattle.std.proofs.lemmas.List.{take_all}
use Rattle.std.proofs.lemmas.Option.{slice_get_within}
use Rattle.pl_pipeline.specs.Table.{NamedColumn}
use Rattle.pl_table.specs.Rows.{value_fields}
use Rattle.pl_table.proofs.Outputs.{has-column, parts-more}
use Rattle.pl_table.proofs.RowLines.{fields-more}
use Rattle.pl_runner.specs.Sessions.{pipeline_in, sid_of, world_in}
use Rattle.pl_terms.proofs.Graphs.{columns-long}
use Rattle.pl_runner.proofs.rows.put_values.Goals as goal

pub put_value-requires-clause-column : goal.put_value-requires-clause-column
put_value-requires-clause-column c = omega (arith, c.columns-column-end.ensures, columns-long c.args.fed.now.asked.checked.now.columns)

pub put_value-requires-clause-room : goal.put_value-requires-clause-room
put_value-requires-clause-room c =
    omega (arith, c.columns-column-end.ensures, columns-long c.args.fed.now.asked.checked.now.columns, c.requires.fed.asked.checked.few_columns, c.requires.room, c.loop-column.invariant.within)

pub loop-column-preserved : goal.loop-column-preserved
loop-column-preserved c =
    let f = c.args.fed.now in
    let w = world_in f in let p = pipeline_in f in let a = sid_of f c.args.i in let i = c.loop-column.column in
    let d = has-column f.asked.checked.now.columns i (omega (arith, c.columns-column-end.ensures)) in
    let inside = slice_get_within p.columns i d.0 d.1 in
    record {
      text = parts-more c.args.line.now _ _ _ _ _ c.loop-column.invariant.text (c.put_value.ensures.text d.0 d.1) (fields-more w p f.asked.format a (pos f.session) p.columns i d.0 inside d.1);
      within = omega (arith, c.loop-column.invariant.within, c.put_value.ensures.within);
    }

pub returns-clause-text : goal.returns-clause-text
returns-clause-text c =
    let f = c.args.fed.now in
    c.loop-column.invariant.text
    ∙ ap (λ (cs : List NamedColumn). c.args.line.now ++ value_fields (world_in f) (pipeline_in f) f.asked.format (sid_of f c.args.i) (pos f.session) cs)
    (take_all c.loop-column.column (pipeline_in f).columns (omega (arith, c.columns-column-end.ensures, columns-long f.asked.checked.now.columns)))

pub returns-clause-within : goal.returns-clause-within
returns-clause-within c =
    omega (arith, c.loop-column.auto.column-end, c.columns-column-end.ensures, columns-long c.args.fed.now.asked.checked.now.columns, c.requires.fed.asked.checked.few_columns, c.requires.room, c.loop-column.invariant.within)
