use Rattle.std.proofs.Common.{◌≡◌, ◌∙◌, ap, sym, subst, arith, inl, inr, ℕ, ◌<◌, List, Some, length, get_or, set, get_or-set_same, get_or-set_other, length-set}
use Rattle.std.specs.Prelude.{slice_get}
use Rattle.std.proofs.lemmas.Bool.{cases_eq}
use Rattle.std.proofs.lemmas.Option.{slice_get_within}
use Rattle.pl_terms.specs.declared.node.Node.{Node}
use Rattle.pl_terms.specs.Nodes.{graph_of}
use Rattle.pl_terms.specs.Checked.{pipeline_of}
use Rattle.pl_terms.specs.Sorts.{sort_at}
use Rattle.pl_terms.proofs.Graphs.{graph-long, columns-long}
use Rattle.pl_planner.proofs.Pipelines.{column-in}
use Rattle.pl_table.specs.Fields.{sort_written}
use Rattle.pl_table.specs.declared.writing.Writing.{Writing}
use Rattle.pl_table.specs.declared.writing.Writing.TheVariants.{Cell}
use Rattle.pl_table.proofs.Outputs.{has-column, term-there}
use Rattle.pl_table.proofs.writing.writings_of.Goals as goal

pub writing_of-requires : goal.writing_of-requires
writing_of-requires c =
    let checked = c.args.checked.now in
    let d = has-column checked.columns c.loop-column.column (omega (arith, c.columns-column-end.ensures)) in
    let is = term-there checked.columns c.loop-column.column c.column_term.result c.column_term.ensures d.0 d.1 in
    let inside = column-in (pipeline_of checked) c.graph-graph.ensures.checked c.loop-column.column d.0 d.1 in
    omega (arith, is, inside, graph-long checked.graph, ap length c.graph-graph.ensures.value)

pub bounds-writings-column : goal.bounds-writings-column
bounds-writings-column c = omega (arith, c.columns-column-end.ensures, columns-long c.args.checked.now.columns, c.graph-graph.ensures.checked.few_columns)

pub loop-column-preserved : goal.loop-column-preserved
loop-column-preserved c =
    let checked = c.args.checked.now in
    let i = c.loop-column.column in
    let old = c.loop-column.writings in
    let own = c.writing_of.result in
    let here : i < length old = omega (arith, c.loop-column.invariant.long, c.columns-column-end.ensures, columns-long checked.columns, c.graph-graph.ensures.checked.few_columns) in
    let sort = subst (λ (ns : List Node). sort_at (graph_of ns) c.column_term.result.0 ≡ Some (sort_written own)) c.graph-graph.ensures.value c.writing_of.ensures in
    record {
      long = length-set old i own ∙ c.loop-column.invariant.long;
      each = λ k d h at. elim (cases_eq k i) [
        | inl e ↦ ap (sort_at (pipeline_of checked).graph) (term-there checked.columns i c.column_term.result c.column_term.ensures d (ap (slice_get (pipeline_of checked).columns) (sym e) ∙ at))
            ∙ sort ∙ ap (λ (w : Writing). Some (sort_written w)) (sym (ap (λ (n : ℕ). get_or (set old i own) n Cell) e ∙ get_or-set_same old i own Cell here))
        | inr ne ↦ c.loop-column.invariant.each k d (omega arith) at ∙ ap (λ (w : Writing). Some (sort_written w)) (sym (get_or-set_other old i k own Cell ne))
      ];
    }

pub returns : goal.returns
returns c =
    let checked = c.args.checked.now in
    record {
      long = c.loop-column.invariant.long;
      each = λ k d at. (
          let inside = slice_get_within (pipeline_of checked).columns k d at in
          c.loop-column.invariant.each k d (omega (arith, inside, c.columns-column-end.ensures, columns-long checked.columns)) at);
    }
