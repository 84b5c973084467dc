use Rattle.std.proofs.Common.{rules, ◌≡◌, ◌≤◌, ◌∙◌, sym, ap, subst, arith, length, drop, slice_get, All, FitsSigned, w32}
use Rattle.std.proofs.lemmas.Int.{to_z-of_z}
use Rattle.std.proofs.lemmas.Option.{slice_get_within}
use Rattle.pl_spec.specs.Limits.{most_window}
use Rattle.pl_spec.specs.Rounding.{IsCell}
use Rattle.pl_terms.specs.Nodes.{node_of}
use Rattle.pl_terms.proofs.Graphs.{graph-at}
use Rattle.pl_planner.proofs.Pipelines.{is-pipeline}
use Rattle.pl_daily.proofs.Advances.{vec_back}
use Rattle.pl_daily.specs.Terms.{IsRowOf, pipeline_at}
use Rattle.pl_daily.proofs.Placed.{cells_at, moment_of, row_at, stands_at}
use Rattle.pl_daily.proofs.terms.term_row.Goals as goal

pub fill_row-requires : goal.fill_row-requires
fill_row-requires c =
    let l = c.args.lent.now in
    let k = c.args.term.0 in
    let n = c.node.result.now in
    let next = c.requires.placed.0 in
    let days = c.requires.placed.1 in
    let room = c.requires.room in
    let fits : FitsSigned w32 c.args.lent.now.day = search rules in
    let at = graph-at l.checked.now.graph k n (ap (λ g. slice_get g k) (sym c.graph.ensures.value) ∙ c.node.ensures) in
    let w : (node_of n).window ≤ most_window = ((is-pipeline (pipeline_at l) c.requires.lent.checked).windows k (node_of n) at).1 in
    record {
      term_day = (
        moment_of l next days,
        stands_at l c.args.terms c.args.term c.node.result c.deref.result _ c.args.start.now (to_z-of_z w32 l.day fits) c.deref.ensures.value c.requires.start c.requires.terms.room (omega (arith, slice_get_within (pipeline_at l).graph k (node_of n) at, c.requires.terms.many))
            c.requires.lent.checked c.requires.used at c.requires.lent.few c.requires.lent.labels next days c.requires.placed.2,
      );
      cross = room.cross;
      first = omega (arith, w, room.first, ap length c.deref_mut.ensures.value);
      second = omega (arith, w, room.second, ap length c.deref_mut-2.ensures.value);
      third = omega (arith, w, room.third, ap length c.deref_mut-3.ensures.value);
      keep = ap length c.deref_mut-4.ensures.value ∙ room.keep;
      long = ap length c.deref_mut-5.ensures.value ∙ room.out;
    }

pub returns-clause-row : goal.returns-clause-row
returns-clause-row c =
    let l = c.args.lent.now in
    let k = c.args.term.0 in
    let n = c.node.result.now in
    let fits : FitsSigned w32 c.args.lent.now.day = search rules in
    let at = graph-at l.checked.now.graph k n (ap (λ g. slice_get g k) (sym c.graph.ensures.value) ∙ c.node.ensures) in
    let new = c.fill_row.new.out in
    let out = c.args.room.now.out in
    let same : length new ≡ length c.deref_mut-5.result.now = search rules in
    let back = vec_back out.len new (drop (length new) out.items) (sym c.deref_mut-5.ensures.len ∙ sym same) in
    subst (IsRowOf l k c.args.terms.now c.args.start.now) (sym back)
    (row_at l c.args.terms c.args.term c.node.result c.deref.result _ c.args.start.now (to_z-of_z w32 l.day fits) c.deref.ensures.value c.requires.start c.requires.terms.room (omega (arith, slice_get_within (pipeline_at l).graph k (node_of n) at, c.requires.terms.many))
    c.requires.lent.checked c.requires.used at c.requires.lent.few c.requires.lent.labels c.fill_row.new.out c.fill_row.ensures.out)

pub returns-clause-cells : goal.returns-clause-cells
returns-clause-cells c =
    let l = c.args.lent.now in
    let k = c.args.term.0 in
    let n = c.node.result.now in
    let next = c.requires.placed.0 in
    let days = c.requires.placed.1 in
    let fits : FitsSigned w32 c.args.lent.now.day = search rules in
    let at = graph-at l.checked.now.graph k n (ap (λ g. slice_get g k) (sym c.graph.ensures.value) ∙ c.node.ensures) in
    let new = c.fill_row.new.out in
    let out = c.args.room.now.out in
    let same : length new ≡ length c.deref_mut-5.result.now = search rules in
    let back = vec_back out.len new (drop (length new) out.items) (sym c.deref_mut-5.ensures.len ∙ sym same) in
    subst (All IsCell) (sym back)
    (cells_at l c.args.terms c.args.term c.node.result c.deref.result _ c.args.start.now (to_z-of_z w32 l.day fits) c.deref.ensures.value c.requires.start c.requires.terms.room (omega (arith, slice_get_within (pipeline_at l).graph k (node_of n) at, c.requires.terms.many))
    c.requires.lent.checked c.requires.used at c.requires.lent.few c.requires.lent.labels c.fill_row.new.out c.fill_row.ensures.out next days c.requires.placed.2)
