use Rattle.std.proofs.Common.{◌<◌, ◌∙◌, All, length, get_or, ap, sym, subst, arith}
use Rattle.std.proofs.lemmas.Option.{slice_get-get_or}
use Rattle.pl_spec.specs.Rounding.{IsCell}
use Rattle.pl_daily.specs.declared.term_day.TermCells.{TermCells}
use Rattle.pl_daily.specs.Held.{AreTermCells}
use Rattle.pl_daily.specs.Terms.{IsRowOf, assets_at, pipeline_at}
use Rattle.pl_daily.proofs.Followed.{rooms_stay, term_put, terms_more}
use Rattle.pl_terms.proofs.Graphs.{graph-long}
use Rattle.pl_daily.proofs.terms.put_row.Goals as goal

pub bounds-terms-term : goal.bounds-terms-term
bounds-terms-term c = omega (arith, c.requires.known, c.requires.terms.many, graph-long c.args.lent.now.checked.now.graph)

pub term_row-requires-clause-placed : goal.term_row-requires-clause-placed
term_row-requires-clause-placed c =
    let next = c.requires.placed.0 in
    let days = c.requires.placed.1 in
    let is = c.requires.placed.2 in
    (next, days, record { may = is.may; terms = is.terms; start = c.take_start.ensures.follow next days is })

pub put_term-requires-clause-row : goal.put_term-requires-clause-row
put_term-requires-clause-row c = subst (All IsCell) (sym c.deref.ensures.value) c.term_row.ensures.cells

pub put_term-requires-clause-cells : goal.put_term-requires-clause-cells
put_term-requires-clause-cells c =
    let terms = c.args.terms.now in
    let k = c.args.term.0 in
    let inside : k < length terms = omega (arith, c.requires.known, c.requires.terms.many, graph-long c.args.lent.now.checked.now.graph) in
    let was : TermCells = get_or terms k c.index-terms-term.result in
    let is = slice_get-get_or terms k c.index-terms-term.result inside in
    subst (λ n. AreTermCells n was) (sym (ap length c.deref.ensures.value ∙ c.term_row.ensures.room.out)) (c.requires.terms.room.full k was c.requires.used is)

pub returns : goal.returns
returns c =
    let l = c.args.lent.now in
    let terms = c.args.terms.now in
    let k = c.args.term.0 in
    let inside : k < length terms = omega (arith, c.requires.known, c.requires.terms.many, graph-long c.args.lent.now.checked.now.graph) in
    let was : TermCells = get_or terms k c.index-terms-term.result in
    let is = slice_get-get_or terms k c.index-terms-term.result inside in
    let new = c.put_term.new.cells in
    let long = ap length c.deref.ensures.value ∙ c.term_row.ensures.room.out in
    record {
      follow = term_put l k terms c.args.start.now c.take_start.new.start was new c.deref.result.now c.requires.lent.checked is inside c.requires.used c.put_term.ensures.follow
          (sym long) c.take_start.ensures.follow (subst (IsRowOf l k terms c.take_start.new.start) (sym c.deref.ensures.value) c.term_row.ensures.row);
      terms = terms_more (assets_at l) (pipeline_at l) l.bars.now terms k was new c.requires.terms is inside (subst (λ n. AreTermCells n new) long c.put_term.ensures.cells) c.put_term.ensures.capacity;
      start = c.take_start.ensures.start;
      rooms = rooms_stay terms k was new is c.put_term.ensures.capacity;
      room = c.term_row.ensures.room;
    }
