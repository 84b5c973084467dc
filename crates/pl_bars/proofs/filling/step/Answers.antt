use Rattle.std.proofs.Common.{rules, ◌∙◌, ap, arith, inl, inr, [], get_or, pos, FitsSigned, w64}
use Rattle.std.proofs.lemmas.Int.{to_z-of_z}
use Rattle.pl_spec.specs.declared.BarRow.{BarRow}
use Rattle.pl_bars.proofs.BarSearch.{bar_found, bar_none, not_here, cell_found, cell_none, cell_at-IsCell, point_taken, point_passed}
use Rattle.pl_bars.proofs.filling.step.Goals as goal
use Rattle.pl_bars.proofs.filling.step.Goals.{else-at-bars-via-then-at-bars+then-bars-at+else-bars-at-2, else-at-bars-via-then-at-bars+else-bars-at, else-at-bars-via-else-at-bars}

abbrev blank : BarRow
blank = record { col = 0; session = 0; cells = [] }

pub returns-then-bars-at-2-clause-value : goal.returns-then-bars-at-2-clause-value
returns-then-bars-at-2-clause-value c =
    let row = get_or c.args.bars.now c.args.at blank in
    let fits : FitsSigned w64 (get_or row.cells c.place_of.result (pos 0)) = search rules in
    to_z-of_z w64 _ fits ∙ ap (λ k. get_or row.cells k (pos 0)) c.place_of.ensures.value
    ∙ cell_found c.args.bars.now c.args.col c.args.session c.args.column c.args.at blank
    (bar_found c.args.col c.args.session c.args.bars.now c.args.at blank c.if-at-bars.true c.requires.point c.if-bars-at.true c.if-bars-at-2.true)

pub returns-then-bars-at-2-clause-cell : goal.returns-then-bars-at-2-clause-cell
returns-then-bars-at-2-clause-cell c =
    let row = get_or c.args.bars.now c.args.at blank in
    let fits : FitsSigned w64 (get_or row.cells c.place_of.result (pos 0)) = search rules in
    rw (to_z-of_z w64 _ fits ∙ ap (λ k. get_or row.cells k (pos 0)) c.place_of.ensures.value
    ∙ cell_found c.args.bars.now c.args.col c.args.session c.args.column c.args.at blank
    (bar_found c.args.col c.args.session c.args.bars.now c.args.at blank c.if-at-bars.true c.requires.point c.if-bars-at.true c.if-bars-at-2.true))
    (cell_at-IsCell c.args.bars.now c.args.col c.args.column c.args.session c.requires.bars)

pub returns-then-bars-at-2-clause-point : goal.returns-then-bars-at-2-clause-point
returns-then-bars-at-2-clause-point c =
    point_taken c.args.col c.args.session c.args.bars.now c.args.at blank c.requires.bars c.if-at-bars.true c.requires.point c.if-bars-at.true c.if-bars-at-2.true

pub returns-else-at-bars-clause-value : goal.returns-else-at-bars-clause-value
returns-else-at-bars-clause-value c =
    cell_none c.args.bars.now c.args.col c.args.session c.args.column (bar_none c.args.col c.args.session c.args.bars.now c.args.at blank c.requires.bars c.requires.point
    (λ inside. elim c.else-at-bars.branch [
      | else-at-bars-via-then-at-bars+then-bars-at+else-bars-at-2 w ↦ not_here c.args.col c.args.session (get_or c.args.bars.now c.args.at blank) (inr w.if-bars-at-2.false)
      | else-at-bars-via-then-at-bars+else-bars-at w ↦ not_here c.args.col c.args.session (get_or c.args.bars.now c.args.at blank) (inl w.if-bars-at.false)
      | else-at-bars-via-else-at-bars w ↦ absurd (omega (arith, w.if-at-bars.false))
    ]))

pub returns-else-at-bars-clause-point : goal.returns-else-at-bars-clause-point
returns-else-at-bars-clause-point c =
    point_passed c.args.col c.args.session c.args.bars.now c.args.at blank c.requires.bars c.requires.point
    (λ inside. elim c.else-at-bars.branch [
      | else-at-bars-via-then-at-bars+then-bars-at+else-bars-at-2 w ↦ not_here c.args.col c.args.session (get_or c.args.bars.now c.args.at blank) (inr w.if-bars-at-2.false)
      | else-at-bars-via-then-at-bars+else-bars-at w ↦ not_here c.args.col c.args.session (get_or c.args.bars.now c.args.at blank) (inl w.if-bars-at.false)
      | else-at-bars-via-else-at-bars w ↦ absurd (omega (arith, w.if-at-bars.false))
    ])
