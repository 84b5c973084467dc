use Rattle.std.proofs.Common.{rules, ◌≡◌, ◌≤◌, ◌+◌, ◌*◌, ◌∙◌, ap, sym, subst, refl, true, ℕ, pos, get_or, arith, FitsSigned, w64}
use Rattle.std.proofs.lemmas.Int.{to_z-of_z}
use Rattle.pl_pipeline.specs.Graph.{contains}
use Rattle.pl_terms.specs.Uses.{outputs}
use Rattle.pl_terms.proofs.Graphs.{columns-long, column-output}
use Rattle.pl_table.specs.Outcomes.{pipeline_in}
use Rattle.pl_table.specs.Tiles.{sessions_in}
use Rattle.pl_table.proofs.Outputs.{has-column, term-there}
use Rattle.pl_table.proofs.Tiles as tiles
use Rattle.pl_table.proofs.tile.copy_cells.Goals as goal

pub column_term-term-requires : goal.column_term-term-requires
column_term-term-requires c = omega (arith, c.requires.column, columns-long c.args.outcome.now.asked.checked.now.columns)

pub cells_from-cells-requires-clause-output : goal.cells_from-cells-requires-clause-output
cells_from-cells-requires-clause-output c =
    let o = c.args.outcome.now in
    let d = has-column o.asked.checked.now.columns c.args.column (omega (arith, c.requires.column, columns-long o.asked.checked.now.columns)) in
    let is = term-there o.asked.checked.now.columns c.args.column c.column_term-term.result c.column_term-term.ensures d.0 d.1 in
    subst (λ (t : ℕ). contains (outputs (pipeline_in o)) t ≡ true) is (column-output (pipeline_in o) c.args.column d.0 d.1)

pub loop-j-init : goal.loop-j-init
loop-j-init c =
    let o = c.args.outcome.now in
    record {
      strip = tiles.no_strip (λ j. get_or c.cells_from-cells.result.now j (pos 0)) (tiles.places_of o) (tiles.width_of o) c.args.place (c.args.column + 1) c.args.tile.now;
      here = ap (λ (n : ℕ). n + (c.args.column + 1)) c.start_of.ensures.value;
    }

pub offset_bounds-tile-at : goal.offset_bounds-tile-at
offset_bounds-tile-at c =
    let o = c.args.outcome.now in
    let inside = tiles.number_within (tiles.places_of o) (tiles.width_of o) c.loop-j.j c.args.place (c.args.column + 1) c.loop-j.at _ c.loop-j.invariant.here
    (omega (arith, c.loop-j-test.true, c.min-count.ensures)) c.requires.place (omega (arith, c.requires.column)) c.requires.room in
    omega (arith, inside, c.loop-j.auto.tile)

pub bounds-tile-at : goal.bounds-tile-at
bounds-tile-at c =
    let o = c.args.outcome.now in
    let inside = tiles.number_within (tiles.places_of o) (tiles.width_of o) c.loop-j.j c.args.place (c.args.column + 1) c.loop-j.at _ c.loop-j.invariant.here
    (omega (arith, c.loop-j-test.true, c.min-count.ensures)) c.requires.place (omega (arith, c.requires.column)) c.requires.room in
    omega (arith, inside, c.loop-j.auto.tile)

pub overflow_add-at-in-loop-j : goal.overflow_add-at-in-loop-j
overflow_add-at-in-loop-j c =
    let o = c.args.outcome.now in
    let inside = tiles.number_within (tiles.places_of o) (tiles.width_of o) c.loop-j.j c.args.place (c.args.column + 1) c.loop-j.at _ c.loop-j.invariant.here
    (omega (arith, c.loop-j-test.true, c.min-count.ensures)) c.requires.place (omega (arith, c.requires.column)) c.requires.room in
    let session = tiles.session_within (tiles.places_of o) (tiles.width_of o) _ c.requires.room in
    rw c.width_of.ensures.value (omega (arith, inside, session))

pub loop-j-preserved : goal.loop-j-preserved
loop-j-preserved c =
    let o = c.args.outcome.now in
    let x = get_or c.cells_from-cells.result.now c.loop-j.j (pos 0) in
    let fits : FitsSigned w64 x = search rules in
    record {
      strip = rw (to_z-of_z w64 x fits) (tiles.one_strip (λ j. get_or c.cells_from-cells.result.now j (pos 0)) (tiles.places_of o) (tiles.width_of o) c.loop-j.j c.args.place (c.args.column + 1) c.args.tile.now c.loop-j.tile x c.loop-j.at c.loop-j.invariant.strip
          (omega (arith, c.min-count.ensures)) c.requires.place (omega (arith, c.requires.column)) (omega (arith, c.requires.room, c.loop-j.auto.tile)) c.loop-j.invariant.here refl);
      here = tiles.next_session (tiles.places_of o) (tiles.width_of o) c.loop-j.j c.args.place (c.args.column + 1) c.loop-j.at _ c.loop-j.invariant.here (ap (λ (w : ℕ). tiles.places_of o * w) c.width_of.ensures.value);
    }

pub returns : goal.returns
returns c d at =
    let o = c.args.outcome.now in
    let few : sessions_in c.args.first o.to ≤ c.loop-j.j = omega (arith, c.min-count.ensures) in
    let term = term-there o.asked.checked.now.columns c.args.column c.column_term-term.result c.column_term-term.ensures d at in
    tiles.strip-same (λ j. get_or c.cells_from-cells.result.now j (pos 0)) (tiles.copied o c.args.first c.args.place d.term) (tiles.places_of o) (tiles.width_of o) c.loop-j.j (sessions_in c.args.first o.to) c.args.place (c.args.column + 1) c.args.tile.now c.loop-j.tile c.loop-j.invariant.strip few
    (λ j h. c.cells_from-cells.ensures.each j (omega (arith, c.min-count.ensures)) ∙ ap (λ (t : ℕ). tiles.copied o c.args.first c.args.place t j) (sym term))
