use Rattle.std.proofs.Common.{rules, ◌≡◌, ◌+◌, ◌<◌, ◌∙◌, ap, arith, [], length, get_or, pos, FitsSigned, w64, to_z, of_z}
use Rattle.std.proofs.lemmas.Int.{to_z-of_z}
use Rattle.pl_spec.specs.Rounding.{IsCell}
use Rattle.pl_spec.specs.declared.BarRow.{BarRow}
use Rattle.pl_bars.specs.Bars.{cell_at}
use Rattle.pl_bars.proofs.BarSearch.{cell_at-IsCell}
use Rattle.pl_bars.proofs.BarStretch.{stretch_cell, written_each}
use Rattle.pl_bars.proofs.filling.copy_stretch.Goals as goal

abbrev blank : BarRow
blank = record { col = 0; session = 0; cells = [] }

pub loop-k-preserved : goal.loop-k-preserved
loop-k-preserved c =
    let row = get_or c.args.bars.now (c.args.at + c.loop-k.k) blank in
    let fits : FitsSigned w64 (get_or row.cells c.place_of-place.result (pos 0)) = search rules in
    let value : to_z w64 (of_z w64 (get_or row.cells c.place_of-place.result (pos 0))) ≡ cell_at c.args.bars.now c.args.col c.args.column (c.args.first + c.loop-k.k) =
    to_z-of_z w64 _ fits ∙ ap (λ k. get_or row.cells k (pos 0)) c.place_of-place.ensures.value
    ∙ stretch_cell c.args.col c.args.first c.args.bars.now c.args.at _ c.args.column c.loop-k.k blank c.requires.bars c.requires.stretch c.loop-k-test.true in
    let cell : IsCell (to_z w64 (of_z w64 (get_or row.cells c.place_of-place.result (pos 0)))) =
    rw value (cell_at-IsCell c.args.bars.now c.args.col c.args.column (c.args.first + c.loop-k.k) c.requires.bars) in
    let inside : c.loop-k.k < length c.loop-k.into = omega (arith, c.loop-k-test.true, c.loop-k.auto.into) in
    record {
      values = written_each (λ j v. v ≡ cell_at c.args.bars.now c.args.col c.args.column (c.args.first + j)) c.loop-k.into c.loop-k.k _ inside c.loop-k.invariant.values value;
      cells = written_each (λ j v. IsCell v) c.loop-k.into c.loop-k.k _ inside c.loop-k.invariant.cells cell;
    }
