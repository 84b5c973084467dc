use Rattle.std.proofs.Common.{◌<◌, get_or, [], length, rules, refl, sym, ◌∙◌, FitsSigned, w64}
use Rattle.std.proofs.lemmas.Int.{to_z-of_z}
use Rattle.std.proofs.lemmas.List.Elements.{All-set}
use Rattle.pl_spec.specs.Rounding.{IsCell}
use Rattle.pl_daily.specs.declared.day.DayBar.{DayBar}
use Rattle.std.proofs.lemmas.List.{length-set}
use Rattle.pl_daily.proofs.Cells.{brought_set}
use Rattle.pl_daily.proofs.Moves.{none_brought}
use Rattle.pl_daily.proofs.bars.read_bars.Goals as goal

pub loop-k-init : goal.loop-k-init
loop-k-init c = record {
  count = c.clear.ensures.count;
  each = λ i h. c.clear.ensures.each i h ∙ sym (none_brought c.args.column [] i refl);
  cells = c.clear.ensures.cells;
}

pub loop-k-preserved : goal.loop-k-preserved
loop-k-preserved c =
    let blank : DayBar = record { col = 0; cells = [] } in
    let bar = get_or c.args.bars.now c.loop-k.k blank in
    let fits : FitsSigned w64 c.bar_cell-cell.result = search rules in
    let put = simp to_z-of_z at c.put.ensures in
    let within : bar.col < length c.args.row.now = c.requires.within c.loop-k.k blank c.loop-k-test.true in
    record {
      count = rw put (length-set c.loop-k.row bar.col c.bar_cell-cell.result ∙ c.loop-k.invariant.count);
      each = λ i h. rw put (brought_set c.args.column c.args.bars.now c.loop-k.k blank i c.loop-k.row c.bar_cell-cell.result (length c.args.row.now) c.requires.ascend c.loop-k-test.true c.loop-k.invariant.count within c.bar_cell-cell.ensures.value c.loop-k.invariant.each h);
      cells = rw put (All-set IsCell c.loop-k.row bar.col c.bar_cell-cell.result c.bar_cell-cell.ensures.cell c.loop-k.invariant.cells);
    }
