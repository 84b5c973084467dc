use Rattle.std.proofs.Common.{◌≡◌, length, take, drop, flat_map, All}
use Rattle.pl_spec.specs.declared.BarRow.{BarRow}
use Rattle.pl_outside.proofs.Pieces.{Writing}
use Rattle.pl_packed.specs.Packed.{words_of, words_bytes}
use Rattle.pl_packed.specs.Summed.{AreSums}
use Rattle.pl_packed.proofs.packing.write_bars.Given as goal

abbrev pub invariant-bars : goal.invariant-bars
invariant-bars g l =
    let out = g.O.Sink in
    record {
      writing : Writing out.taken out.faults out.sound out.room l.fn.out l.out (words_bytes (flat_map words_of l.bars))
          (words_bytes (flat_map words_of (drop l.i l.bars)));
      sums : AreSums l.sums (flat_map words_of (take l.i l.bars));
      five : All (λ (b : BarRow). length b.cells ≡ 5) (take l.i l.bars);
    }
