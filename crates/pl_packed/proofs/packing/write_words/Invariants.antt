use Rattle.std.proofs.Common.{drop}
use Rattle.pl_outside.proofs.Pieces.{Writing}
use Rattle.pl_packed.specs.Packed.{words_bytes}
use Rattle.pl_packed.proofs.packing.write_words.Given as goal

abbrev pub invariant-loop-word : goal.invariant-loop-word
invariant-loop-word g l =
    let out = g.O.Sink in
    Writing out.taken out.faults out.sound out.room l.fn.out l.out (words_bytes l.words) (words_bytes (drop l.word-index l.words))
