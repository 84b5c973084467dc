use Rattle.std.proofs.Common.{flat_map, drop}
use Rattle.pl_outside.proofs.Pieces.{Writing}
use Rattle.pl_outside.proofs.parts.write_pieces.Given as goal

abbrev pub invariant-loop-piece : goal.invariant-loop-piece
invariant-loop-piece g l =
    let out = g.O.Sink in
    Writing out.taken out.faults out.sound out.room l.fn.out l.out (flat_map (λ p. p.now) l.pieces) (flat_map (λ p. p.now) (drop l.piece-index l.pieces))
