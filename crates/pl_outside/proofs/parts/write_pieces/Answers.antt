use Rattle.std.proofs.Common.{flat_map, ℕ, List, Bor}
use Rattle.std.proofs.lemmas.List.{at_drop_more}
use Rattle.std.proofs.lemmas.Result.{err_from_is_err_and}
use Rattle.pl_outside.proofs.Pieces.{writing-more, writing-stop, writing-over}
use Rattle.pl_outside.proofs.parts.write_pieces.Goals as goal

pub returns-in_err-write_bytes : goal.returns-in_err-write_bytes
returns-in_err-write_bytes g c =
    let next = at_drop_more (λ (ps : List (Bor (List ℕ))). flat_map (λ p. p.now) ps) c.args.pieces.now c.loop-piece.piece-index _ c.loop-piece-test.true in
    let p = err_from_is_err_and c.from_residual.result c.from_residual.ensures.1 in
    rw (p.1, p.2)
    (writing-stop _ _ (writing-over next c.loop-piece.invariant) (rw c.as_bytes.ensures.value at c.in_err-write_bytes.ensures.writes))

pub loop-piece-preserved : goal.loop-piece-preserved
loop-piece-preserved g c =
    let next = at_drop_more (λ (ps : List (Bor (List ℕ))). flat_map (λ p. p.now) ps) c.args.pieces.now c.loop-piece.piece-index _ c.loop-piece-test.true in
    writing-more _ _ (writing-over next c.loop-piece.invariant) (rw c.as_bytes.ensures.value at c.in_ok-write_bytes.ensures.writes)
