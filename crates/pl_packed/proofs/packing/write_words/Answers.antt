use Rattle.std.proofs.Common.{ℕ, List}
use Rattle.std.proofs.lemmas.List.{at_drop_more}
use Rattle.std.proofs.lemmas.Result.{err_from_is_err_and}
use Rattle.pl_outside.proofs.Pieces.{writing-more, writing-stop, writing-over}
use Rattle.pl_packed.specs.Packed.{words_bytes}
use Rattle.pl_packed.proofs.packing.write_words.Goals as goal

pub returns-in_err-write_bytes : goal.returns-in_err-write_bytes
returns-in_err-write_bytes g c =
    let next = at_drop_more (λ (words : List ℕ). words_bytes words) c.args.words.now c.loop-word.word-index _ c.loop-word-test.true in
    let p = err_from_is_err_and c.from_residual.result c.from_residual.ensures.1 in
    rw (p.1, p.2)
    (writing-stop _ _ (writing-over next c.loop-word.invariant) (rw c.eight_bytes.ensures at c.in_err-write_bytes.ensures.writes))

pub loop-word-preserved : goal.loop-word-preserved
loop-word-preserved g c =
    let next = at_drop_more (λ (words : List ℕ). words_bytes words) c.args.words.now c.loop-word.word-index _ c.loop-word-test.true in
    writing-more _ _ (writing-over next c.loop-word.invariant) (rw c.eight_bytes.ensures at c.in_ok-write_bytes.ensures.writes)
