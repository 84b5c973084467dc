use Rattle.std.proofs.Common.{◌≡◌, ◌<◌, length, arith, rules, subst, sym}
use Rattle.std.proofs.lemmas.List.Elements.{All-more}
use Rattle.std.proofs.lemmas.Option.{get_or_from_slice_get}
use Rattle.std.proofs.lemmas.Result.{err_from_is_err_and}
use Rattle.pl_outside.proofs.Pieces.{writing-more, writing-stop, writing-over}
use Rattle.pl_spec.specs.declared.BarRow.{BarRow}
use Rattle.pl_packed.specs.Summed.{AreSums}
use Rattle.pl_packed.proofs.BarReads.{words-more, left-is}
use Rattle.pl_packed.proofs.packing.write_bars.Goals as goal

pub returns-in_err-write_words-clause-writes : goal.returns-in_err-write_words-clause-writes
returns-in_err-write_words-clause-writes g c =
    let row = c.row.result in
    let own = get_or_from_slice_get c.args.bars.now c.bars.i row row c.row.ensures.bar in
    let left = left-is c.args.bars.now c.bars.i row (omega (arith, c.bars-test.true, c.len-i-end.ensures.length)) own in
    let p = err_from_is_err_and c.from_residual.result c.from_residual.ensures.1 in
    rw (p.1, p.2)
    (writing-stop _ _ (writing-over left c.bars.invariant.writing) (rw c.words_of-words.ensures at c.in_err-write_words.ensures))

pub bars-preserved : goal.bars-preserved
bars-preserved g c =
    let row = c.row.result in
    let within : c.bars.i < length c.args.bars.now = omega (arith, c.bars-test.true, c.len-i-end.ensures.length) in
    let own = get_or_from_slice_get c.args.bars.now c.bars.i row row c.row.ensures.bar in
    let left = left-is c.args.bars.now c.bars.i row within own in
    let cells : length row.cells ≡ 5 = search rules in
    record {
      writing = writing-more _ _ (writing-over left c.bars.invariant.writing) (rw c.words_of-words.ensures at c.in_ok-write_words.ensures);
      sums = subst (AreSums c.and_six-sums.result) (words-more c.args.bars.now c.bars.i row within own)
          (rw c.words_of-words.ensures at (c.and_six-sums.ensures _ c.bars.invariant.sums));
      five = All-more (λ (b : BarRow). length b.cells ≡ 5) c.args.bars.now c.bars.i row within c.bars.invariant.five
          (subst (λ (b : BarRow). length b.cells ≡ 5) (sym own) cells);
    }
