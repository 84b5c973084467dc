use Rattle.std.proofs.Common.{◌≡◌, true, false, List, [], ◌∷◌, length, arith, sym, ap, ◌∙◌, length-append}
use Rattle.pl_spec.specs.declared.BarRow.{BarRow}
use Rattle.pl_packed.proofs.BarReads.{read-more, stops-at}
use Rattle.pl_packed.proofs.unpacking.read_bars.Goals as goal

pub returns-then-not-is_next-clause-fault : goal.returns-then-not-is_next-clause-fault
returns-then-not-is_next-clause-fault c =
    stops-at c.args.cols c.args.sessions c.args.count c.bars.bars.items c.bars.sums c.args.after.now c.bar_at-bar.result c.bars.i _
    c.requires.cols c.requires.sessions c.bars.invariant.count c.bars-test.true (omega arith) c.bars.invariant.read
    c.bar_at-bar.ensures.small c.bar_at-bar.ensures.bytes
    (λ next.
    let t = c.is_next.ensures.1 (rw c.deref.ensures.value next) in
    let bad : false ≡ true = sym c.if-not-is_next.true ∙ t in
    cc)

pub bars-preserved : goal.bars-preserved
bars-preserved c =
    let items = c.in_ok-push.ensures.items in
    let next = rw c.deref.ensures.value at (c.is_next.ensures.0 c.if-not-is_next.false) in
    let read = read-more c.args.cols c.args.sessions c.bars.bars.items c.bars.sums c.and_six-sums.result c.args.after.now c.bar_at-bar.result c.bars.i c.args.count
    c.requires.sessions c.requires.few c.bars-test.true c.bars.invariant.count c.bars.invariant.read next c.bar_at-bar.ensures.bytes
    (λ words h. rw c.words_of.ensures at (c.and_six-sums.ensures words h)) in
    record {
      read = rw items read;
      count = ap (λ (s : List BarRow). length s) items ∙ omega (arith, length-append c.bars.bars.items (c.bar_at-bar.result ∷ []), c.bars.invariant.count);
    }
