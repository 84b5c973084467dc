use Rattle.std.proofs.Common.{length, take, drop, arith, sym, ap, subst, length-drop}
use Rattle.pl_syntax.specs.Text.{after, Read}
use Rattle.pl_syntax.proofs.Steps.{Gap, gap}
use Rattle.pl_syntax.proofs.text.Text.skip_gap.Goals as goal

pub loop-count-preserved : goal.loop-count-preserved
loop-count-preserved c =
    let p = c.loop-count.self.place in
    let bs = c.loop-count.self.bytes.now in
    let n = c.loop-count.count in
    let here : Gap p bs n = subst (λ k. Gap p bs k) (sym c.loop-count.invariant.count) (gap p bs) in
    let q = c.skip.new.self.place in
    let rest = c.skip.new.self.bytes.now in
    record {
      reads = λ ts tail x.
          let y : Read (after (take n bs) p) (drop n bs) ts tail = subst (λ z. Read z (drop n bs) ts tail) c.skip.ensures.place (subst (λ z. Read q z ts tail) c.skip.ensures.bytes x) in
          c.loop-count.invariant.reads ts tail (here.reads (omega arith) ts tail y);
      count = c.gap_length-count-in-loop-count.ensures;
      fewer = omega (arith, c.loop-count.invariant.fewer, length-drop n bs, ap length c.skip.ensures.bytes);
      room = c.skip.ensures.room;
    }
