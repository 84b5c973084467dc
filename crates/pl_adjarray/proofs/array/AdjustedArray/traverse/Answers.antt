use Rattle.std.proofs.Common.{inl, ◌≡◌, ◌+◌, length, subst, ap, ◌∙◌, sym, arith}
use Rattle.pl_spec.specs.Limits.{saturated}
use Rattle.pl_adjarray.specs.Buffered.{Buffered, AreSeen, HasCells, applied_at}
use Rattle.pl_adjarray.specs.Inside.{IsReadyBuffer, buffered_of}
use Rattle.pl_adjarray.proofs.ColumnWorlds.{own_cell}
use Rattle.pl_adjarray.proofs.Slides.{raw_at_first, none_applied}
use Rattle.pl_adjarray.proofs.array.AdjustedArray.traverse.Goals as goal

pub invariant_of-result : goal.invariant_of-result
invariant_of-result c =
    let b = buffered_of c.self.inside in
    let ready : IsReadyBuffer b = c.self.invariant in
    let long : length c.fill_column.new.into ≡ length c.args.scratch.now = c.fill_column.auto.into in
    let at : c.self.inside.first ≡ c.args.self.now.first = ap (λ (b : Buffered). b.first) c.self.view_is in
    let P : Buffered → Type 0 = λ b. AreSeen b c.fill_column.new.into c.self.inside.first in
    let C : Buffered → Type 0 = λ b. HasCells b c.fill_column.new.into in
    let Q : Buffered → Type 0 = λ b. saturated 0 ≡ saturated (applied_at b c.self.inside.first) in
    record {
      buffer = record {
        seen = subst P c.self.view_is (raw_at_first b ready c.fill_column.new.into
            (λ i j h k. c.fill_column.ensures.values i j h k ∙ own_cell b.days b.bars b.adjustments _ b.column (b.first + j)));
        cells = subst C c.self.view_is c.fill_column.ensures.cells;
        size = long ∙ c.requires.room;
        from = omega arith;
        to = omega arith;
        tally = subst Q c.self.view_is (ap saturated (sym (none_applied b ready)));
      };
      some = c.requires.some;
      most = c.requires.most;
      place = inl at;
    }

pub returns-clause-none : goal.returns-clause-none
returns-clause-none c = subst (λ (b : Buffered). applied_at b b.first ≡ 0) c.self.view_is (none_applied (buffered_of c.self.inside) c.self.invariant)
