use Rattle.std.proofs.Common.{◌≡◌, ◌+◌, ◌-◌, length, pos, subst, ap, ◌∙◌, arith, rules, FitsSigned, w32, Some, slice_get}
use Rattle.std.proofs.lemmas.Int.{to_z-of_z}
use Rattle.pl_adjarray.specs.Buffered.{Buffered}
use Rattle.pl_adjarray.specs.Inside.{IsReadyBuffer}
use Rattle.pl_adjarray.proofs.Slides.{next_seen, next_applied, next_cut, next_cost}
use Rattle.pl_adjarray.proofs.sliding.step.Goals as goal

pub returns : goal.returns
returns g c =
    let b = c.args.array.now in
    let d = c.args.session in
    let held = c.requires.seen in
    let ready : IsReadyBuffer b = subst IsReadyBuffer c.array.view_is c.array.invariant in
    let today : FitsSigned w32 c.day-today.result = search rules in
    let next_day : FitsSigned w32 c.day-next_day.result = search rules in
    let first : c.array.inside.first ≡ b.first = ap (λ (b : Buffered). b.first) c.array.view_is in
    let T : Buffered → Type 0 = λ b. slice_get b.days d ≡ Some c.day-today.result in
    let N : Buffered → Type 0 = λ b. slice_get b.days (d + 1) ≡ Some c.day-next_day.result in
    let at_d : slice_get b.days d ≡ Some c.day-today.result = subst T c.array.view_is c.day-today.ensures.exact in
    let at_next : slice_get b.days (d + 1) ≡ Some c.day-next_day.result = subst N c.array.view_is c.day-next_day.ensures.exact in
    let older : d - c.array.inside.first + 1 ≡ d - b.first + 1 = ap (λ n. d - n + 1) first in
    let gain = next_applied b ready d c.day-today.result c.day-next_day.result held.from c.requires.more at_d at_next (pos 0) in
    let moved = simp to_z-of_z at c.slide_all.ensures.moved in
    let tally = rw older at (simp to_z-of_z at (c.slide_all.ensures.tally (pos 0))) in
    let cost = rw older at (simp to_z-of_z at (c.slide_all.ensures.cost (pos 0))) in
    let long : length c.slide_all.new.scratch ≡ length c.args.scratch.now = c.slide_all.auto.scratch in
    let low = held.from in
    let more = c.requires.more in
    record {
      seen = record {
        seen = next_seen b ready d c.day-today.result c.day-next_day.result held.from c.requires.more at_d at_next
            c.args.scratch.now c.slide_all.new.scratch held.seen
            (λ bar i j h k day. moved bar i j h (rw older k) day) (λ i j h k m. c.slide_all.ensures.kept i j h (rw older k) m);
        cells = c.slide_all.ensures.cells;
        size = long ∙ held.size;
        from = omega arith;
        to = omega arith;
        tally = next_cut _ _ _ _ _ held.tally tally gain;
      };
      cost = next_cost _ _ _ _ _ cost gain;
    }
