use Rattle.std.proofs.Common.{◌≡◌, ◌+◌, ◌<◌, ◌^◌, arith, rules, w64, subst}
use Rattle.std.specs.Int.{trailing_zeros}
use Rattle.pl_records.proofs.Marks.{AreMarks, marks_new, first_mark, marks_rest, cut_to_mark, cut_to_end}
use Rattle.pl_records.proofs.plain.split_part.Goals as goal

pub lows-init : goal.lows-init
lows-init c = record {
  most = omega arith;
  marks = marks_new c.args.text.now c.args.at _ c.requires.room c.marks_of-marks.ensures;
  begun = c.requires.begun;
}

pub cut_at-cut-requires-clause-inside : goal.cut_at-cut-requires-clause-inside
cut_at-cut-requires-clause-inside c =
    let fits : c.lows.marks < 2 ^ 64 = search rules in
    let first = first_mark c.args.text.now c.lows.next (c.args.at + 16) c.lows.marks c.lows.invariant.marks (omega arith) fits in
    omega (arith, first.within, c.requires.room)

pub cut_at-cut-requires-clause-begun : goal.cut_at-cut-requires-clause-begun
cut_at-cut-requires-clause-begun c =
    let fits : c.lows.marks < 2 ^ 64 = search rules in
    let first = first_mark c.args.text.now c.lows.next (c.args.at + 16) c.lows.marks c.lows.invariant.marks (omega arith) fits in
    record {
      few = c.lows.invariant.begun.few;
      cut = cut_to_mark c.args.text.now _ c.lows.begun.start c.lows.next (c.args.at + 16) (trailing_zeros w64 c.lows.marks) c.requires.room first c.lows.invariant.begun.cut;
    }

pub lows-preserved : goal.lows-preserved
lows-preserved c =
    let fits : c.lows.marks < 2 ^ 64 = search rules in
    let first = first_mark c.args.text.now c.lows.next (c.args.at + 16) c.lows.marks c.lows.invariant.marks (omega arith) fits in
    record {
      most = omega (arith, first.within);
      marks = marks_rest c.args.text.now c.lows.next (c.args.at + 16) c.lows.marks (trailing_zeros w64 c.lows.marks) c.lows.invariant.marks;
      begun = rw c.in-On.is at c.cut_at-cut.ensures;
    }

pub lows-smaller : goal.lows-smaller
lows-smaller c =
    let fits : c.lows.marks < 2 ^ 64 = search rules in
    let first = first_mark c.args.text.now c.lows.next (c.args.at + 16) c.lows.marks c.lows.invariant.marks (omega arith) fits in
    omega (arith, first.within)

pub returns-in-End : goal.returns-in-End
returns-in-End c = rw c.in-End.is at c.cut_at-cut.ensures

pub returns : goal.returns
returns c =
    let none : c.lows.marks ≡ 0 = omega arith in
    record {
      few = c.lows.invariant.begun.few;
      cut = cut_to_end c.args.text.now _ c.lows.begun.start c.lows.next (c.args.at + 16) c.lows.invariant.most c.requires.room
          (subst (AreMarks c.args.text.now c.lows.next (c.args.at + 16)) none c.lows.invariant.marks) c.lows.invariant.begun.cut;
    }
