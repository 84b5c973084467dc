use Rattle.std.proofs.Common.{◌∙◌, arith, ap, get_or, length, pos, List, ℤ, w64, FitsSigned}
use Rattle.std.proofs.lemmas.Int.{to_z-of_z}
use Rattle.std.proofs.lemmas.List.{get_or-replicate}
use Rattle.pl_values.proofs.Rows.{constant-given}
use Rattle.pl_exec.proofs.Courses.{course_node}
use Rattle.pl_exec.proofs.leaves.constant_lane.Goals as goal

pub returns : goal.returns
returns c j h =
    let value : FitsSigned w64 c.args.value = c.ranges.value in
    let filled = simp to_z-of_z at (c.fill.ensures.after (λ y same. same)) in
    let same = ap (λ (l : List ℤ). get_or l j (pos 0)) filled ∙ get_or-replicate (length c.args.out.now) j c.args.value (pos 0) (omega (arith, h, c.requires.long)) in
    constant-given _ _ _ _ _ (course_node c.args.lane.now.course.now c.requires.lane.course) c.args.lane.now.i _ _ c.args.value c.requires.kind same
