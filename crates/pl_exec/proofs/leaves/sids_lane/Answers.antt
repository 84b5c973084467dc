use Rattle.std.proofs.Common.{rules, ◌≡◌, ◌∙◌, arith, ap, sym, get_or, length, pos, List, ℤ, w64, FitsSigned}
use Rattle.std.proofs.lemmas.Int.{to_z-of_z}
use Rattle.std.proofs.lemmas.List.{get_or-replicate}
use Rattle.pl_cross.specs.Arrays.{sid_in}
use Rattle.pl_values.specs.Families.{sid_flag}
use Rattle.pl_values.proofs.Rows.{sid-given}
use Rattle.pl_exec.specs.Tasks.{sids_in}
use Rattle.pl_exec.specs.ChunkInputs.{node_in, task_in}
use Rattle.pl_exec.proofs.Courses.{course_node}
use Rattle.pl_exec.proofs.Places.{sid_told}
use Rattle.pl_exec.proofs.leaves.sids_lane.Goals as goal

pub returns : goal.returns
returns c j h =
    let value : FitsSigned w64 c.sids_value.result = search rules in
    let filled = simp to_z-of_z at (c.fill.ensures.after (λ y same. same)) in
    let same = ap (λ (l : List ℤ). get_or l j (pos 0)) filled ∙ get_or-replicate (length c.args.out.now) j c.sids_value.result (pos 0) (omega (arith, h, c.requires.long)) in
    let sid = sid_told c.args.lane.now.course.now.chunk.now.world.assets.now c.args.lane.now.course.now.chunk.now.cols.now c.args.lane.now.i c.requires.lane.asset c.sid-sid.result c.sid-sid.ensures in
    let flag : c.sids_value.result ≡ sid_flag (node_in c.args.lane.now.course.now).kind (sid_in (sids_in (task_in c.args.lane.now.course.now)) c.args.lane.now.i)
    = c.sids_value.ensures ∙ ap (λ q. sid_flag q c.sid-sid.result) c.kind_of.ensures ∙ ap (sid_flag (node_in c.args.lane.now.course.now).kind) (sym sid) in
    sid-given _ _ _ _ _ (course_node c.args.lane.now.course.now c.requires.lane.course) c.args.lane.now.i _ _ c.requires.kind (same ∙ flag)
