use Rattle.std.proofs.Common.{rules, ◌<◌, ◌+◌, ◌-◌, ◌*◌, subst, sym, ◌∙◌, ap, arith, w64, FitsSigned, get_or, pos, length}
use Rattle.std.proofs.lemmas.Int.{to_z-of_z}
use Rattle.pl_spec.specs.Cells.{is_true}
use Rattle.pl_exec.specs.ChunkInputs.{IsMaskLent, node_at, passes, task_at}
use Rattle.pl_exec.proofs.Courses.{masked_by}
use Rattle.pl_exec.proofs.Held.{cell_within, cell_is}
use Rattle.pl_exec.proofs.term_session.passes.Goals as goal

pub offset_bounds-array-i : goal.offset_bounds-array-i
offset_bounds-array-i c =
    let m = masked_by (task_at c.args.term_session.now) (node_at c.args.term_session.now).mask c.in-Some.array (subst (IsMaskLent (task_at c.args.term_session.now) (node_at c.args.term_session.now).mask) c.in-Some.is c.requires.mask) in
    let r = c.requires.term_session.ready.mask m.0 m.1.0 in
    let l : c.args.i * c.in-Some.array.count + (c.args.term_session.now.session - c.in-Some.array.low) < length c.in-Some.array.cells.now
    = cell_within (task_at c.args.term_session.now) m.0 _ m.1.1 c.args.i c.args.term_session.now.session c.requires.asset (let e = r.early in omega arith) c.requires.term_session.late in
    search (rules, l)

pub bounds-array-i : goal.bounds-array-i
bounds-array-i c =
    let m = masked_by (task_at c.args.term_session.now) (node_at c.args.term_session.now).mask c.in-Some.array (subst (IsMaskLent (task_at c.args.term_session.now) (node_at c.args.term_session.now).mask) c.in-Some.is c.requires.mask) in
    let r = c.requires.term_session.ready.mask m.0 m.1.0 in
    cell_within (task_at c.args.term_session.now) m.0 _ m.1.1 c.args.i c.args.term_session.now.session c.requires.asset (let e = r.early in omega arith) c.requires.term_session.late

pub returns-in-Some : goal.returns-in-Some
returns-in-Some c =
    let m = masked_by (task_at c.args.term_session.now) (node_at c.args.term_session.now).mask c.in-Some.array (subst (IsMaskLent (task_at c.args.term_session.now) (node_at c.args.term_session.now).mask) c.in-Some.is c.requires.mask) in
    let r = c.requires.term_session.ready.mask m.0 m.1.0 in
    let f : FitsSigned w64 (get_or c.in-Some.array.cells.now (c.args.i * c.in-Some.array.count + (c.args.term_session.now.session - c.in-Some.array.low)) (pos 0)) = search rules in
    let one = simp to_z-of_z at c.is_one.ensures in
    one
    ∙ ap is_true (cell_is (task_at c.args.term_session.now) m.0 _ m.1.1 c.args.i c.args.term_session.now.session c.requires.asset (let e = r.early in omega arith) c.requires.term_session.late)
    ∙ sym (ap (λ o. passes (task_at c.args.term_session.now) o c.args.i c.args.term_session.now.session) m.1.0)
