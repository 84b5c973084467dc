use Rattle.std.proofs.Common.{rules, w64, FitsSigned}
use Rattle.std.proofs.lemmas.Int.{to_z-of_z}
use Rattle.pl_exec.proofs.Courses.{course_session}
use Rattle.pl_exec.proofs.course.on_session.Goals as goal

pub returns-clause-term_session : goal.returns-clause-term_session
returns-clause-term_session c =
    let e : FitsSigned w64 c.args.course.now.empty = search rules in
    rw (to_z-of_z w64 _ e) (course_session c.args.course.now c.requires.course c.args.j c.requires.session)
