use Rattle.std.proofs.Common.{◌≡◌, ◌∙◌, pos, subst, sym, true}
use Rattle.pl_spec.specs.World.{exists}
use Rattle.pl_cross.specs.Arrays.{sid_in}
use Rattle.pl_exec.specs.declared.term_session.TermSession.{TermSession}
use Rattle.pl_exec.specs.Tasks.{sids_in}
use Rattle.pl_exec.specs.ChunkInputs.{IsMaskLent, node_in, task_at, task_in}
use Rattle.pl_exec.proofs.Lives.{kept_throughout}
use Rattle.pl_exec.proofs.keep.is_kept_throughout.Goals as goal

pub returns-then-lives : goal.returns-then-lives
returns-then-lives c t j h =
    kept_throughout c.args.lane.now.course.now c.requires.lane.course c.args.lane.now.i c.requires.lane.asset (subst (IsMaskLent (task_in c.args.lane.now.course.now) (node_in c.args.lane.now.course.now).mask) c.in-None.is c.requires.lane.lent.mask)
    (subst (λ (u : TermSession). exists (task_at u).world (sid_in (sids_in (task_at u)) c.args.lane.now.i) (pos u.session) ≡ true) c.on_session.ensures.is (sym c.lives.ensures ∙ c.if-lives.true))
    (subst (λ (u : TermSession). exists (task_at u).world (sid_in (sids_in (task_at u)) c.args.lane.now.i) (pos u.session) ≡ true) c.on_session-then-lives.ensures.is (sym c.lives-then-lives.ensures ∙ t))
    j h
