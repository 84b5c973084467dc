use Rattle.std.proofs.Common.{rules, ◌≡◌, ap, ◌∙◌, arith, w64, FitsSigned, pos}
use Rattle.std.proofs.lemmas.Int.{to_z-of_z}
use Rattle.pl_spec.specs.Cells.{is_true}
use Rattle.pl_spec.specs.World.{exists}
use Rattle.pl_pipeline.proofs.Cells.{is_true-truth}
use Rattle.pl_cross.specs.Arrays.{sid_in}
use Rattle.pl_values.proofs.Written.{one_given}
use Rattle.pl_exec.specs.Tasks.{sids_in}
use Rattle.pl_exec.specs.ChunkInputs.{task_at}
use Rattle.pl_exec.proofs.term_session.existing_row.Goals as goal

pub loop-i-preserved : goal.loop-i-preserved
loop-i-preserved c =
    let fits : FitsSigned w64 c.truth_of.result = search rules in
    rw (to_z-of_z w64 _ fits) (one_given (λ n x. is_true x ≡ exists (task_at c.args.term_session.now).world (sid_in (sids_in (task_at c.args.term_session.now)) n) (pos c.args.term_session.now.session)) c.loop-i.i c.loop-i.keep c.truth_of.result
    c.loop-i.invariant (omega (arith, c.loop-i-test.true)) (ap is_true c.truth_of.ensures ∙ is_true-truth c.exists.result ∙ c.exists.ensures))
