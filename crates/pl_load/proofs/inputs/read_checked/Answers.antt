use Rattle.std.proofs.Common.{refl}
use Rattle.std.proofs.lemmas.Result.{err_from_is_err_and}
use Rattle.pl_syntax.specs.declared.script.Script.{Script}
use Rattle.pl_syntax.specs.Scripts.{parsed}
use Rattle.pl_terms.specs.Checked.{Parts, pipeline_of}
use Rattle.pl_load.proofs.ScriptReads.{pipeline-read, no-pipeline, stopped-before}
use Rattle.pl_load.proofs.inputs.read_checked.Goals as goal

pub returns-in_err-script : goal.returns-in_err-script
returns-in_err-script g c =
    let p = err_from_is_err_and c.from_residual.result c.from_residual.ensures.1 in
    rw (p.1, p.2) (stopped-before c.in_err-script.ensures _ (λ held. refl))

pub returns-in_err-check : goal.returns-in_err-check
returns-in_err-check g c =
    let p = err_from_is_err_and c.from_residual-in_err-check.result c.from_residual-in_err-check.ensures.1 in
    rw p.1
    (no-pipeline (λ (s : Script). parsed s) _ _ p.0 c.in_ok-script.ensures c.in_err-check.ensures.value p.2.is p.2.inside)

pub returns : goal.returns
returns g c =
    pipeline-read (λ (s : Script). parsed s) (λ (p : Parts). pipeline_of p) _ c.in_ok-script.ensures c.in_ok-check.ensures.value
