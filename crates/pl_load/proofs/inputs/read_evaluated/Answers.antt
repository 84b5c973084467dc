use Rattle.std.proofs.Common.{◌≡◌, ℕ, List, Option, refl}
use Rattle.std.proofs.lemmas.Result.{err_from_is_err_and}
use Rattle.pl_syntax.specs.declared.script.Script.{Script}
use Rattle.pl_syntax.specs.Scripts.{parsed}
use Rattle.pl_terms.specs.Checked.{Parts, pipeline_of}
use Rattle.pl_load.specs.Held.{pipeline_in}
use Rattle.pl_load.proofs.ScriptReads.{evaluated-read, no-numbers, no-pipeline, stopped-before}
use Rattle.pl_load.proofs.inputs.read_evaluated.Goals as goal

abbrev Means : Option (List ℕ) → Parts → Type 0
Means held p = pipeline_in held ≡ pipeline_of p

pub returns-in_err-script : goal.returns-in_err-script
returns-in_err-script g c =
    let p = err_from_is_err_and c.from_residual.result c.from_residual.ensures.1 in
    rw (p.1, p.2) (stopped-before c.in_err-script.ensures _ (λ held. refl))

pub returns-in_err-checked : goal.returns-in_err-checked
returns-in_err-checked g c =
    let p = err_from_is_err_and c.from_residual-in_err-checked.result c.from_residual-in_err-checked.ensures.1 in
    rw p.1
    (stopped-before (no-pipeline (λ (s : Script). parsed s) Means _ p.0 c.in_ok-script.ensures c.in_err-checked.ensures.value p.2.is p.2.inside) _ (λ held. refl))

pub returns-in_err-judge_numbers : goal.returns-in_err-judge_numbers
returns-in_err-judge_numbers g c =
    let p = err_from_is_err_and c.from_residual-in_err-judge_numbers.result c.from_residual-in_err-judge_numbers.ensures.1 in
    let judged = c.in_err-judge_numbers.ensures in
    rw (p.1, p.2)
    (no-numbers (λ (s : Script). parsed s) (λ (p : Parts). pipeline_of p) Means _ _ _ c.in_ok-script.ensures c.in_ok-checked.ensures.value (rw c.numbers_named.ensures at judged.ends) judged.risen)

pub returns : goal.returns
returns g c =
    evaluated-read (λ (s : Script). parsed s) (λ (p : Parts). pipeline_of p) _ _ c.in_ok-script.ensures c.in_ok-checked.ensures.value (rw c.numbers_named.ensures at c.in_ok-judge_numbers.ensures.ends)
