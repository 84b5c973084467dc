use Rattle.std.proofs.Common.{refl}
use Rattle.std.proofs.lemmas.Result.{err_from_is_err_and}
use Rattle.pl_words.specs.declared.request.InputFile.TheVariants as files
use Rattle.pl_load.specs.Work.{results_rule}
use Rattle.pl_load.specs.Held.{results_in}
use Rattle.pl_load.proofs.FileReads.{not-asked, read-passes, read-stops, read-fails, reader-tells}
use Rattle.pl_load.proofs.inputs.read_results.Goals as goal

pub returns-in-None-clause-read : goal.returns-in-None-clause-read
returns-in-None-clause-read g c = rw c.in-None.is (not-asked refl refl)

pub returns-in_err-bytes-in-Some-clause-read : goal.returns-in_err-bytes-in-Some-clause-read
returns-in_err-bytes-in-Some-clause-read g c =
    let p = err_from_is_err_and c.from_residual.result c.from_residual.ensures.1 in
    rw (c.in-Some.is, p.1, p.2) (read-fails files.Results (results_rule c.args.numbers c.args.assets.now) _ _ c.in_err-bytes-in-Some.ensures.read)

pub returns-in-Ok-clause-read : goal.returns-in-Ok-clause-read
unfolding results_rule results_in
returns-in-Ok-clause-read g c =
    let exact = rw c.deref.ensures.value at c.in-Ok.ensures.exact in
    rw c.in-Some.is
    (read-passes files.Results (results_rule c.args.numbers c.args.assets.now) _ c.in-Ok.both c.in_ok-bytes-in-Some.ensures.read c.in_ok-bytes-in-Some.ensures.within (rw exact refl) (rw exact refl))

pub returns-clause-read : goal.returns-clause-read
unfolding results_rule
returns-clause-read g c =
    let told = c.numbers_fault.ensures in
    let tells = reader-tells files.Results _ _ c.numbers_fault.result told.is (rw c.deref.ensures.value at c.in-Err.ensures.exact) in
    rw c.in-Some.is
    (read-stops files.Results (results_rule c.args.numbers c.args.assets.now) _ c.numbers_fault.result c.in_ok-bytes-in-Some.ensures.read c.in_ok-bytes-in-Some.ensures.within tells told.inside)
