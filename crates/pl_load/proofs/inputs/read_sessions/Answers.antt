use Rattle.std.proofs.Common.{refl}
use Rattle.std.proofs.lemmas.Result.{err_from_is_err_and}
use Rattle.pl_words.specs.declared.request.InputFile.TheVariants as files
use Rattle.pl_load.specs.Work.{sessions_rule}
use Rattle.pl_load.specs.Held.{days_in}
use Rattle.pl_load.proofs.FileReads.{read-passes, read-stops, read-fails, reader-tells}
use Rattle.pl_load.proofs.inputs.read_sessions.Goals as goal

pub returns-in_err-bytes : goal.returns-in_err-bytes
returns-in_err-bytes g c =
    let p = err_from_is_err_and c.from_residual.result c.from_residual.ensures.1 in
    rw (p.1, p.2) (read-fails files.Sessions sessions_rule _ _ c.in_err-bytes.ensures.read)

pub returns-in_err-read : goal.returns-in_err-read
unfolding sessions_rule
returns-in_err-read g c =
    let p = err_from_is_err_and c.from_residual-in_err-read.result c.from_residual-in_err-read.ensures.1 in
    let tells = reader-tells files.Sessions _ _ p.0 p.2.is (rw c.deref.ensures.value at c.in_err-read.ensures.exact) in
    rw p.1 (read-stops files.Sessions sessions_rule _ p.0 c.in_ok-bytes.ensures.read c.in_ok-bytes.ensures.within tells p.2.inside)

pub returns : goal.returns
unfolding sessions_rule days_in
returns g c =
    let exact = rw c.deref.ensures.value at c.in_ok-read.ensures.exact in
    read-passes files.Sessions sessions_rule _ c.in_ok-read.field-0 c.in_ok-bytes.ensures.read c.in_ok-bytes.ensures.within (rw exact refl) (rw exact refl)
