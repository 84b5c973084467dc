use Rattle.std.proofs.Common.{refl}
use Rattle.std.proofs.lemmas.Result.{err_from_is_err_and}
use Rattle.pl_words.specs.declared.request.InputFile.TheVariants as files
use Rattle.pl_load.specs.Work.{lines_rule}
use Rattle.pl_load.specs.Held.{derivation_in}
use Rattle.pl_load.proofs.FileReads.{read-passes, read-stops, read-fails}
use Rattle.pl_load.proofs.DerivationReads.{lines-tell}
use Rattle.pl_load.proofs.inputs.read_derivation.Goals as goal

pub returns-in_err-bytes : goal.returns-in_err-bytes
returns-in_err-bytes g c =
    let p = err_from_is_err_and c.from_residual.result c.from_residual.ensures.1 in
    rw (p.1, p.2) (read-fails files.Derivation lines_rule _ _ c.in_err-bytes.ensures.read)

pub returns-in_err-read_lines : goal.returns-in_err-read_lines
unfolding lines_rule
returns-in_err-read_lines g c =
    let p = err_from_is_err_and c.from_residual-in_err-read_lines.result c.from_residual-in_err-read_lines.ensures.1 in
    let tells = lines-tell _ _ p.0 p.2.is (rw c.deref.ensures.value at c.in_err-read_lines.ensures.fault) in
    rw p.1 (read-stops files.Derivation lines_rule _ p.0 c.in_ok-bytes.ensures.read c.in_ok-bytes.ensures.within tells p.2.inside)

pub returns : goal.returns
unfolding lines_rule derivation_in
returns g c =
    let lines = rw c.deref.ensures.value at c.in_ok-read_lines.ensures.lines in
    read-passes files.Derivation lines_rule _ c.in_ok-read_lines.field-0 c.in_ok-bytes.ensures.read c.in_ok-bytes.ensures.within (rw lines refl) (rw lines refl)
