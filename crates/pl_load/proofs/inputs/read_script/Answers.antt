use Rattle.std.proofs.Common.{◌≡◌, refl}
use Rattle.std.proofs.lemmas.Result.{err_from_is_err_and}
use Rattle.pl_syntax.specs.Said.{Spelled, said}
use Rattle.pl_syntax.specs.Scripts.{parsed}
use Rattle.pl_syntax.proofs.TextsSaid.{spells-said}
use Rattle.pl_words.specs.declared.request.InputFile.TheVariants as files
use Rattle.pl_load.specs.Held.{script_in}
use Rattle.pl_load.specs.Work.{syntax_rule}
use Rattle.pl_load.proofs.FileReads.{read-passes, read-stops, read-fails}
use Rattle.pl_load.proofs.ScriptReads.{error-tells}
use Rattle.pl_load.proofs.inputs.read_script.Goals as goal

pub returns-in_err-bytes : goal.returns-in_err-bytes
returns-in_err-bytes g c =
    let p = err_from_is_err_and c.from_residual.result c.from_residual.ensures.1 in
    rw (p.1, p.2) (read-fails files.Pipeline syntax_rule _ _ c.in_err-bytes.ensures.read)

pub returns-in_err-parse : goal.returns-in_err-parse
returns-in_err-parse g c =
    let p = err_from_is_err_and c.from_residual-in_err-parse.result c.from_residual-in_err-parse.ensures.1 in
    let cause = rw c.deref.ensures.value at c.in_err-parse.ensures.cause in
    rw p.1
    (read-stops files.Pipeline syntax_rule _ p.0 c.in_ok-bytes.ensures.read c.in_ok-bytes.ensures.within
    (error-tells _ _ p.0 p.2.is cause c.in_ok-bytes.ensures.within) p.2.inside)

pub returns : goal.returns
unfolding syntax_rule script_in
returns g c =
    let read : said c.in_ok-bytes.bytes.items ≡ Spelled (parsed c.in_ok-parse.field-0) = spells-said _ _ (rw c.deref.ensures.value at c.in_ok-parse.ensures.found) in
    read-passes files.Pipeline syntax_rule _ c.in_ok-parse.field-0 c.in_ok-bytes.ensures.read c.in_ok-bytes.ensures.within (rw read refl) (rw read refl)
