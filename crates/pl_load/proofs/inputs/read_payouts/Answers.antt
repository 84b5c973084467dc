use Rattle.std.proofs.Common.{refl}
use Rattle.std.proofs.lemmas.Result.{err_from_is_err_and}
use Rattle.pl_words.specs.declared.request.InputFile.TheVariants as files
use Rattle.pl_load.specs.Work.{payouts_rule}
use Rattle.pl_load.specs.Held.{payouts_in}
use Rattle.pl_load.proofs.FileReads.{read-passes, read-stops, read-fails, reader-tells}
use Rattle.pl_load.proofs.inputs.read_payouts.Goals as goal

pub returns-in_err-bytes-clause-read : goal.returns-in_err-bytes-clause-read
returns-in_err-bytes-clause-read g c =
    let p = err_from_is_err_and c.from_residual.result c.from_residual.ensures.1 in
    rw (p.1, p.2) (read-fails files.Payouts (payouts_rule c.args.assets.now) _ _ c.in_err-bytes.ensures.read)

pub returns-in_err-read-clause-read : goal.returns-in_err-read-clause-read
unfolding payouts_rule
returns-in_err-read-clause-read g c =
    let p = err_from_is_err_and c.from_residual-in_err-read.result c.from_residual-in_err-read.ensures.1 in
    let tells = reader-tells files.Payouts _ _ p.0 p.2.is (rw c.deref.ensures.value at c.in_err-read.ensures.exact) in
    rw p.1 (read-stops files.Payouts (payouts_rule c.args.assets.now) _ p.0 c.in_ok-bytes.ensures.read c.in_ok-bytes.ensures.within tells p.2.inside)

pub returns-clause-read : goal.returns-clause-read
unfolding payouts_rule payouts_in
returns-clause-read g c =
    let exact = rw c.deref.ensures.value at c.in_ok-read.ensures.exact in
    read-passes files.Payouts (payouts_rule c.args.assets.now) _ c.in_ok-read.field-0 c.in_ok-bytes.ensures.read c.in_ok-bytes.ensures.within (rw exact refl) (rw exact refl)
