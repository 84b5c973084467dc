use Rattle.std.proofs.Common.{refl, sym}
use Rattle.std.proofs.lemmas.Result.{err_from_is_err_and}
use Rattle.pl_words.specs.declared.request.InputFile.TheVariants as files
use Rattle.pl_load.specs.Work.{labels_rule}
use Rattle.pl_load.specs.Held.{labels_in}
use Rattle.pl_load.proofs.FileReads.{not-asked, read-passes, read-stops, read-fails, reader-tells}
use Rattle.pl_load.proofs.inputs.read_labels.Goals as goal

pub returns-in-None-clause-read : goal.returns-in-None-clause-read
returns-in-None-clause-read g c = rw c.in-None.is (not-asked refl (sym c.none.ensures))

pub returns-in_err-bytes-in-Some-clause-read : goal.returns-in_err-bytes-in-Some-clause-read
returns-in_err-bytes-in-Some-clause-read g c =
    let p = err_from_is_err_and c.from_residual.result c.from_residual.ensures.1 in
    rw (c.in-Some.is, p.1, p.2) (read-fails files.Labels (labels_rule c.args.assets.now) _ _ c.in_err-bytes-in-Some.ensures.read)

pub returns-in_err-read-in-Some-clause-read : goal.returns-in_err-read-in-Some-clause-read
unfolding labels_rule
returns-in_err-read-in-Some-clause-read g c =
    let p = err_from_is_err_and c.from_residual-in_err-read-in-Some.result c.from_residual-in_err-read-in-Some.ensures.1 in
    let tells = reader-tells files.Labels _ _ p.0 p.2.is (rw c.deref.ensures.value at c.in_err-read-in-Some.ensures.exact) in
    rw (c.in-Some.is, p.1)
    (read-stops files.Labels (labels_rule c.args.assets.now) _ p.0 c.in_ok-bytes-in-Some.ensures.read c.in_ok-bytes-in-Some.ensures.within tells p.2.inside)

pub returns-in_ok-read-in-Some-clause-read : goal.returns-in_ok-read-in-Some-clause-read
unfolding labels_rule labels_in
returns-in_ok-read-in-Some-clause-read g c =
    let exact = rw c.deref.ensures.value at c.in_ok-read-in-Some.ensures.exact in
    rw c.in-Some.is
    (read-passes files.Labels (labels_rule c.args.assets.now) _ c.in_ok-read-in-Some.field-0 c.in_ok-bytes-in-Some.ensures.read c.in_ok-bytes-in-Some.ensures.within (rw exact refl) (rw exact refl))
