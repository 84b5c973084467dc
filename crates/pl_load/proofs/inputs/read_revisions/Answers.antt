use Rattle.std.proofs.Common.{refl}
use Rattle.std.proofs.lemmas.Result.{err_from_is_err_and}
use Rattle.pl_words.specs.declared.request.InputFile.TheVariants as files
use Rattle.pl_load.specs.Work.{revisions_rule}
use Rattle.pl_load.specs.Held.{revisions_in}
use Rattle.pl_load.proofs.FileReads.{not-asked, read-passes, read-stops, read-fails, reader-tells}
use Rattle.pl_load.proofs.RevisionReads.{are-added, are-refused}
use Rattle.pl_load.proofs.inputs.read_revisions.Goals as goal

pub returns-in-None-clause-read : goal.returns-in-None-clause-read
returns-in-None-clause-read g c = rw c.in-None.is (not-asked refl refl)

pub returns-in_err-bytes-in-Some-clause-read : goal.returns-in_err-bytes-in-Some-clause-read
returns-in_err-bytes-in-Some-clause-read g c =
    let p = err_from_is_err_and c.from_residual.result c.from_residual.ensures.1 in
    rw (c.in-Some.is, p.1, p.2) (read-fails files.Revisions (revisions_rule c.args.sessions.now c.args.assets.now) _ _ c.in_err-bytes-in-Some.ensures.read)

pub returns-in_err-add_revisions-in-Some-clause-read : goal.returns-in_err-add_revisions-in-Some-clause-read
unfolding revisions_rule
returns-in_err-add_revisions-in-Some-clause-read g c =
    let p = err_from_is_err_and c.from_residual-in_err-add_revisions-in-Some.result c.from_residual-in_err-add_revisions-in-Some.ensures.1 in
    let exact = rw c.deref.ensures.value at c.in_err-add_revisions-in-Some.ensures.exact in
    let tells = reader-tells files.Revisions _ _ p.0 p.2.is (are-refused _ _ _ _ _ exact) in
    rw (c.in-Some.is, p.1)
    (read-stops files.Revisions (revisions_rule c.args.sessions.now c.args.assets.now) _ p.0 c.in_ok-bytes-in-Some.ensures.read c.in_ok-bytes-in-Some.ensures.within tells p.2.inside)

pub returns-in_ok-add_revisions-in-Some-clause-read : goal.returns-in_ok-add_revisions-in-Some-clause-read
unfolding revisions_rule revisions_in
returns-in_ok-add_revisions-in-Some-clause-read g c =
    let added = are-added _ _ _ _ _ (rw c.deref.ensures.value at c.in_ok-add_revisions-in-Some.ensures.exact) in
    rw c.in-Some.is
    (read-passes files.Revisions (revisions_rule c.args.sessions.now c.args.assets.now) _ _ c.in_ok-bytes-in-Some.ensures.read c.in_ok-bytes-in-Some.ensures.within
    (rw added.read refl) (rw added.read added.added))
