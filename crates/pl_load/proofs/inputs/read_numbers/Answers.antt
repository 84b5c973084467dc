use Rattle.std.proofs.Common.{◌≡◌, ℕ, List, [], refl}
use Rattle.std.proofs.lemmas.Result.{err_from_is_err_and}
use Rattle.pl_spec.specs.Parts.{ColumnNumber}
use Rattle.pl_numbers.specs.Numbers.{NumberTable}
use Rattle.pl_words.specs.declared.request.InputFile.TheVariants as files
use Rattle.pl_load.specs.Work.{numbers_rule}
use Rattle.pl_load.specs.Held.{no_numbers, numbers_in}
use Rattle.pl_load.proofs.FileReads.{not-asked, read-passes, read-stops, read-fails, reader-tells}
use Rattle.pl_load.proofs.inputs.read_numbers.Goals as goal

no-table : (t : NumberTable) → t.names ≡ [] → t.rows ≡ [] → no_numbers ≡ t
no-table t names rows = same t.names t.rows names rows
  where
    same : (ns : List (List ℕ)) (rs : List ColumnNumber) → ns ≡ [] → rs ≡ [] → (let table : NumberTable = record { names = ns; rows = rs } in no_numbers ≡ table)
    same ns rs n r = rw (n, r) refl

pub returns-in-None-clause-read : goal.returns-in-None-clause-read
returns-in-None-clause-read g c = rw c.in-None.is (not-asked refl (no-table _ c.none.ensures.names c.none.ensures.rows))

pub returns-in_err-bytes-in-Some-clause-read : goal.returns-in_err-bytes-in-Some-clause-read
returns-in_err-bytes-in-Some-clause-read g c =
    let p = err_from_is_err_and c.from_residual.result c.from_residual.ensures.1 in
    rw (c.in-Some.is, p.1, p.2) (read-fails files.Numbers (numbers_rule c.args.assets.now) _ _ c.in_err-bytes-in-Some.ensures.read)

pub returns-in_err-read-in-Some-clause-read : goal.returns-in_err-read-in-Some-clause-read
unfolding numbers_rule
returns-in_err-read-in-Some-clause-read g c =
    let p = err_from_is_err_and c.from_residual-in_err-read-in-Some.result c.from_residual-in_err-read-in-Some.ensures.1 in
    let tells = reader-tells files.Numbers _ _ p.0 p.2.is (rw c.deref.ensures.value at c.in_err-read-in-Some.ensures.exact) in
    rw (c.in-Some.is, p.1)
    (read-stops files.Numbers (numbers_rule c.args.assets.now) _ p.0 c.in_ok-bytes-in-Some.ensures.read c.in_ok-bytes-in-Some.ensures.within tells p.2.inside)

pub returns-in_ok-read-in-Some-clause-read : goal.returns-in_ok-read-in-Some-clause-read
unfolding numbers_rule numbers_in
returns-in_ok-read-in-Some-clause-read g c =
    let exact = rw c.deref.ensures.value at c.in_ok-read-in-Some.ensures.exact in
    rw c.in-Some.is
    (read-passes files.Numbers (numbers_rule c.args.assets.now) _ c.in_ok-read-in-Some.field-0 c.in_ok-bytes-in-Some.ensures.read c.in_ok-bytes-in-Some.ensures.within (rw exact refl) (rw exact refl))
