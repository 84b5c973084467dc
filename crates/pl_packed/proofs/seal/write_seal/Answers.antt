use Rattle.std.proofs.lemmas.Result.{err_from_is_err_and}
use Rattle.pl_packed.proofs.Pieced.{writes-cut, writes-two}
use Rattle.pl_packed.proofs.seal.write_seal.Goals as goal

pub returns-in_err-write_bytes-2 : goal.returns-in_err-write_bytes-2
returns-in_err-write_bytes-2 g c =
    let p = err_from_is_err_and c.from_residual-in_err-write_bytes-2.result c.from_residual-in_err-write_bytes-2.ensures.1 in
    let first = rw c.eight_bytes.ensures at c.in_ok-write_bytes.ensures.writes in
    let second = rw c.eight_bytes-2.ensures at c.in_err-write_bytes-2.ensures.writes in
    rw (p.1, p.2) (writes-cut _ _ (writes-two _ _ first second))

pub returns : goal.returns
returns g c =
    let first = rw c.eight_bytes.ensures at c.in_ok-write_bytes.ensures.writes in
    let second = rw c.eight_bytes-2.ensures at c.in_ok-write_bytes-2.ensures.writes in
    let third = rw c.digest.ensures at c.write_bytes-3.ensures.writes in
    writes-two _ _ (writes-two _ _ first second) third
