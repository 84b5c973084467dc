use Rattle.std.proofs.Common.{◌++◌, flat_map, append_assoc, ap, sym, ◌∙◌}
use Rattle.std.proofs.lemmas.Result.{err_from_is_err_and}
use Rattle.pl_outside.proofs.Pieces.{writes-over}
use Rattle.pl_packed.specs.Packed.{words_of, words_bytes, sums_bytes, seal}
use Rattle.pl_packed.proofs.BarReads.{sums-bytes}
use Rattle.pl_packed.proofs.Pieced.{writes-cut, writes-two}
use Rattle.pl_packed.proofs.Rounds.{sealed-is}
use Rattle.pl_packed.proofs.packing.pack.Goals as goal

pub returns-in_err-write_bytes-clause-writes : goal.returns-in_err-write_bytes-clause-writes
returns-in_err-write_bytes-clause-writes g c =
    let p = err_from_is_err_and c.from_residual.result c.from_residual.ensures.1 in
    rw (p.1, p.2)
    (writes-over (sym (sealed-is c.args.head.now c.args.bars.now)) (writes-cut c.args.head.now _ c.in_err-write_bytes.ensures.writes))

pub returns-in_err-sums-clause-writes : goal.returns-in_err-sums-clause-writes
returns-in_err-sums-clause-writes g c =
    let head = c.args.head.now in
    let words = flat_map words_of c.args.bars.now in
    let end = seal head (sums_bytes words) in
    let p = err_from_is_err_and c.from_residual-in_err-sums.result c.from_residual-in_err-sums.ensures.1 in
    rw (p.1, p.2)
    (writes-over (append_assoc head (words_bytes words) end ∙ sym (sealed-is head c.args.bars.now))
    (writes-cut (head ++ words_bytes words) end (writes-two head (words_bytes words) c.in_ok-write_bytes.ensures.writes c.in_err-sums.ensures.writes)))

pub returns-clause-writes : goal.returns-clause-writes
returns-clause-writes g c =
    let head = c.args.head.now in
    let words = flat_map words_of c.args.bars.now in
    let end = seal head (sums_bytes words) in
    let same = ap (λ s. seal head s) (sums-bytes c.in_ok-sums.sums words c.in_ok-sums.ensures.sums) in
    writes-over (append_assoc head (words_bytes words) end ∙ sym (sealed-is head c.args.bars.now))
    (writes-two (head ++ words_bytes words) end (writes-two head (words_bytes words) c.in_ok-write_bytes.ensures.writes c.in_ok-sums.ensures.writes)
    (writes-over same c.write_seal.ensures))
