use Rattle.std.proofs.Common.{◌≡◌, ◌*◌, true, false, ap, sym, ◌∙◌}
use Rattle.pl_packed.specs.Packed.{seal}
use Rattle.pl_packed.specs.Summed.{bytes_of}
use Rattle.pl_packed.proofs.BarReads.{is-damaged, is-whole, rest-whole}
use Rattle.pl_packed.proofs.unpacking.read_counted.Goals as goal

pub returns-then-not-is_seal : goal.returns-then-not-is_seal
returns-then-not-is_seal c = λ bytes e.
    let read = rw (c.len.ensures.length, c.len-2.ensures.length) at c.in_ok-read.ensures.read in
    let sums = c.in_ok-read.read.sums in
    is-damaged c.args.sessions.now c.args.assets.now bytes c.args.after.now c.args.count c.in_ok-read.read.bars.items sums (e, c.requires.room)
    c.in_ok-read.ensures.count read
    (λ s.
    let t = c.is_seal.ensures.1 (rest-whole (48 * c.args.count) c.args.after.now ∙ s ∙ ap (λ front. seal front (bytes_of sums)) (sym c.requires.front)) in
    let bad : false ≡ true = sym c.if-not-is_seal.true ∙ t in
    cc)

pub returns : goal.returns
returns c = λ bytes e.
    let read = rw (c.len.ensures.length, c.len-2.ensures.length) at c.in_ok-read.ensures.read in
    let sums = c.in_ok-read.read.sums in
    rw c.from_rows.ensures
    (is-whole c.args.sessions.now c.args.assets.now bytes c.args.after.now c.args.count c.in_ok-read.read.bars.items sums (e, c.requires.room)
    c.in_ok-read.ensures.count read
    (sym (rest-whole (48 * c.args.count) c.args.after.now) ∙ c.is_seal.ensures.0 c.if-not-is_seal.false ∙ ap (λ front. seal front (bytes_of sums)) c.requires.front))
