use Rattle.std.proofs.Common.{◌≡◌, replicate, ap, ◌∙◌, arith, w64, FitsSigned}
use Rattle.std.proofs.lemmas.Int.{to_z-of_z}
use Rattle.circular_buffer.specs.Buffer.{buffer}
use Rattle.pl_daily.proofs.Full.{rings_full}
use Rattle.pl_daily.proofs.rings.Rings.new.Goals as goal

pub returns-clause-items : goal.returns-clause-items
returns-clause-items c =
    let fits : FitsSigned w64 c.args.cell = c.ranges.cell in
    let all : c.loop.counter ≡ c.args.assets = omega arith in
    let items = simp to_z-of_z at c.loop.invariant.items in
    items ∙ ap (λ n. replicate n (buffer (replicate c.args.capacity c.args.cell) c.args.capacity)) all

pub returns-clause-rings : goal.returns-clause-rings
returns-clause-rings c = rings_full c.args.assets c.args.capacity c.args.cell c.loop.rings.items (returns-clause-items c) c.requires
