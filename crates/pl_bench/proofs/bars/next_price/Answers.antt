use Rattle.std.proofs.Common.{rules, ◌≡◌, pos, ◌+ℤ◌, ◌-ℤ◌, arith, FitsSigned, to_z, of_z, w64}
use Rattle.std.proofs.lemmas.Int.{ints, to_z-of_z}
use Rattle.pl_bench.proofs.Prices.{change, changed, sum-fits, next-low, next-high}
use Rattle.pl_bench.proofs.bars.next_price.Goals as goal
use Rattle.pl_bench.proofs.bars.next_price.Goals.{After-change_of}

-- the price that has grown
grown : (c : After-change_of) → to_z w64 (of_z w64 (to_z w64 (of_z w64 c.args.price) +ℤ to_z w64 (of_z w64 c.change_of.result))) ≡ c.args.price +ℤ change c.args.price c.args.draw
grown c =
    let fa : FitsSigned w64 c.args.price = search rules in
    let fr : FitsSigned w64 c.change_of.result = search rules in
    let off : to_z w64 (of_z w64 (to_z w64 (of_z w64 c.from.result) -ℤ pos 200)) ≡ pos c.args.draw -ℤ pos 200 = omega (arith, ints, c.from.ensures) in
    let sum = sum-fits c.args.price c.change_of.result c.requires.price c.change_of.ensures.small in
    let v = rw (to_z-of_z w64 c.args.price fa, off) at c.change_of.ensures.value in
    rw (to_z-of_z w64 c.args.price fa, to_z-of_z w64 c.change_of.result fr, to_z-of_z w64 (c.args.price +ℤ c.change_of.result) sum)
    (changed c.args.price c.change_of.result c.args.draw v)

pub returns-then-grown-lt-MILLION : goal.returns-then-grown-lt-MILLION
returns-then-grown-lt-MILLION c = next-low c.args.price _ c.args.draw (grown c.before) c.if-grown-lt-MILLION.true

pub returns-else-grown-lt-MILLION : goal.returns-else-grown-lt-MILLION
returns-else-grown-lt-MILLION c = next-high c.args.price _ c.args.draw (grown c.before) c.if-grown-lt-MILLION.false
