use Rattle.std.proofs.Common.{rules, ◌≡◌, ◌∙◌, ◌^◌, ◌≤◌, arith, ℤ, ◌*ℤ◌, FitsSigned, w64}
use Rattle.std.specs.Int.{w128}
use Rattle.std.specs.Int.RustNames.{unsigned_abs}
use Rattle.std.proofs.lemmas.Int.{to_z-of_z}
use Rattle.pl_spec.specs.Rounding.{div_round}
use Rattle.pl_bench.proofs.Prices.{part-small, product-fits, small-fits}
use Rattle.pl_bench.proofs.bars.change_of.Goals as goal

-- what is divided is the product, and what comes of it is small
abbrev Divided : (price parts result : ℤ) → Type 0
Divided price parts result = (result ≡ div_round (price *ℤ parts) 10000) × (unsigned_abs result ≤ 10 ^ 15)

divided : (c : goal.After-div_round) → Divided c.args.price c.args.parts c.div_round.result
divided c =
    let fa : FitsSigned w64 c.args.price = search rules in
    let fb : FitsSigned w64 c.args.parts = search rules in
    let wa : FitsSigned w128 c.args.price = search rules in
    let wb : FitsSigned w128 c.args.parts = search rules in
    let a = c.from.ensures ∙ to_z-of_z w64 _ fa in
    let b = c.from-2.ensures ∙ to_z-of_z w64 _ fb in
    let product = product-fits c.args.price c.args.parts c.requires.price c.requires.parts in
    let v = rw (a, b, to_z-of_z w128 c.args.price wa, to_z-of_z w128 c.args.parts wb, to_z-of_z w128 (c.args.price *ℤ c.args.parts) product) at c.div_round.ensures.value in
    (v, rw v (part-small (10 ^ 15) c.args.price c.args.parts c.requires.price (omega arith) c.requires.parts))

pub overflow_cast-result : goal.overflow_cast-result
overflow_cast-result c =
    let d : Divided c.args.price c.args.parts c.div_round.result = divided c in
    let f = small-fits c.div_round.result d.1 in
    rw (to_z-of_z w128 _ f.1) f.0

pub returns-clause-value : goal.returns-clause-value
returns-clause-value c =
    let d : Divided c.args.price c.args.parts c.div_round.result = divided c in
    let f = small-fits c.div_round.result d.1 in
    rw (to_z-of_z w128 _ f.1, to_z-of_z w64 _ f.0) d.0

pub returns-clause-small : goal.returns-clause-small
returns-clause-small c =
    let d : Divided c.args.price c.args.parts c.div_round.result = divided c in
    let f = small-fits c.div_round.result d.1 in
    rw (to_z-of_z w128 _ f.1, to_z-of_z w64 _ f.0) d.1
