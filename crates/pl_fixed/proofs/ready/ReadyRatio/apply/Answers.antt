use Rattle.std.proofs.Common.{rules, ◌≡◌, ◌<◌, ◌≤◌, ◌∙◌, ap, arith, w64, FitsSigned, unsigned_abs}
use Rattle.std.proofs.lemmas.Int.{to_z-of_z}
use Rattle.std.proofs.lemmas.Nat.{mul-le}
use Rattle.pl_spec.specs.Rounding.{LIMIT, scaled}
use Rattle.pl_fixed.specs.Ready.{IsReadyRatio}
use Rattle.pl_fixed.proofs.ScaledCells.{rounded_size, scaled_by_size, signed_cell, ready-product}
use Rattle.pl_fixed.proofs.ready.ReadyRatio.apply.Goals as goal

pub overflow_mul-size : goal.overflow_mul-size
overflow_mul-size g c = omega (arith, ready-product c.self.inside c.self.invariant c.unsigned_abs-size.result c.if-size-self.true)

pub overflow_mul-size-then-size-self : goal.overflow_mul-size-then-size-self
overflow_mul-size-then-size-self g c = omega (arith, ready-product c.self.inside c.self.invariant c.unsigned_abs-size.result c.if-size-self.true)

pub overflow_add-size : goal.overflow_add-size
overflow_add-size g c = omega (arith, ready-product c.self.inside c.self.invariant c.unsigned_abs-size.result c.if-size-self.true)

pub returns-then-rounded-clause-value : goal.returns-then-rounded-clause-value
returns-then-rounded-clause-value g c =
    let f = c.self.inside in
    let ready : IsReadyRatio f = c.self.invariant in
    let fits : FitsSigned w64 c.with_sign.result = search rules in
    let cell : FitsSigned w64 c.args.cell = c.ranges.cell in
    let size = simp to_z-of_z at c.unsigned_abs-size.ensures.value in
    let one : 1 ≤ f.num = omega (arith, ready.num, ready.ratio) in
    let den : 0 < f.ratio.den = omega (arith, ready.ratio) in
    let product = mul-le f.most 1 f.most f.num (omega arith) one in
    let few : unsigned_abs c.args.cell ≤ 9000000000000000000 = omega (arith, size, product, ready.most, c.if-size-self.true) in
    let rounded : c.quotient-rounded.result ≡ rounded_size (unsigned_abs c.args.cell) f.ratio.num f.ratio.den
    = c.quotient-rounded.ensures ∙ ap (λ s. rounded_size s f.num f.den) size ∙ ap (λ n. rounded_size (unsigned_abs c.args.cell) n f.den) ready.num ∙ ap (λ d. rounded_size (unsigned_abs c.args.cell) f.ratio.num d) ready.den in
    let within : c.quotient-rounded.result ≤ LIMIT = omega (arith, c.if-rounded.true) in
    to_z-of_z w64 _ fits ∙ simp to_z-of_z at c.with_sign.ensures
    ∙ scaled_by_size f.ratio c.args.cell c.quotient-rounded.result den few rounded within
    ∙ ap (λ ratio. scaled ratio c.args.cell) c.self.view_is

pub returns-then-rounded-clause-cell : goal.returns-then-rounded-clause-cell
returns-then-rounded-clause-cell g c =
    let fits : FitsSigned w64 c.with_sign.result = search rules in
    let within : c.quotient-rounded.result ≤ LIMIT = omega (arith, c.if-rounded.true) in
    let cell : FitsSigned w64 c.args.cell = c.ranges.cell in
    rw (to_z-of_z w64 _ fits, simp to_z-of_z at c.with_sign.ensures) (signed_cell c.args.cell c.quotient-rounded.result within)

pub returns-clause-cell : goal.returns-clause-cell
returns-clause-cell g c =
    let fits : FitsSigned w64 c.apply.result = search rules in
    rw (to_z-of_z w64 _ fits) c.apply.ensures.cell
