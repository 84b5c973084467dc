use Rattle.std.proofs.Common.{◌≡◌, rules, arith, w64, w32, FitsSigned}
use Rattle.std.proofs.lemmas.Int.{to_z-of_z}
use Rattle.pl_spec.specs.Rounding.{IsCell}
use Rattle.pl_numbers.specs.Numbers.{number_on}
use Rattle.pl_values.proofs.Written.{one_given}
use Rattle.pl_daily.proofs.leaves.lent_row.Goals as goal

pub loop-i-preserved : goal.loop-i-preserved
loop-i-preserved c =
    let day : FitsSigned w32 c.args.day = c.ranges.day in
    let u : FitsSigned w64 c.number_under.result = search rules in
    let value = simp to_z-of_z at c.number_under.ensures.value in
    let so_far = simp to_z-of_z at c.loop-i.invariant.each in
    rw (to_z-of_z w64 _ u, to_z-of_z w32 _ day) (record {
      each = one_given (λ k x. x ≡ number_on c.args.figure c.args.numbers.now.rows c.args.name.now k c.args.day) c.loop-i.i c.loop-i.out c.number_under.result so_far (omega (arith, c.loop-i-test.true)) value;
      cells = one_given (λ k x. IsCell x) c.loop-i.i c.loop-i.out c.number_under.result c.loop-i.invariant.cells (omega (arith, c.loop-i-test.true)) c.number_under.ensures.cell;
    })

pub returns-clause-each : goal.returns-clause-each
returns-clause-each c i h =
    let day : FitsSigned w32 c.args.day = c.ranges.day in
    let all = simp to_z-of_z at c.loop-i.invariant.each in
    all i (omega (arith, h, c.loop-i-test.false, c.loop-i.auto.out))
