use Rattle.std.proofs.Common.{w64, arith, unsigned_abs, ◌∙◌}
use Rattle.std.proofs.lemmas.Int.{to_z-of_z, ints, quot_is, quot_fits}
use Rattle.pl_fixed.proofs.RoundingLemmas.{quotient_nearest, quotient_above, quotient_below, above_zero, div_round-fits, divided_by, rest_within, quotient_below-fits, quotient_above-fits}
use Rattle.pl_fixed.proofs.rounding.short_quotient.Goals as goal

pub overflow_sub-unsigned_abs : goal.overflow_sub-unsigned_abs
overflow_sub-unsigned_abs c =
    let divided = divided_by w64 c.args.a c.args.b _ _ c.ranges.a c.ranges.b c.requires c.unsigned_abs-remainder.ensures.value c.unsigned_abs.ensures.value in
    rest_within _ _ _ _ divided

pub overflow_sub-result : goal.overflow_sub-result
overflow_sub-result c =
    let divided = divided_by w64 c.args.a c.args.b _ _ c.ranges.a c.ranges.b c.requires c.unsigned_abs-remainder.ensures.value c.unsigned_abs.ensures.value in
    quotient_below-fits w64 _ _ _ _ divided c.if-remainder-unsigned_abs.false (omega (arith, ints)) c.ranges.a c.ranges.b

pub overflow_add-result : goal.overflow_add-result
overflow_add-result c =
    let divided = divided_by w64 c.args.a c.args.b _ _ c.ranges.a c.ranges.b c.requires c.unsigned_abs-remainder.ensures.value c.unsigned_abs.ensures.value in
    quotient_above-fits w64 _ _ _ _ divided c.if-remainder-unsigned_abs.false (omega (arith, ints)) c.ranges.a c.ranges.b

pub returns-then-remainder-unsigned_abs : goal.returns-then-remainder-unsigned_abs
returns-then-remainder-unsigned_abs c =
    let fa = c.ranges.a in
    let fb = c.ranges.b in
    let divided = divided_by w64 c.args.a c.args.b _ _ c.ranges.a c.ranges.b c.requires c.unsigned_abs-remainder.ensures.value c.unsigned_abs.ensures.value in
    quot_is w64 _ _ fa fb (quot_fits w64 _ _ fa c.requires) ∙ quotient_nearest _ _ _ _ divided c.if-remainder-unsigned_abs.true

pub returns-then-a-lt0 : goal.returns-then-a-lt0
returns-then-a-lt0 c =
    let fa = c.ranges.a in
    let fb = c.ranges.b in
    let divided = divided_by w64 c.args.a c.args.b _ _ c.ranges.a c.ranges.b c.requires c.unsigned_abs-remainder.ensures.value c.unsigned_abs.ensures.value in
    let next = quotient_below _ _ _ _ divided c.if-remainder-unsigned_abs.false (omega (arith, ints)) in
    rw (quot_is w64 _ _ fa fb (quot_fits w64 _ _ fa c.requires), next)
    (to_z-of_z w64 _ (div_round-fits w64 c.args.a _ (above_zero c.args.b c.requires) fa))

pub returns-else-a-lt0 : goal.returns-else-a-lt0
returns-else-a-lt0 c =
    let fa = c.ranges.a in
    let fb = c.ranges.b in
    let divided = divided_by w64 c.args.a c.args.b _ _ c.ranges.a c.ranges.b c.requires c.unsigned_abs-remainder.ensures.value c.unsigned_abs.ensures.value in
    let next = quotient_above _ _ _ _ divided c.if-remainder-unsigned_abs.false (omega (arith, ints)) in
    rw (quot_is w64 _ _ fa fb (quot_fits w64 _ _ fa c.requires), next)
    (to_z-of_z w64 _ (div_round-fits w64 c.args.a _ (above_zero c.args.b c.requires) fa))
