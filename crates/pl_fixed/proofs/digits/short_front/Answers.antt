use Rattle.std.proofs.Common.{◌≡◌, ◌+◌, ◌*◌, ◌≤◌, ◌∙◌, sym, ap, length, take, length-take, take_all, arith}
use Rattle.std.specs.Str.Parse.{digits_value}
use Rattle.pl_fixed.proofs.DigitLemmas.{short_number, front-all, front-at, one_more_digit}
use Rattle.pl_fixed.proofs.digits.short_front.Goals as goal

pub returns-then-not-is_ascii_digit-clause-count : goal.returns-then-not-is_ascii_digit-clause-count
returns-then-not-is_ascii_digit-clause-count c =
    let front = front-at c.args.b.now c.loop-i.i c.loop-i-test.true c.loop-i.invariant.digits (sym c.is_ascii_digit.ensures.value ∙ c.if-not-is_ascii_digit.true) in
    omega (arith, ap length front, length-take c.loop-i.i c.args.b.now)

pub returns-then-not-is_ascii_digit-clause-number : goal.returns-then-not-is_ascii_digit-clause-number
returns-then-not-is_ascii_digit-clause-number c =
    let front = front-at c.args.b.now c.loop-i.i c.loop-i-test.true c.loop-i.invariant.digits (sym c.is_ascii_digit.ensures.value ∙ c.if-not-is_ascii_digit.true) in
    c.loop-i.invariant.number ∙ ap (digits_value 10) front

pub overflow_mul-number : goal.overflow_mul-number
overflow_mul-number c =
    let small : length (take c.loop-i.i c.args.b.now) ≤ 18 = omega (arith, length-take c.loop-i.i c.args.b.now, c.requires) in
    omega (arith, short_number _ small c.loop-i.invariant.digits, c.loop-i.invariant.number)

pub overflow_add-number : goal.overflow_add-number
overflow_add-number c =
    let small : length (take c.loop-i.i c.args.b.now) ≤ 18 = omega (arith, length-take c.loop-i.i c.args.b.now, c.requires) in
    let digit = one_more_digit c.args.b.now c.loop-i.i c.loop-i-test.true c.loop-i.invariant.digits (sym c.is_ascii_digit.ensures.value ∙ c.if-not-is_ascii_digit.false) in
    omega (arith, short_number _ small c.loop-i.invariant.digits, c.loop-i.invariant.number, digit.small, c.from.ensures)

pub loop-i-preserved : goal.loop-i-preserved
loop-i-preserved c =
    let digit = one_more_digit c.args.b.now c.loop-i.i c.loop-i-test.true c.loop-i.invariant.digits (sym c.is_ascii_digit.ensures.value ∙ c.if-not-is_ascii_digit.false) in
    record {
      digits = digit.all;
      number = ap (λ n. n * 10 + c.from.result) c.loop-i.invariant.number ∙ ap (λ n. digits_value 10 (take c.loop-i.i c.args.b.now) * 10 + n) c.from.ensures ∙ sym digit.number;
    }

pub returns-clause-count : goal.returns-clause-count
returns-clause-count c =
    let whole : take c.loop-i.i c.args.b.now ≡ c.args.b.now = take_all c.loop-i.i c.args.b.now c.loop-i-test.false in
    ap length (front-all c.args.b.now (rw whole at c.loop-i.invariant.digits))

pub returns-clause-number : goal.returns-clause-number
returns-clause-number c =
    let whole : take c.loop-i.i c.args.b.now ≡ c.args.b.now = take_all c.loop-i.i c.args.b.now c.loop-i-test.false in
    c.loop-i.invariant.number ∙ ap (digits_value 10) (whole ∙ front-all c.args.b.now (rw whole at c.loop-i.invariant.digits))
