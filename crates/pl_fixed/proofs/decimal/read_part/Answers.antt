use Rattle.std.proofs.Common.{◌≡◌, ◌<◌, ◌∙◌, sym, ap, inl, inr, refl, length, min, arith}
use Rattle.std.specs.Str.Parse.{AllDigits, digits_value}
use Rattle.std.proofs.lemmas.Int.Digits.{digits_value-lt}
use Rattle.pl_spec.specs.Decimals.{Decimal}
use Rattle.pl_fixed.proofs.DigitLemmas.{AllDigits-front}
use Rattle.pl_fixed.proofs.ReadingLemmas.{full_front, part-digits, part-read, part-refused}
use Rattle.pl_fixed.specs.Reading.{front_digits}
use Rattle.pl_fixed.specs.declared.digits.TheConstants.{MOST_VALUE}
use Rattle.pl_fixed.proofs.decimal.read_part.Goals as goal
use Rattle.pl_fixed.proofs.decimal.read_part.Goals.{then-digits-eq0-via-then-digits-eq0, then-digits-eq0-via-else-digits-eq0+then-digits-fraction}

pub returns-then-digits-eq0 : goal.returns-then-digits-eq0
returns-then-digits-eq0 c = λ whole units.
    let count = c.front_number-digits.ensures.count in
    sym (part-refused c.args.negative whole c.args.fraction.now (elim c.then-digits-eq0.branch [
      | then-digits-eq0-via-then-digits-eq0 w ↦ inl (sym count ∙ w.if-digits-eq0.true)
      | then-digits-eq0-via-else-digits-eq0+then-digits-fraction w ↦ inr (rw (← count) w.if-digits-fraction.true)
    ]))

pub returns-in-Some : goal.returns-in-Some
returns-in-Some c = λ whole units.
    let ds = c.args.fraction.now in
    let d : Decimal = record { negative = c.args.negative; whole = whole; fraction = ds } in
    let two = c.in-Some.ensures in
    let some : 0 < length ds = omega (arith, two.count) in
    c.judge.ensures d two.digits refl units (omega (arith, two.number, two.small)) (sym two.count)
    ∙ sym (part-read c.args.negative whole ds some two.digits)

pub returns-in-Some-six_digits : goal.returns-in-Some-six_digits
returns-in-Some-six_digits c = λ whole units.
    let ds = c.args.fraction.now in
    let d : Decimal = record { negative = c.args.negative; whole = whole; fraction = ds } in
    let six = c.in-Some-six_digits.ensures in
    let some : 0 < length ds = omega (arith, six.count) in
    c.judge-in-Some-six_digits.ensures d six.digits refl units (omega (arith, six.number, six.small)) (sym six.count)
    ∙ sym (part-read c.args.negative whole ds some six.digits)

pub judge-requires-2-clause-part : goal.judge-requires-2-clause-part
judge-requires-2-clause-part c =
    let front = front_digits c.args.fraction.now in
    rw c.front_number-digits.ensures.count
    (omega (arith, c.front_number-digits.ensures.number, digits_value-lt 10 front (AllDigits-front c.args.fraction.now)))

pub returns : goal.returns
returns c = λ whole units.
    let ds = c.args.fraction.now in
    let count = c.front_number-digits.ensures.count in
    let same : front_digits ds ≡ ds = full_front ds (omega (arith, count, c.if-digits-fraction.false)) in
    let digits : AllDigits 10 ds = part-digits ds same in
    let d : Decimal = record { negative = c.args.negative; whole = whole; fraction = ds } in
    let some : 0 < length ds = omega (arith, count, ap length same, c.if-digits-eq0.false) in
    c.judge-2.ensures d digits refl units (c.front_number-digits.ensures.number ∙ ap (λ x. min MOST_VALUE (digits_value 10 x)) same) (count ∙ ap length same)
    ∙ sym (part-read c.args.negative whole ds some digits)
