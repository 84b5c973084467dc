use Rattle.std.proofs.Common.{◌≡◌, arith, sym, ◌∙◌, ap, Some, length, get_or, true}
use Rattle.std.specs.Str.Parse.{digits_value}
use Rattle.pl_fixed.specs.Reading.{is_numeral}
use Rattle.pl_fixed.proofs.DigitLemmas.{is_numeral-digits, is_numeral-some}
use Rattle.pl_fixed.proofs.SidLemmas.{decimal-value_of}
use Rattle.pl_derivation.proofs.Numbers.{is_numeral-decimal, digits_value-decimal_of, leading_zero}
use Rattle.pl_derivation.proofs.number.read_whole.Goals as goal
use Rattle.pl_derivation.proofs.number.read_whole.Goals.{else-text-eq48-via-then-text-eq48+else-text-gt1, else-text-eq48-via-else-text-eq48}

pub returns-then-not-is_numeral-clause-only : goal.returns-then-not-is_numeral-clause-only
returns-then-not-is_numeral-clause-only c = λ sid small e. let t = is_numeral-decimal _ sid small e in cc

pub returns-then-text-gt1-clause-only : goal.returns-then-text-gt1-clause-only
returns-then-text-gt1-clause-only c = λ sid small e. absurd (omega (arith, leading_zero _ sid small e))

pub value_of-value-requires : goal.value_of-value-requires
value_of-value-requires c = is_numeral-digits _ (sym c.is_numeral.ensures ∙ c.if-not-is_numeral.false)

pub returns-then-value-lt-NUMBER_END-clause-found : goal.returns-then-value-lt-NUMBER_END-clause-found
returns-then-value-lt-NUMBER_END-clause-found c =
    let b = c.args.text.now in
    let numeral : is_numeral b ≡ true = sym c.is_numeral.ensures ∙ c.if-not-is_numeral.false in
    let value : c.value_of-value.result ≡ digits_value 10 b = omega (arith, c.value_of-value.ensures) in
    let lead : get_or b 0 0 ≡ 48 → length b ≡ 1 = λ z. elim c.else-text-eq48.branch [
      | else-text-eq48-via-then-text-eq48+else-text-gt1 w ↦ omega (arith, is_numeral-some b numeral)
      | else-text-eq48-via-else-text-eq48 w ↦ absurd (w.if-text-eq48.false z)
    ] in
    (omega arith, rw value (sym (decimal-value_of b (is_numeral-digits b numeral) (is_numeral-some b numeral) lead (omega arith))))

pub returns-then-value-lt-NUMBER_END-clause-only : goal.returns-then-value-lt-NUMBER_END-clause-only
returns-then-value-lt-NUMBER_END-clause-only c = λ sid small e.
    ap Some (omega (arith, digits_value-decimal_of _ sid small e, c.value_of-value.ensures))

pub returns-else-value-lt-NUMBER_END-clause-only : goal.returns-else-value-lt-NUMBER_END-clause-only
returns-else-value-lt-NUMBER_END-clause-only c = λ sid small e.
    absurd (omega (arith, digits_value-decimal_of _ sid small e, c.value_of-value.ensures))
