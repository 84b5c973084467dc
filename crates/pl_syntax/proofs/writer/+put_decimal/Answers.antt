use Rattle.std.proofs.Common.{◌+◌, ◌%◌, ◌/◌, ◌∷◌, ◌++◌, [], ap, sym, ◌∙◌, append_assoc}
use Rattle.std.specs.Fmt.{decimal}
use Rattle.std.proofs.lemmas.Fmt.{decimal_digit, decimal_step}
use Rattle.std.proofs.lemmas.Result.{on_ok_weaker}
use Rattle.pl_syntax.proofs.writer.+put_decimal.Goals as goal

pub returns-then-number-lt10 : goal.returns-then-number-lt10
returns-then-number-lt10 t c = rw (decimal_digit c.args.number c.if-number-lt10.true) c.put.ensures

pub returns-in_ok-put_decimal : goal.returns-in_ok-put_decimal
returns-in_ok-put_decimal t c =
    let n = c.args.number in
    let last = (48 + n % 10) ∷ [] in
    on_ok_weaker c.put-else-number-lt10.result (λ e. e ∙ (ap (λ z. z ++ last) c.in_ok-put_decimal.ensures ∙ (append_assoc c.args.out.now.items (decimal (n / 10)) last ∙ ap (λ z. c.args.out.now.items ++ z) (sym (decimal_step n c.if-number-lt10.false c.ranges.number.fits))))) c.put-else-number-lt10.ensures
