use Rattle.std.proofs.Common.{◌++◌, ◌∷◌, [], List, ℤ, pos, get_or, sym, ap, ◌∙◌, append-nil, rules, FitsSigned, w64}
use Rattle.std.specs.List.{flat_map}
use Rattle.std.proofs.lemmas.Int.{to_z-of_z}
use Rattle.std.proofs.lemmas.List.{take_all}
use Rattle.pl_derivation.specs.Texts.{number_text}
use Rattle.pl_derivation.proofs.Printing.{numbers_next}
use Rattle.pl_derivation.proofs.print.put_numbers.Goals as goal

pub loop-number-init : goal.loop-number-init
loop-number-init c = sym (append-nil c.args.bytes.now.items)

pub loop-number-preserved : goal.loop-number-preserved
loop-number-preserved c =
    let x = get_or c.args.numbers.now c.loop-number.number-index (pos 0) in
    let fits : FitsSigned w64 x = search rules in
    let put = rw (to_z-of_z w64 x fits, c.loop-number.invariant) at c.in_ok-put_number.ensures in
    put ∙ numbers_next c.args.bytes.now.items c.args.numbers.now c.loop-number.number-index c.loop-number-test.true

pub returns : goal.returns
returns c =
    c.loop-number.invariant
    ∙ ap (λ (xs : List ℤ). c.args.bytes.now.items ++ flat_map (λ x. (32 ∷ []) ++ number_text x) xs) (take_all c.loop-number.number-index c.args.numbers.now c.loop-number-test.false)
