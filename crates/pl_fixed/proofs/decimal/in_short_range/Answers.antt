use Rattle.std.proofs.Common.{rules, ◌∙◌, sym, ap, arith, FitsSigned, w64}
use Rattle.std.specs.Prelude.{Ok}
use Rattle.std.proofs.lemmas.Int.{to_z-of_z}
use Rattle.pl_fixed.proofs.ReadingLemmas.{in_range-signed_large, in_range-signed_cell}
use Rattle.pl_fixed.proofs.decimal.in_short_range.Goals as goal

pub returns-then-magnitude : goal.returns-then-magnitude
returns-then-magnitude c = sym (in_range-signed_large c.args.negative c.args.magnitude (omega (arith, c.if-magnitude.true)))

pub returns-else-magnitude : goal.returns-else-magnitude
returns-else-magnitude c =
    let fits : FitsSigned w64 c.short_signed.result = search rules in
    ap Ok (to_z-of_z w64 _ fits ∙ c.short_signed.ensures)
    ∙ sym (in_range-signed_cell c.args.negative c.args.magnitude (omega (arith, c.if-magnitude.false)))
