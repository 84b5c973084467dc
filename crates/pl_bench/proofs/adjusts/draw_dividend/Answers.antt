use Rattle.std.proofs.Common.{rules, ◌≡◌, ◌-◌, ◌∙◌, ap, ℕ, pos, ◌-ℤ◌, arith, FitsSigned, to_z, of_z, w64}
use Rattle.std.proofs.lemmas.Int.{ints, to_z-of_z}
use Rattle.pl_bench.specs.Draws.{number_at}
use Rattle.pl_bench.proofs.Sequences.{drawn-next}
use Rattle.pl_bench.proofs.AdjustRows.{dividend-made}
use Rattle.pl_bench.proofs.adjusts.draw_dividend.Goals as goal

pub returns-clause-row : goal.returns-clause-row
returns-clause-row c =
    let s = c.args.draws.now in
    let third = drawn-next s 2 c.draw_adjust-row.new.draws c.draw.new.self c.draw_adjust-row.ensures.draws c.draw.ensures.state in
    let part = c.draw.ensures.number ∙ ap (λ (n : ℕ). number_at n 30) third in
    let fi : FitsSigned w64 c.draw_adjust-row.result.id = search rules in
    let fe : FitsSigned w64 c.draw_adjust-row.result.effective = search rules in
    let fd : FitsSigned w64 c.draw_adjust-row.result.den = search rules in
    let fs : FitsSigned w64 c.draw_adjust-row.result.sid = search rules in
    let num : to_z w64 (of_z w64 (pos 1000 -ℤ to_z w64 (of_z w64 c.from.result))) ≡ pos (1000 - c.draw.result) = omega (arith, ints, c.from.ensures, c.draw.ensures.within) in
    let fa : FitsSigned w64 c.args.id = search rules in
    rw (num, to_z-of_z w64 _ fi, to_z-of_z w64 _ fe, to_z-of_z w64 _ fd, to_z-of_z w64 _ fs)
    (dividend-made s c.draw.result c.args.id c.draw_adjust-row.result part (rw (to_z-of_z w64 c.args.id fa) at c.draw_adjust-row.ensures.row))

pub returns-clause-draws : goal.returns-clause-draws
returns-clause-draws c =
    drawn-next c.args.draws.now 2 c.draw_adjust-row.new.draws c.draw.new.self c.draw_adjust-row.ensures.draws c.draw.ensures.state
