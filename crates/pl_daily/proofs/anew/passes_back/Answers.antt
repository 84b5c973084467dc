use Rattle.std.proofs.Common.{◌≡◌, ◌∙◌, rules, arith, Some, FitsSigned, w64}
use Rattle.std.proofs.lemmas.Int.{to_z-of_z}
use Rattle.pl_daily.specs.TermDays.{node_at}
use Rattle.pl_daily.proofs.Renewed.{mask_passes}
use Rattle.pl_daily.proofs.anew.passes_back.Goals as goal

pub returns-in-Some : goal.returns-in-Some
returns-in-Some c =
    let t = c.args.term_day.now in
    let m = c.in-Some.mask.0 in
    let e : (node_at t).mask ≡ Some m = search rules in
    let fits : FitsSigned w64 c.cell_back.result = search rules in
    let value = c.cell_back.ensures.value in
    let test = simp to_z-of_z at c.is_one.ensures in
    λ v is within held.
    test ∙ mask_passes t v m c.args.i c.args.after c.cell_back.result is e (let s = held.session in omega (arith, within, s)) (value v (held.mask m e).0)
