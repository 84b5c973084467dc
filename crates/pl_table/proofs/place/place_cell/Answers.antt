use Rattle.std.proofs.Common.{rules, ◌≡◌, ◌+◌, ◌-◌, ℕ, List, length, subst, arith, FitsSigned, w64}
use Rattle.std.proofs.lemmas.Int.{to_z-of_z}
use borrow.Rule.Slice.PartMut.{put_mid}
use Rattle.pl_table.specs.Places.{IsPlaced}
use Rattle.pl_table.proofs.Places.{placed-part}
use Rattle.pl_table.proofs.place.place_cell.Goals as goal

pub returns-clause-text : goal.returns-clause-text
returns-clause-text c =
    let bytes = c.args.bytes.now in
    let room = c.cell_in_front.new.room in
    let here = c.args.at in
    let fits : FitsSigned w64 c.args.cell = c.ranges.cell in
    let text = simp to_z-of_z at c.cell_in_front.ensures.text in
    let long : length room ≡ here + 32 - here = search rules in
    subst (λ (t : List ℕ). IsPlaced bytes (put_mid here (here + 32 - here) bytes room) here t (here + c.cell_in_front.result)) text
    (placed-part bytes room here (here + 32 - here) c.cell_in_front.result (omega (arith, c.requires.room)) long (omega (arith, c.cell_in_front.ensures.within)))
