use Rattle.std.proofs.Common.{◌≡◌, ◌+◌, ◌∙◌, rules, sym, subst, slice_get, Some, w32, w64, FitsSigned}
use Rattle.std.proofs.lemmas.Int.{to_z-of_z}
use Rattle.pl_adjarray.specs.Buffered.{cell_at}
use Rattle.pl_adjarray.proofs.Puts.{put_effect}
use Rattle.pl_adjarray.proofs.sliding.change.Goals as goal

pub returns-then-is_same-clause-moved : goal.returns-then-is_same-clause-moved
returns-then-is_same-clause-moved g c bar j h day =
    let day_fits : FitsSigned w32 c.in-Overwrite.bar_day = search rules in
    let value_fits : FitsSigned w64 c.in-Overwrite.value = search rules in
    let own = simp to_z-of_z at c.put.ensures.own in
    let others = simp to_z-of_z at c.put.ensures.others in
    rw c.in-Overwrite.is
    (put_effect c.args.column c.in-Overwrite.own c.in-Overwrite.bar_day bar c.in-Overwrite.value (cell_at c.args.cells.now (c.args.part.at + j)) (cell_at c.put.new.cells (c.args.part.at + j)) (sym c.is_same.ensures ∙ c.if-is_same.true)
    (λ is. own j h (subst (λ b. slice_get c.args.sessions.now (c.args.part.first + j) ≡ Some b) is day))
    (λ other. others bar j h day other))
