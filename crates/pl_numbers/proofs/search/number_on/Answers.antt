use Rattle.std.proofs.Common.{◌∙◌, rules, FitsSigned, w32, w64}
use Rattle.std.proofs.lemmas.Int.{to_z-of_z}
use Rattle.pl_numbers.proofs.search.number_on.Goals as goal

pub point_of-end-requires : goal.point_of-end-requires
point_of-end-requires c = rw c.deref.ensures.value c.requires.table.rise

pub returns-clause-value : goal.returns-clause-value
returns-clause-value c =
    let day : FitsSigned w32 c.args.day = c.ranges.day in
    let cell : FitsSigned w64 c.value_before.result = search rules in
    to_z-of_z w64 c.value_before.result cell ∙ simp to_z-of_z at c.value_before.ensures.value
