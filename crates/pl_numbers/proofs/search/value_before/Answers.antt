use Rattle.std.proofs.Common.{◌≡◌, ◌≤ℤ◌, ◌∙◌, Some, None, rules, FitsSigned, w32, w64}
use Rattle.std.proofs.lemmas.Int.{to_z-of_z}
use Rattle.pl_spec.specs.Numbers.{read_of}
use Rattle.pl_numbers.specs.Numbers.{bare}
use Rattle.pl_numbers.proofs.NumberSearch.{newest_value}
use Rattle.pl_numbers.proofs.search.value_before.Goals as goal

pub read_of-requires-clause-later : goal.read_of-requires-clause-later
read_of-requires-clause-later c =
    let known : FitsSigned w32 c.in-Some.place.known = search rules in
    let le : c.in-Some.place.known ≤ℤ c.args.day = c.in-Some.ensures.by_then c.args.day c.ranges.day c.requires.point in
    rw (to_z-of_z w32 c.in-Some.place.known known, to_z-of_z w32 c.args.day c.ranges.day) le

pub returns-in-Some-clause-value : goal.returns-in-Some-clause-value
returns-in-Some-clause-value c =
    let day : FitsSigned w32 c.args.day = c.ranges.day in
    let known : FitsSigned w32 c.in-Some.place.known = search rules in
    let value : FitsSigned w64 c.in-Some.place.value = search rules in
    let cell : FitsSigned w64 c.read_of.result = search rules in
    let read : c.read_of.result ≡ read_of c.args.figure c.args.day (bare c.in-Some.place.value c.in-Some.place.known) = simp to_z-of_z at c.read_of.ensures.value in
    to_z-of_z w64 c.read_of.result cell ∙ read
    ∙ newest_value c.args.figure c.args.rows.now c.args.name c.args.col c.args.day (Some c.in-Some.place) (rw c.in-Some.is at (c.newest_before.ensures.newest c.args.day day c.requires.point))

pub returns-in-Some-clause-cell : goal.returns-in-Some-clause-cell
returns-in-Some-clause-cell c =
    let cell : FitsSigned w64 c.read_of.result = search rules in
    rw (to_z-of_z w64 c.read_of.result cell) c.read_of.ensures.cell

pub returns-in-None-clause-value : goal.returns-in-None-clause-value
returns-in-None-clause-value c =
    newest_value c.args.figure c.args.rows.now c.args.name c.args.col c.args.day None (rw c.in-None.is at (c.newest_before.ensures.newest c.args.day c.ranges.day c.requires.point))
