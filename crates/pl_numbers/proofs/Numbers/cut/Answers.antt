use Rattle.std.proofs.Common.{◌∙◌, ap, w32}
use Rattle.std.proofs.lemmas.Int.{to_z-of_z}
use Rattle.pl_spec.specs.AsOf.{column_numbers_by}
use Rattle.pl_numbers.specs.Numbers.{NumberTable}
use Rattle.pl_numbers.proofs.NumberCuts.{rows_cut, table_cut}
use Rattle.pl_numbers.proofs.Numbers.cut.Goals as goal

pub invariant_of-result : goal.invariant_of-result
invariant_of-result c =
    let places = rw (to_z-of_z w32 c.args.day c.ranges.day) at c.in_ok-rows.ensures.places in
    table_cut c.args.day c.self.inside.rows c.in_ok-rows.rows c.in_ok-rows.ensures.names places c.self.invariant

pub returns-clause-rows : goal.returns-clause-rows
returns-clause-rows c =
    let places = rw (to_z-of_z w32 c.args.day c.ranges.day) at c.in_ok-rows.ensures.places in
    rows_cut c.args.day c.self.inside.rows c.in_ok-rows.rows c.in_ok-rows.ensures.names places
    ∙ ap (λ (n : NumberTable). column_numbers_by c.args.day n.rows) c.self.view_is

pub returns-clause-names : goal.returns-clause-names
returns-clause-names c = c.in_ok-rows.ensures.names ∙ ap (λ (n : NumberTable). n.names) c.self.view_is
