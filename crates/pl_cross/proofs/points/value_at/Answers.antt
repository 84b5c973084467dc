use Rattle.std.proofs.Common.{rules, w64, FitsSigned, sym, ◌∙◌, arith, subst, unsigned_abs, ◌≤◌}
use Rattle.std.proofs.lemmas.Int.{to_z-of_z}
use Rattle.pl_spec.specs.Rounding.{LIMIT}
use Rattle.pl_pipeline.specs.Cross.{values}
use Rattle.pl_cross.specs.Listing.{entries_of}
use Rattle.pl_cross.proofs.Distinct.{length-values}
use Rattle.pl_cross.proofs.Selecting.{nth-value}
use Rattle.pl_cross.proofs.Sums.{past-end}
use Rattle.pl_cross.proofs.points.value_at.Goals as goal

pub returns-then-place-group-clause-value : goal.returns-then-place-group-clause-value
returns-then-place-group-clause-value c =
    let fits : FitsSigned w64 c.nth.result.value = search rules in
    to_z-of_z w64 c.nth.result.value fits ∙ nth-value c.args.group.now c.args.place c.nth.result c.if-place-group.true c.nth.ensures

pub returns-then-place-group-clause-size : goal.returns-then-place-group-clause-size
returns-then-place-group-clause-size c =
    let fits : FitsSigned w64 c.nth.result.value = search rules in
    let own = c.nth.ensures.own in
    rw (to_z-of_z w64 c.nth.result.value fits) (subst (λ e. unsigned_abs e.value ≤ LIMIT) own.2 (c.requires.cells own.0 c.nth.result own.1))

pub returns-else-place-group-clause-value : goal.returns-else-place-group-clause-value
returns-else-place-group-clause-value c =
    sym (past-end (values (entries_of c.args.group.now)) c.args.place (omega (arith, length-values c.args.group.now, c.if-place-group.false)))
