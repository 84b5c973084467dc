use Rattle.std.proofs.Common.{◌∙◌, pos, get_or, sym, subst, rules, w64, FitsSigned}
use Rattle.std.proofs.lemmas.Int.{to_z-of_z}
use Rattle.std.proofs.lemmas.List.{get_or_default, get_or_past}
use Rattle.pl_spec.specs.Rounding.{IsCell, MISSING}
use Rattle.pl_factors.proofs.changes.cell_at.Goals as goal

pub returns-then-i-a-clause-value : goal.returns-then-i-a-clause-value
returns-then-i-a-clause-value c =
    let fits : FitsSigned w64 (get_or c.args.a.now c.args.i (pos 0)) = search rules in
    to_z-of_z w64 _ fits ∙ get_or_default c.args.a.now c.args.i (pos 0) MISSING c.if-i-a.true

pub returns-else-i-a-clause-value : goal.returns-else-i-a-clause-value
returns-else-i-a-clause-value c = sym (get_or_past c.args.a.now c.args.i MISSING c.if-i-a.false)

pub returns-then-i-a-clause-cell : goal.returns-then-i-a-clause-cell
returns-then-i-a-clause-cell c =
    let fits : FitsSigned w64 (get_or c.args.a.now c.args.i (pos 0)) = search rules in
    subst IsCell (sym (to_z-of_z w64 _ fits)) (c.requires.cells c.args.i (pos 0) c.if-i-a.true)
