use Rattle.std.proofs.Common.{◌∙◌, ap, sym, get_or, length, pos, List, ℤ}
use Rattle.std.proofs.lemmas.List.{get_or-replicate}
use Rattle.pl_spec.specs.Rounding.{MISSING}
use Rattle.pl_numbers.specs.Numbers.{number_on}
use Rattle.pl_daily.specs.Rows.{rows_lent}
use Rattle.pl_daily.proofs.leaves.known_row.Goals as goal

pub returns-in-None-clause-each : goal.returns-in-None-clause-each
unfolding number_on
returns-in-None-clause-each c i h =
    ap (λ (l : List ℤ). get_or l i (pos 0)) (c.fill.ensures.after (λ y same. same)) ∙ get_or-replicate (length c.args.out.now) i MISSING (pos 0) h
    ∙ ap (λ o. number_on c.args.figure (rows_lent o) c.args.name.now i c.args.day) (sym c.in-None.is)
