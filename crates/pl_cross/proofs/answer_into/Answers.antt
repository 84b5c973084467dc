use Rattle.std.proofs.Common.{arith, ap, ◌∙◌, w64, FitsSigned}
use Rattle.std.proofs.lemmas.Int.{to_z-of_z}
use Rattle.pl_cross.specs.Section.{cross_of}
use Rattle.pl_cross.specs.Giving.{none_at}
use Rattle.pl_cross.proofs.answer_into.Goals as goal

pub returns-clause-each : goal.returns-clause-each
returns-clause-each c =
    let fits : FitsSigned w64 c.args.empty = c.ranges.empty in
    c.answer_within.ensures c.args.empty
    (λ i h. c.clear_all.ensures.each i (omega (arith, h, c.requires.out)) ∙ ap (λ e. none_at (cross_of c.args.section) e c.args.session.now.keep.now i) (to_z-of_z w64 c.args.empty fits))
