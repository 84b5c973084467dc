use Rattle.std.proofs.Common.{sym, ◌∙◌}
use Rattle.pl_derivation.proofs.Cuts.{cut_some, cut_none}
use Rattle.pl_derivation.proofs.read.cut.Goals as goal

pub returns-in-Some-clause-pieces : goal.returns-in-Some-clause-pieces
returns-in-Some-clause-pieces c =
    rw c.text_after.ensures.rest (cut_some c.args.mark c.args.text.now c.in-Some.at (sym c.place_of.ensures.place ∙ c.in-Some.is))

pub returns-in-None-clause-pieces : goal.returns-in-None-clause-pieces
returns-in-None-clause-pieces c = cut_none c.args.mark c.args.text.now (sym c.place_of.ensures.place ∙ c.in-None.is)
