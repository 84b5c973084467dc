use Rattle.pl_syntax.proofs.TextsSaid.{said-spells, said-fault, spells-said, fault-said}
use Rattle.pl_syntax.proofs.parser.texts_say.Goals as goal

pub returns : goal.returns
returns c = λ bytes.
    (λ s. (said-spells bytes s, spells-said bytes s), λ k p. (said-fault bytes k p, fault-said bytes k p))
