use Rattle.std.proofs.Common.{◌∙◌, ap, ℕ, List, ◌++◌}
use Rattle.std.proofs.lemmas.List.{take-replicate}
use Rattle.pl_table.proofs.line.Line.put_zeros.Goals as goal

pub returns : goal.returns
returns c = c.put.ensures ∙ ap (λ (t : List ℕ). c.args.self.now ++ t) (take-replicate c.args.count 64 0 c.requires.few)
