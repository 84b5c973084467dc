use Rattle.pl_pipeline.specs.Term.{tree_over, trees, term_at}
use Rattle.pl_pipeline.specs.Reaching.{HasWindows}
use Rattle.pl_pipeline.proofs.Trees.{term_at-node}
use Rattle.pl_terms.proofs.Windowed.{windowed}
use Rattle.pl_derivation.proofs.Walking.{complete}
use Rattle.pl_derivation.proofs.laws.derivations_are_right.Goals as goal

pub returns : goal.returns
returns c w p ok known checked t a d ask =
    complete w p ok known checked.graph
    (λ k n e. let all : HasWindows (term_at p.graph k) = windowed p checked k in
    let held : HasWindows (tree_over (trees p.graph) n) = rw (term_at-node p.graph k n checked.graph e) at all in
    held.0)
    t a d ask
