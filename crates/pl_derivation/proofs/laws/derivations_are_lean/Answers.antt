use Rattle.std.proofs.Common.{pos, suc}
use Rattle.pl_pipeline.specs.Term.{tree_over, trees, term_at}
use Rattle.pl_pipeline.specs.Reaching.{HasWindows}
use Rattle.pl_pipeline.proofs.Trees.{term_at-node}
use Rattle.pl_terms.proofs.Windowed.{windowed}
use Rattle.pl_derivation.specs.Facts.Fact.{TermValue}
use Rattle.pl_derivation.proofs.Fits.{HasSessions}
use Rattle.pl_derivation.proofs.Walking.{complete, walked}
use Rattle.pl_derivation.proofs.Lean.{walk_is_lean}
use Rattle.pl_derivation.proofs.laws.derivations_are_lean.Goals as goal

pub returns : goal.returns
returns c w p ok known checked t a d ask =
    let windows : HasSessions p.graph = λ k n e. let all : HasWindows (term_at p.graph k) = windowed p checked k in
    let held : HasWindows (tree_over (trees p.graph) n) = rw (term_at-node p.graph k n checked.graph e) at all in
    held.0 in
    let facts = walked w p ok known checked.graph windows t a d ask in
    walk_is_lean w p (suc t) (TermValue t a (pos d)) facts.0 facts.1 (complete w p ok known checked.graph windows t a d ask).once
