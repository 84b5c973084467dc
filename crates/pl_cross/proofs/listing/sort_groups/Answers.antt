use Rattle.std.proofs.Common.{rules, ◌≡◌}
use Rattle.std.proofs.lemmas.Fn.{always_returns_same}
use Rattle.pl_cross.proofs.Grouping.{grouped}
use Rattle.pl_cross.proofs.listing.sort_groups.Goals as goal

pub returns-clause-order : goal.returns-clause-order
returns-clause-order c =
    grouped _ (c.sort_unstable_by_key.ensures.sorted (λ m. m.group) (always_returns_same _ (λ a r. r ≡ a.0.now.group) _ (λ a r q k. search rules)))
