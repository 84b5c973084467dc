use Rattle.std.proofs.Common.{◌∙◌, ◌==◌, sym}
use Rattle.std.proofs.lemmas.Bool.{true≢false}
use Rattle.pl_lifetimes.specs.Assets.{sid_of}
use Rattle.pl_assets.proofs.TextLists.{none_there}
use Rattle.pl_assets.proofs.labels.column_of.Goals as goal

pub unreachable-requires : goal.unreachable-requires
unreachable-requires c = true≢false (sym c.requires ∙ none_there (λ a. sid_of a == c.args.sid) c.args.assets.now (sym c.col_of.ensures.exact ∙ c.in-None.is))
