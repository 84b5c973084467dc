use Rattle.std.proofs.Common.{◌∙◌, sym}
use Rattle.pl_cut.specs.Cuts.{lives_in}
use Rattle.pl_parts.specs.Spans.{span_of}
use Rattle.pl_parts.specs.Texts.{asset_line}
use Rattle.pl_parts.proofs.KeptRows.{nothing-more, on-ok-more, at-kept, at-left}
use Rattle.pl_parts.proofs.assets.put_kept_asset.Goals as goal

pub returns-then-not-lives_in : goal.returns-then-not-lives_in
returns-then-not-lives_in c =
    nothing-more _ _ (at-left (lives_in (span_of c.args.span)) asset_line (λ a. a) c.args.assets.now c.args.col c.row-asset.result c.row-asset.ensures (sym c.lives_in.ensures ∙ c.if-not-lives_in.true))

pub returns : goal.returns
returns c =
    on-ok-more c.put_asset.result _ _ _ _ c.put_asset.ensures
    (at-kept (lives_in (span_of c.args.span)) asset_line (λ a. a) c.args.assets.now c.args.col c.row-asset.result c.row-asset.ensures (sym c.lives_in.ensures ∙ c.if-not-lives_in.false))
