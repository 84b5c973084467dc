use Rattle.std.proofs.Common.{◌≡◌, ◌∙◌, ◌&&◌, sym, ap}
use Rattle.pl_spec.specs.Parts.{bar_of}
use Rattle.pl_cut.specs.Cuts.{is_bar_in}
use Rattle.pl_parts.specs.Spans.{span_of}
use Rattle.pl_parts.proofs.bars.keeps_bar.Goals as goal

pub returns-then-is_of : goal.returns-then-is_of
returns-then-is_of c =
    let assets = c.args.world.now.assets.now in
    c.is_bar_in.ensures assets ∙ sym (ap (λ t. t && is_bar_in (span_of c.args.span) (bar_of assets c.args.bar)) (sym c.is_of.ensures ∙ c.if-is_of.true))
