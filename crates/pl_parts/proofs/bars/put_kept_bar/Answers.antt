use Rattle.std.proofs.Common.{◌≡◌, ◌<◌, ◌∙◌, length, sym}
use Rattle.pl_spec.specs.Parts.{bar_of}
use Rattle.pl_parts.specs.Parts.{world_of}
use Rattle.pl_parts.specs.Spans.{span_of}
use Rattle.pl_parts.specs.Kept.{keeps_bar}
use Rattle.pl_parts.specs.Texts.{bar_line}
use Rattle.pl_parts.proofs.KeptRows.{nothing-more, on-ok-more, at-kept, at-left, all-there}
use Rattle.pl_parts.proofs.bars.put_kept_bar.Goals as goal

pub keeps_bar-requires-clause-col : goal.keeps_bar-requires-clause-col
keeps_bar-requires-clause-col c = all-there (λ b. b.col < length c.args.world.now.assets.now) c.args.world.now.bars.now c.args.i c.row-bar.result c.requires.made.bars_in c.row-bar.ensures.bar

pub put_bar-requires-clause-col : goal.put_bar-requires-clause-col
put_bar-requires-clause-col c = all-there (λ b. b.col < length c.args.world.now.assets.now) c.args.world.now.bars.now c.args.i c.row-bar.result c.requires.made.bars_in c.row-bar.ensures.bar

pub put_bar-requires-clause-session : goal.put_bar-requires-clause-session
put_bar-requires-clause-session c = all-there (λ b. b.session < length c.args.world.now.sessions.now) c.args.world.now.bars.now c.args.i c.row-bar.result c.requires.made.sessions_in c.row-bar.ensures.bar

pub returns-then-not-keeps_bar : goal.returns-then-not-keeps_bar
returns-then-not-keeps_bar c =
    nothing-more _ _ (at-left (keeps_bar (world_of c.args.world.now) (span_of c.args.span)) (bar_line c.args.world.now.sessions.now) (bar_of c.args.world.now.assets.now) c.args.world.now.bars.now c.args.i c.row-bar.result c.row-bar.ensures.bar (sym c.keeps_bar.ensures ∙ c.if-not-keeps_bar.true))

pub returns : goal.returns
returns c =
    on-ok-more c.put_bar.result _ _ _ _ c.put_bar.ensures
    (at-kept (keeps_bar (world_of c.args.world.now) (span_of c.args.span)) (bar_line c.args.world.now.sessions.now) (bar_of c.args.world.now.assets.now) c.args.world.now.bars.now c.args.i c.row-bar.result c.row-bar.ensures.bar (sym c.keeps_bar.ensures ∙ c.if-not-keeps_bar.false))
