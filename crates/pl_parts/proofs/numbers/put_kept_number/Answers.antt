use Rattle.std.proofs.Common.{◌≡◌, ◌<◌, ◌∙◌, length, sym}
use Rattle.pl_spec.specs.Parts.{number_of}
use Rattle.pl_numbers.specs.NumberRowsShown.{shown_at}
use Rattle.pl_parts.specs.Parts.{world_of}
use Rattle.pl_parts.specs.Spans.{span_of}
use Rattle.pl_parts.specs.Kept.{keeps_number}
use Rattle.pl_parts.specs.Texts.{number_line}
use Rattle.pl_parts.proofs.KeptRows.{nothing-more, on-ok-more, at-kept, at-left, all-there}
use Rattle.pl_parts.proofs.numbers.put_kept_number.Goals as goal

pub keeps_number-requires-clause-col : goal.keeps_number-requires-clause-col
keeps_number-requires-clause-col c = all-there (λ r. r.col < length c.args.world.now.assets.now) c.args.world.now.numbers.now.rows c.args.i (shown_at c.row-row.result) c.requires.made.numbers_in c.row-row.ensures.row

pub put_number-requires-clause-col : goal.put_number-requires-clause-col
put_number-requires-clause-col c = all-there (λ r. r.col < length c.args.world.now.assets.now) c.args.world.now.numbers.now.rows c.args.i (shown_at c.row-row.result) c.requires.made.numbers_in c.row-row.ensures.row

pub returns-then-not-keeps_number : goal.returns-then-not-keeps_number
returns-then-not-keeps_number c =
    nothing-more _ _ (at-left (keeps_number (world_of c.args.world.now) (span_of c.args.span)) number_line (number_of c.args.world.now.assets.now) c.args.world.now.numbers.now.rows c.args.i (shown_at c.row-row.result) c.row-row.ensures.row (sym c.keeps_number.ensures ∙ c.if-not-keeps_number.true))

pub returns : goal.returns
returns c =
    on-ok-more c.put_number.result _ _ _ _ c.put_number.ensures
    (at-kept (keeps_number (world_of c.args.world.now) (span_of c.args.span)) number_line (number_of c.args.world.now.assets.now) c.args.world.now.numbers.now.rows c.args.i (shown_at c.row-row.result) c.row-row.ensures.row (sym c.keeps_number.ensures ∙ c.if-not-keeps_number.false))
