use Rattle.std.proofs.Common.{◌≡◌, ◌≤◌, ◌++◌, [], length, arith}
use Rattle.pl_spec.specs.Parts.{number_of}
use Rattle.pl_parts.specs.Parts.{world_of}
use Rattle.pl_parts.specs.Spans.{span_of}
use Rattle.pl_parts.specs.Kept.{if_kept, keeps_number}
use Rattle.pl_parts.specs.Texts.{number_line, numbers_header, numbers_text}
use Rattle.pl_parts.proofs.KeptRows.{begun, more, mapped-end}
use Rattle.pl_parts.proofs.numbers.numbers_text.Goals as goal

pub loop-i-init : goal.loop-i-init
loop-i-init c = begun (λ r. if_kept (keeps_number (world_of c.args.world.now) (span_of c.args.span)) number_line (number_of c.args.world.now.assets.now r)) (c.args.world.now.numbers.now.rows) numbers_header _ _ c.new-out.ensures.items c.in_ok-put.ensures

pub loop-i-preserved : goal.loop-i-preserved
loop-i-preserved c = more (λ r. if_kept (keeps_number (world_of c.args.world.now) (span_of c.args.span)) number_line (number_of c.args.world.now.assets.now r)) (c.args.world.now.numbers.now.rows) c.loop-i.i numbers_header _ _ c.loop-i.invariant c.in_ok-put_kept_number.ensures

pub returns : goal.returns
unfolding numbers_text
returns c =
    let end : length (c.args.world.now.numbers.now.rows) ≤ c.loop-i.i = omega (arith, c.loop-i-test.false, c.len-i-end.ensures.length) in
    mapped-end (keeps_number (world_of c.args.world.now) (span_of c.args.span)) number_line (number_of c.args.world.now.assets.now) (c.args.world.now.numbers.now.rows) c.loop-i.i numbers_header _ end c.loop-i.invariant
