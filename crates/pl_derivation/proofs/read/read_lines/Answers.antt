use Rattle.std.proofs.Common.{length, map, sym, ◌∙◌, ap, arith, Err}
use Rattle.pl_derivation.specs.Texts.Broken.{BadLine, TooMany}
use Rattle.pl_derivation.specs.Listed.{line_of}
use Rattle.pl_derivation.proofs.Listing.{nothing_said, no_end, no_line, past_most, loop_more, loop_begun}
use Rattle.pl_derivation.proofs.read.read_lines.Goals as goal

pub returns-then-is_empty-clause-fault : goal.returns-then-is_empty-clause-fault
returns-then-is_empty-clause-fault c = nothing_said c.args.bytes.now (grind arith)

pub loop-left-init : goal.loop-left-init
loop-left-init c = loop_begun c.args.bytes.now c.new-lines.result.items c.new-lines.ensures.items (grind arith)

pub returns-in-None-clause-fault : goal.returns-in-None-clause-fault
returns-in-None-clause-fault c =
    no_end c.args.bytes.now (map line_of c.loop-left.lines.items) (length c.loop-left.lines.items) c.loop-left.left.now c.loop-left.invariant.stated (grind arith) (sym c.place_of.ensures.place ∙ c.in-None.is)
    ∙ ap (λ k. Err (BadLine k)) (omega (arith, c.len.ensures, c.loop-left.lines.ok))

pub returns-in-Ok-None-clause-fault : goal.returns-in-Ok-None-clause-fault
returns-in-Ok-None-clause-fault c =
    no_line c.args.bytes.now (map line_of c.loop-left.lines.items) (length c.loop-left.lines.items) c.loop-left.left.now c.loop-left.invariant.stated c.in-Some.end (sym c.place_of.ensures.place ∙ c.in-Some.is) (rw c.in-Ok-None.field-0-is at c.in-Ok-None.ensures)
    ∙ ap (λ k. Err (BadLine k)) (omega (arith, c.len.ensures, c.loop-left.lines.ok))

pub returns-then-len-eq-MOST_LINES-clause-fault : goal.returns-then-len-eq-MOST_LINES-clause-fault
returns-then-len-eq-MOST_LINES-clause-fault c =
    past_most c.args.bytes.now (map line_of c.loop-left.lines.items) (length c.loop-left.lines.items) c.loop-left.left.now c.loop-left.invariant.stated c.in-Some.end (sym c.place_of.ensures.place ∙ c.in-Some.is)
    (line_of c.in-Ok-Some.line) (rw c.in-Ok-Some.field-0-is at c.in-Ok-Some.ensures) (omega (arith, c.len-in-Ok-Some.ensures, c.loop-left.lines.ok, c.if-len-eq-MOST_LINES.true))
    ∙ ap (λ k. Err (TooMany k)) (omega (arith, c.len.ensures, c.loop-left.lines.ok))

pub loop-left-preserved : goal.loop-left-preserved
loop-left-preserved c =
    rw (c.text_after-left.ensures.rest, c.in-Ok.ensures)
    (loop_more c.args.bytes.now c.loop-left.lines.items c.loop-left.left.now c.loop-left.invariant c.in-Some.end (sym c.place_of.ensures.place ∙ c.in-Some.is) c.in-Ok-Some.line
    (rw c.in-Ok-Some.field-0-is at c.in-Ok-Some.ensures) (λ e. c.if-len-eq-MOST_LINES.false (omega (arith, c.len-in-Ok-Some.ensures, c.loop-left.lines.ok))))
