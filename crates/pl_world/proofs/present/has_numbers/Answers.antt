use Rattle.std.proofs.Common.{◌≡◌, ◌∙◌, ap, sym, length, arith}
use Rattle.std.specs.List.{range_with_len, list_any}
use Rattle.pl_terms.specs.Checked.{pipeline_of}
use Rattle.pl_world.specs.Present.{is_number_term}
use Rattle.pl_world.proofs.Counted.{any-range, none-more}
use Rattle.pl_world.proofs.present.has_numbers.Goals as goal

pub returns-then-is_number : goal.returns-then-is_number
returns-then-is_number c =
    let p = pipeline_of c.args.checked.now in
    sym (any-range (is_number_term p) (length p.graph) c.loop-t.t (omega arith) (sym c.is_number.ensures ∙ c.if-is_number.true))

pub loop-t-preserved : goal.loop-t-preserved
loop-t-preserved c = none-more (is_number_term (pipeline_of c.args.checked.now)) c.loop-t.t c.loop-t.invariant (sym c.is_number.ensures ∙ c.if-is_number.false)

pub returns : goal.returns
returns c =
    let p = pipeline_of c.args.checked.now in
    let end : c.loop-t.t ≡ length p.graph = omega arith in
    sym (ap (λ n. list_any (is_number_term p) (range_with_len 0 n)) (sym end) ∙ c.loop-t.invariant)
