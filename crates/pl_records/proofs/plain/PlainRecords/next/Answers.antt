use Rattle.std.proofs.Common.{◌≡◌, ◌-◌, length, take, drop, take_all, length-drop, sym, ◌∙◌, arith}
use Rattle.pl_records.proofs.PlainLines.{from_line, no_line}
use Rattle.pl_records.proofs.plain.PlainRecords.next.Goals as goal

pub returns-then-is_empty : goal.returns-then-is_empty
returns-then-is_empty c =
    let unmarked = sym c.may_have_mark.ensures ∙ c.if-may_have_mark.false in
    rw (← c.self.view_is) (no_line c.self.inside.rest.now c.behind_line_ends-line.result.now unmarked c.behind_line_ends-line.ensures.same (sym c.is_empty.ensures ∙ c.if-is_empty.true))

pub returns-in-Some : goal.returns-in-Some
returns-in-Some c =
    let unmarked = sym c.may_have_mark.ensures ∙ c.if-may_have_mark.false in
    let line = c.behind_line_ends-line.result.now in
    let first = rw c.in-Some.is at c.split-found.ensures.record in
    let end = c.in-Some.first.end in
    let rest : take (length line - end) (drop end line) ≡ drop end line = take_all _ _ (omega (arith, length-drop end line)) in
    rw (← c.self.view_is, rest) (from_line c.self.inside.rest.now line unmarked c.behind_line_ends-line.ensures.same ∙ first)
