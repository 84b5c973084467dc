use Rattle.std.proofs.Common.{rules, ◌≡◌, ◌∙◌, ◌<◌, ◌^◌, pos, sym, ap, arith, FitsSigned, w64, to_z}
use Rattle.std.proofs.lemmas.Int.{to_z-of_z, to_z_pos}
use Rattle.pl_payouts.specs.Texts.{payout_line}
use Rattle.pl_payouts.proofs.Lines.{row_line, skip_line}
use Rattle.pl_payouts.proofs.line.line_of.Goals as goal
use Rattle.pl_payouts.proofs.line.line_of.Goals.{in-Ok, in-Err}

pub returns : goal.returns
returns c =
    let p = c.args.payout.now in
    let number_fits : p.number < 2 ^ 32 = search rules in
    let sid_fits : p.sid < 2 ^ 32 = search rules in
    let number : to_z w64 p.number ≡ pos p.number = to_z_pos w64 p.number (omega arith) in
    let sid : to_z w64 p.sid ≡ pos p.sid = to_z_pos w64 p.sid (omega arith) in
    let effective : FitsSigned w64 c.effective_of.result = search rules in
    let first = rw number at c.put_number.ensures.text in
    let second = rw sid at c.put_number-2.ensures.text in
    let third = rw (to_z-of_z w64 c.effective_of.result effective, c.effective_of.ensures) at c.put_number-3.ensures.text in
    elim c.match-ratio.branch [
      | in-Ok w ↦
          let num : FitsSigned w64 w.in-Ok.row.num = search rules in
          let den : FitsSigned w64 w.in-Ok.row.den = search rules in
          let fourth = rw (to_z-of_z w64 w.in-Ok.row.num num) at w.put_number-in-Ok.ensures.text in
          let fifth = rw (to_z-of_z w64 w.in-Ok.row.den den) at w.put_number-in-Ok-2.ensures.text in
          let last = rw w.line-is at c.put-2.ensures.text in
          row_line _ _ _ _ _ _ _ _ _ _ _ _ c.new-line.ensures first second third fourth fifth last ∙ ap (payout_line p) (sym w.in-Ok.is)
      | in-Err w ↦
          let fifth = rw w.reason_of.ensures.text at w.put-in-Err.ensures.text in
          let last = rw w.line-is at c.put-2.ensures.text in
          skip_line _ _ _ _ _ _ _ _ _ _ _ c.new-line.ensures first second third w.put.ensures.text fifth last ∙ ap (payout_line p) (sym w.in-Err.is)
    ]
