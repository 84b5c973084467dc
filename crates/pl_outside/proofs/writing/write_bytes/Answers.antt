use Rattle.std.proofs.Common.{ℕ, ◌-◌, ◌≤◌, length, arith, length-drop, ◌∙◌}
use Rattle.pl_outside.proofs.Takes.{takes-next}
use Rattle.pl_outside.proofs.writing.write_bytes.Goals as goal

pub loop-done-preserved : goal.loop-done-preserved
loop-done-preserved g c =
    let inv = c.loop-done.invariant in
    let wrote = c.in_ok-done-2.ensures in
    let fits : c.in_ok-done-2.field-0 ≤ length c.args.bytes.now - c.loop-done.done = omega (arith, length-drop {A = ℕ}, wrote.within) in
    record {
      within = omega arith;
      begun = λ some. omega (arith, inv.begun some);
      taken = takes-next _ _ _ c.loop-done.done c.in_ok-done-2.field-0 c.args.bytes.now fits inv.taken wrote.taken;
      later = omega (arith, wrote.cause.later);
      stays = wrote.stays ∙ inv.stays;
      quiet = λ sound room.
          (wrote.blameless (rw inv.stays sound) (omega (arith, inv.room sound, length-drop {A = ℕ}))).1 ∙ inv.quiet sound room;
      room = λ sound. omega (arith, inv.room sound, wrote.room (rw inv.stays sound));
      calls = omega (arith, wrote.some, wrote.counted, length-drop {A = ℕ});
      kind = wrote.stays_whole ∙ inv.kind;
      one = λ whole. absurd (omega (arith, (inv.one whole).0));
      empty = λ none. absurd (omega (arith, none));
    }
