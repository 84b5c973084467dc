use Rattle.std.proofs.Common.{◌≡◌, ◌==◌, get_or, refl, arith, false, inl, inr}
use Rattle.std.proofs.lemmas.Bool.Decides.{nat_tests}
use Rattle.pl_records.proofs.PlainLines.{cut-byte}
use Rattle.pl_records.proofs.Places.{comma_here, feed_here, return_here}
use Rattle.pl_records.proofs.plain.cut_at.Goals as goal

pub returns-else-count-eq-MOST_FIELDS : goal.returns-else-count-eq-MOST_FIELDS
returns-else-count-eq-MOST_FIELDS c = record {
  few = omega (arith, c.requires.begun.few);
  cut = comma_here c.args.text.now c.args.fields.now c.args.begun.count c.args.begun.start c.args.i _ refl (omega (arith, c.requires.begun.few)) c.requires.inside c.in-44.is c.requires.begun.cut;
}

pub returns-in-10 : goal.returns-in-10
returns-in-10 c = (
  omega (arith, c.requires.begun.few),
  omega (arith, c.requires.inside),
  elim c.in-10.is [
    | inl feed ↦ feed_here c.args.text.now c.args.fields.now c.args.begun.count c.args.begun.start c.args.i _ refl (omega (arith, c.requires.begun.few)) c.requires.inside feed c.requires.begun.cut
    | inr return ↦ return_here c.args.text.now c.args.fields.now c.args.begun.count c.args.begun.start c.args.i _ refl (omega (arith, c.requires.begun.few)) c.requires.inside return c.requires.begun.cut
  ],
)

pub returns-in_default : goal.returns-in_default
returns-in_default c =
    let return : (get_or c.args.text.now c.args.i 0 == 13) ≡ false = grind (arith, nat_tests) in
    let feed : (get_or c.args.text.now c.args.i 0 == 10) ≡ false = grind (arith, nat_tests) in
    record {
      few = c.requires.begun.few;
      cut = cut-byte c.args.text.now _ c.args.begun.start c.args.i c.requires.inside (grind (arith, nat_tests)) (grind (arith, nat_tests)) (rw (return, feed) refl) c.requires.begun.cut;
    }
