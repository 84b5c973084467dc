use Rattle.std.proofs.Common.{rules, ◌≤◌, pos, unsigned_abs, w64, FitsSigned, get_or, ◌∙◌}
use Rattle.pl_spec.specs.Rounding.{LIMIT}
use Rattle.pl_pipeline.specs.Kind.CrossKind.{Scale}
use Rattle.pl_cross.specs.declared.listing.Listed.{Listed}
use Rattle.pl_cross.specs.Listing.{entries_of}
use Rattle.pl_cross.proofs.Answers.{answers-more}
use Rattle.pl_cross.proofs.Shares.{share-is, portion}
use Rattle.pl_cross.proofs.means.scale.Goals as goal

abbrev blank : Listed
blank = record { value = pos 0; place = 0 }

pub loop-i-preserved : goal.loop-i-preserved
loop-i-preserved c =
    let few : unsigned_abs (get_or c.args.group.now c.loop-i.i blank).value ≤ LIMIT = c.requires.cells c.loop-i.i blank c.loop-i-test.true in
    let fits : FitsSigned w64 c.quot.result = search rules in
    record {
      long = search rules;
      answers = answers-more Scale (entries_of c.args.group.now) c.args.group.now c.loop-i.answers c.loop-i.i c.quot.result fits c.loop-i.invariant.long c.loop-i-test.true c.loop-i.invariant.answers
          (share-is c.args.group.now c.loop-i.i blank c.magnitudes-whole.result c.quot.result c.loop-i-test.true c.magnitudes-whole.ensures.value
          (c.quot.ensures.value ∙ portion (get_or c.args.group.now c.loop-i.i blank).value c.magnitudes-whole.result c.args.group.now few c.requires.few c.magnitudes-whole.ensures.size));
    }
