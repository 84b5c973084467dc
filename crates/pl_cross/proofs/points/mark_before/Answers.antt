use Rattle.std.proofs.Common.{rules, pos, w64, FitsSigned, ◌∙◌, ap}
use Rattle.pl_spec.specs.Cells.{truth}
use Rattle.pl_cross.specs.declared.listing.Listed.{Listed}
use Rattle.pl_cross.specs.Listing.{is_before}
use Rattle.pl_cross.proofs.Scattering.{marked-more}
use Rattle.pl_cross.proofs.points.mark_before.Goals as goal

abbrev blank : Listed
blank = record { value = pos 0; place = 0 }

pub loop-i-preserved : goal.loop-i-preserved
loop-i-preserved c =
    let fits : FitsSigned w64 c.mark.result = search rules in
    record {
      long = search rules;
      answers = marked-more (λ e. truth (is_before c.args.other e)) c.args.group.now c.loop-i.answers c.loop-i.i blank c.mark.result fits c.loop-i.invariant.long c.loop-i-test.true c.loop-i.invariant.answers
          (c.mark.ensures ∙ ap truth c.precedes.ensures);
    }
