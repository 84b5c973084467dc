use Rattle.std.proofs.Common.{rules, arith, w64, FitsSigned, get_or, pos, length, ◌<◌, ◌≡◌, take, ◌+◌, ◌≤◌, to_z, of_z, ◌∙◌, sym, ap, refl}
use Rattle.std.proofs.lemmas.Int.{to_z-of_z}
use Rattle.pl_spec.specs.Rounding.{is_present}
use Rattle.pl_pipeline.specs.Cross.{array_at}
use Rattle.pl_cross.specs.declared.listing.Member.{Member}
use Rattle.pl_cross.specs.Section.{turned}
use Rattle.pl_cross.specs.Listing.{gathered}
use Rattle.pl_cross.proofs.Listings.{gathered-yes, gathered-no, read-cell, same-listed}
use Rattle.pl_cross.proofs.listing.gather.Goals as goal
use Rattle.pl_cross.proofs.listing.gather.Goals.{then-has_value, else-has_value}

abbrev blank : Member
blank = record { group = pos 0; place = 0 }

pub loop-member-preserved : goal.loop-member-preserved
loop-member-preserved c =
    let i = c.loop-member.member-index in
    let members = c.args.members.now in
    let vs = c.args.values.now in
    let place = (get_or c.args.members.now c.loop-member.member-index blank).place in
    let within : (get_or c.args.members.now c.loop-member.member-index blank).place < length c.args.values.now = c.requires.within i blank c.loop-member-test.true in
    let fits_value : FitsSigned w64 (get_or c.args.values.now (get_or c.args.members.now c.loop-member.member-index blank).place (pos 0)) = search rules in
    let value_is : to_z w64 (of_z w64 (get_or c.args.values.now (get_or c.args.members.now c.loop-member.member-index blank).place (pos 0))) ≡ array_at c.args.values.now (get_or c.args.members.now c.loop-member.member-index blank).place = read-cell vs place fits_value within in
    let test : c.has_value.result ≡ is_present (array_at c.args.values.now (get_or c.args.members.now c.loop-member.member-index blank).place) = c.has_value.ensures ∙ ap is_present value_is in
    let few : c.if-has_value.count ≤ c.loop-member.member-index + 1 = elim c.if-has_value.branch [ then-has_value w ↦ omega (arith, c.loop-member.invariant.few) | else-has_value w ↦ omega (arith, c.loop-member.invariant.few) ] in
    let room : c.loop-member.count < length c.loop-member.listed = omega (arith, c.loop-member.invariant.few, c.loop-member.invariant.long, c.requires.room, c.loop-member-test.true) in
    let listed : take c.if-has_value.count c.if-has_value.listed ≡ gathered c.args.order c.args.values.now (take (c.loop-member.member-index + 1) c.args.members.now) =
    elim c.if-has_value.branch [
      | then-has_value w ↦
          let fits_turned : FitsSigned w64 w.turned-value.result = search rules in
          rw (w.count-is, w.listed-is) (gathered-yes c.args.order vs members i c.loop-member.count blank c.loop-member.listed _ c.loop-member-test.true
          (sym test ∙ w.if-has_value.true)
          (same-listed c.args.order vs (get_or members i blank) place _ refl (to_z-of_z w64 w.turned-value.result fits_turned ∙ w.turned-value.ensures ∙ ap (turned c.args.order) value_is))
          room c.loop-member.invariant.listed)
      | else-has_value w ↦
          rw (w.count-is, w.listed-is) (gathered-no c.args.order vs members i blank _ c.loop-member-test.true (sym test ∙ w.if-has_value.false) c.loop-member.invariant.listed)
    ] in
    record { long = search rules; few = few; listed = listed }
