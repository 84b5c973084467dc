use Rattle.std.proofs.Common.{rules, arith, w64, FitsSigned, get_or, pos, length, ◌<◌, ◌≡◌, take, ◌+◌, ◌≤◌, to_z, of_z, ◌∙◌, sym}
use Rattle.std.proofs.lemmas.Int.{to_z-of_z}
use Rattle.pl_pipeline.specs.Cross.{array_at}
use Rattle.pl_cross.specs.Listing.{enrolled, labels_in, belongs}
use Rattle.pl_cross.proofs.Listings.{enrolled-yes, enrolled-no, read-cell, joined, same-member}
use Rattle.pl_cross.proofs.listing.enroll.Goals as goal
use Rattle.pl_cross.proofs.listing.enroll.Goals.{then-belongs, else-belongs}

pub loop-place-preserved : goal.loop-place-preserved
loop-place-preserved c =
    let keep = c.args.session.now.keep.now in
    let labels = labels_in c.args.session.now.groups in
    let place = c.loop-place.place in
    let fits_keep : FitsSigned w64 (get_or c.args.session.now.keep.now c.loop-place.place (pos 0)) = search rules in
    let fits_group : FitsSigned w64 c.group_of-group.result = search rules in
    let within : c.loop-place.place < length c.args.session.now.keep.now = omega (arith, c.requires.session.keep, c.loop-place-test.true) in
    let keep_is : to_z w64 (of_z w64 (get_or c.args.session.now.keep.now c.loop-place.place (pos 0))) ≡ array_at c.args.session.now.keep.now c.loop-place.place = read-cell keep place fits_keep within in
    let group_is : to_z w64 (of_z w64 c.group_of-group.result) ≡ c.group_of-group.result = to_z-of_z w64 c.group_of-group.result fits_group in
    let test : c.belongs.result ≡ belongs c.args.session.now.keep.now (labels_in c.args.session.now.groups) c.loop-place.place =
    c.belongs.ensures ∙ joined keep labels place _ _ _ keep_is group_is c.group_of-group.ensures in
    let few : c.if-belongs.count ≤ c.loop-place.place + 1 = elim c.if-belongs.branch [ then-belongs w ↦ omega (arith, c.loop-place.invariant.few) | else-belongs w ↦ omega (arith, c.loop-place.invariant.few) ] in
    let inside : c.loop-place.count < length c.loop-place.members = omega (arith, c.loop-place.invariant.few, c.loop-place.invariant.long, c.requires.room, c.loop-place-test.true) in
    let listed : take c.if-belongs.count c.if-belongs.members ≡ enrolled c.args.session.now.keep.now (labels_in c.args.session.now.groups) (c.loop-place.place + 1) =
    elim c.if-belongs.branch [
      | then-belongs w ↦
          rw (w.count-is, w.members-is) (enrolled-yes keep labels place c.loop-place.count c.loop-place.members _
          (sym test ∙ w.if-belongs.true) (same-member labels place _ (group_is ∙ c.group_of-group.ensures)) inside c.loop-place.invariant.enrolled)
      | else-belongs w ↦
          rw (w.count-is, w.members-is) (enrolled-no keep labels place _ (sym test ∙ w.if-belongs.false) c.loop-place.invariant.enrolled)
    ] in
    record { long = search rules; few = few; enrolled = listed }
