use Rattle.std.proofs.Common.{rules, pos, length, get_or, ◌<◌, arith, w64, sym, ◌∙◌}
use Rattle.std.proofs.lemmas.Int.{to_z-of_z}
use Rattle.pl_cross.specs.declared.listing.Member.{Member}
use Rattle.pl_cross.proofs.Scattering.{told-more, told-others}
use Rattle.pl_cross.proofs.places.tell.Goals as goal

abbrev blank : Member
blank = record { group = pos 0; place = 0 }

pub loop-member-preserved : goal.loop-member-preserved
loop-member-preserved c =
    let n = c.loop-member.member-index in
    let room : (get_or c.args.members.now c.loop-member.member-index blank).place < length c.loop-member.out = omega (arith, c.requires n blank c.loop-member-test.true, c.loop-member.invariant.long) in
    let plain = to_z-of_z w64 c.args.value c.ranges.value in
    record {
      long = search rules;
      told = λ k d h. told-more c.args.members.now c.loop-member.out c.args.out.now n c.args.value c.loop-member-test.true blank c.ranges.value room (λ k d h. c.loop-member.invariant.told k d h ∙ plain) k d h ∙ sym plain;
      others = told-others c.args.members.now c.loop-member.out c.args.out.now n c.args.value c.loop-member-test.true blank c.ranges.value room c.loop-member.invariant.others;
    }

pub returns-clause-told : goal.returns-clause-told
returns-clause-told c = λ k d h. c.loop-member.invariant.told k d (omega (arith, h, c.loop-member-test.false)) ∙ to_z-of_z w64 c.args.value c.ranges.value
