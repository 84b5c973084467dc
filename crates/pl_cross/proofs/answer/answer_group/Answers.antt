use Rattle.std.proofs.Common.{pos, arith, w64, get_or, length, ◌*◌, sym, ◌∙◌, ap}
use Rattle.std.proofs.lemmas.Int.{to_z_pos}
use Rattle.std.proofs.lemmas.List.{length-map}
use Rattle.pl_spec.specs.Rounding.{MILLION}
use Rattle.pl_pipeline.specs.Cross.{cross}
use Rattle.pl_cross.specs.Section.{cross_of, upright}
use Rattle.pl_cross.specs.Listing.{entry_of, entries_of}
use Rattle.pl_cross.proofs.answer.answer_group.Goals as goal

pub returns-in-PeerCount-clause-answers : goal.returns-in-PeerCount-clause-answers
unfolding cross
returns-in-PeerCount-clause-answers c = λ k d h.
    let group = c.args.group.now in
    c.clear.ensures.each k (omega (arith, h, c.requires.room)) ∙ to_z_pos w64 (length group * MILLION) (omega (arith, c.requires.few))
    ∙ ap (λ n. pos (n * MILLION)) (sym (length-map group entry_of))
    ∙ ap (λ s. cross (upright (cross_of s)) (entries_of group) (get_or group k d).place (get_or group k d).value) (sym c.in-PeerCount.is)
