use Rattle.std.proofs.Common.{◌∙◌, ap, sym, rules, w64, FitsSigned}
use Rattle.std.proofs.lemmas.Int.{to_z-of_z}
use Rattle.pl_terms.specs.Kinds.{kind_of}
use Rattle.pl_values.specs.Families.{empty_number}
use Rattle.pl_values.proofs.KindFamilies.{empty-sorted}
use Rattle.pl_values.proofs.family.empty_of.Goals as goal

pub returns : goal.returns
returns c =
    let fits : FitsSigned w64 c.empty_number.result = search rules in
    to_z-of_z w64 _ fits ∙ c.empty_number.ensures ∙ ap empty_number c.kind_row.ensures.sort ∙ sym (empty-sorted (kind_of c.args.kind.now))
