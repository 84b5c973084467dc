use Rattle.std.proofs.Common.{sym, subst}
use Rattle.pl_terms.specs.Kinds.{kind_of}
use Rattle.pl_values.specs.Families.{IsOf}
use Rattle.pl_values.proofs.KindFamilies.{family-own}
use Rattle.pl_values.proofs.family.family_of.Goals as goal

pub returns : goal.returns
returns c = subst (IsOf (kind_of c.args.kind.now)) (sym c.kind_row.ensures.family) (family-own (kind_of c.args.kind.now))
