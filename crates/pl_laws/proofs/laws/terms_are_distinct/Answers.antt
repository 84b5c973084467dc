use Rattle.std.proofs.Common.{refl}
use Rattle.pl_pipeline.specs.Term.{term_at}
use Rattle.pl_pipeline.proofs.Distinct.{one_tree}
use Rattle.pl_laws.proofs.laws.terms_are_distinct.Goals as goal

pub returns : goal.returns
returns c g ok j k h i e = one_tree g ok (term_at g k) j k h i e refl
