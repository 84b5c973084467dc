use Rattle.pl_spec.proofs.Roots.{isqrt-is_root, one_root}
use Rattle.pl_laws.proofs.laws.root_is_greatest.Goals as goal

pub returns : goal.returns
returns c v r = (isqrt-is_root v, λ f. one_root v r _ f (isqrt-is_root v))
