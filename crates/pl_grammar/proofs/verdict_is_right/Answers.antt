use Rattle.std.proofs.Common.{subst}
use Rattle.pl_grammar.proofs.First.{right_of, spelled_only, first_only, Right}
use Rattle.pl_grammar.proofs.verdict_is_right.Goals as goal

pub returns : goal.returns
returns c =
    λ ts tail. (
      (λ ss. ((λ h. subst (λ v. Right v ts tail) h (right_of ts tail)), (λ x. spelled_only ts tail ss x))),
      (λ k p. ((λ h. subst (λ v. Right v ts tail) h (right_of ts tail)), (λ x. first_only x))),
    )
