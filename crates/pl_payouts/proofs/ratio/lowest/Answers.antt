use Rattle.std.proofs.Common.{◌≡◌, ◌/◌, ap, subst, ◌<◌}
use Rattle.std.proofs.lemmas.Nat.Gcd.{same_from_IsGcd}
use Rattle.pl_payouts.specs.Ratios.{gcd, lowest}
use Rattle.pl_payouts.proofs.Divisors.{gcd-IsGcd, gcd-pos}
use Rattle.pl_payouts.proofs.ratio.lowest.Goals as goal

pub nonzero_div-result : goal.nonzero_div-result
nonzero_div-result c =
    let same : gcd c.args.a c.args.b ≡ c.greatest_divisor-divisor.result = same_from_IsGcd c.args.a c.args.b _ _ (gcd-IsGcd c.args.a c.args.b) c.greatest_divisor-divisor.ensures in
    subst (λ g. 0 < g) same (gcd-pos c.args.a c.args.b c.requires)

pub nonzero_div-result-2 : goal.nonzero_div-result-2
nonzero_div-result-2 c =
    let same : gcd c.args.a c.args.b ≡ c.greatest_divisor-divisor.result = same_from_IsGcd c.args.a c.args.b _ _ (gcd-IsGcd c.args.a c.args.b) c.greatest_divisor-divisor.ensures in
    subst (λ g. 0 < g) same (gcd-pos c.args.a c.args.b c.requires)

pub returns-clause-num : goal.returns-clause-num
unfolding lowest
returns-clause-num c = ap (λ g. c.args.a / g) (same_from_IsGcd c.args.a c.args.b _ _ c.greatest_divisor-divisor.ensures (gcd-IsGcd c.args.a c.args.b))

pub returns-clause-den : goal.returns-clause-den
unfolding lowest
returns-clause-den c = ap (λ g. c.args.b / g) (same_from_IsGcd c.args.a c.args.b _ _ c.greatest_divisor-divisor.ensures (gcd-IsGcd c.args.a c.args.b))
