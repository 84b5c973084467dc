use Rattle.std.proofs.Common.{◌^◌, arith}
use Rattle.std.proofs.lemmas.Nat.{mul-le}
use Rattle.pl_elementary.proofs.Terms.{begins, term-small, steps, ends, sum-small}
use Rattle.pl_elementary.proofs.exponential.series.Goals as goal

pub terms-init : goal.terms-init
terms-init c = begins c.args.v

pub overflow_add-sum : goal.overflow_add-sum
overflow_add-sum c =
    let t = term-small _ _ _ _ c.terms-test.true c.terms.invariant in
    record { fits = omega (arith, t, sum-small _ _ _ _ c.terms.invariant) }

pub overflow_mul-term-in-terms : goal.overflow_mul-term-in-terms
overflow_mul-term-in-terms c =
    let t = term-small _ _ _ _ c.terms-test.true c.terms.invariant in
    let l = mul-le c.terms.term c.args.v (2 ^ 99) 26000000 (omega (arith, t)) c.requires in
    record { fits = omega (arith, l) }

pub terms-preserved : goal.terms-preserved
terms-preserved c = steps _ _ _ _ c.terms-test.true c.requires c.terms.invariant

pub returns-else-term-gt0-clause-value : goal.returns-else-term-gt0-clause-value
returns-else-term-gt0-clause-value c = ends _ _ _ _ (λ h. omega (arith, c.if-term-gt0.false)) c.terms.invariant

pub returns-after-terms-clause-value : goal.returns-after-terms-clause-value
returns-after-terms-clause-value c = ends _ _ _ _ (λ h. absurd (omega (arith, c.terms-test.false))) c.terms.invariant

pub returns-else-term-gt0-clause-small : goal.returns-else-term-gt0-clause-small
returns-else-term-gt0-clause-small c = sum-small _ _ _ _ c.terms.invariant

pub returns-after-terms-clause-small : goal.returns-after-terms-clause-small
returns-after-terms-clause-small c = sum-small _ _ _ _ c.terms.invariant
