use Rattle.std.proofs.Common.{◌≡◌, ◌∙◌, ◌≤◌, ◌-◌, ℕ, suc, zero, Option, Some, None, unwrap_or, length, ap, refl, arith, FitsSigned, w32}
use Rattle.std.specs.Prelude.{SomeIff}
use Rattle.std.proofs.lemmas.Int.{to_z-of_z}
use Rattle.pl_payouts.specs.Ratios.{last_of, last_before, sessions_before}
use Rattle.pl_payouts.proofs.ratio.last_before.Goals as goal

one_less : (o : Option ℕ) (n : ℕ) → SomeIff o (1 ≤ n) (n - 1) → o ≡ last_of n
one_less None zero h = refl
one_less None (suc n) h = absurd (h (omega arith))
one_less (Some k) zero h = absurd (omega (arith, h.0))
one_less (Some k) (suc n) h = let e : k ≡ n = omega (arith, h.1) in ap (λ x. Some x) e

pub returns : goal.returns
unfolding last_before
returns c =
    let fits : FitsSigned w32 c.args.day = c.ranges.day in
    let found = simp to_z-of_z at c.first_at_or_after.ensures.exact in
    let behind : c.unwrap_or-behind.result ≡ sessions_before c.args.sessions.now c.args.day =
    c.unwrap_or-behind.ensures ∙ ap (unwrap_or c.first_at_or_after.result) c.len-count.ensures.length ∙ ap (λ o. unwrap_or o (length c.args.sessions.now)) found in
    one_less c.checked_sub.result c.unwrap_or-behind.result c.checked_sub.ensures ∙ ap last_of behind
