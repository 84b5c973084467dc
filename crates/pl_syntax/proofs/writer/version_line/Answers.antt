use Rattle.std.proofs.Common.{refl, arith, ◌≡◌}
use Rattle.pl_syntax.proofs.Lines.{first_line}
use Rattle.pl_syntax.proofs.writer.version_line.Goals as goal

pub returns-then-version-eq1 : goal.returns-then-version-eq1
returns-then-version-eq1 c =
    let one : c.args.version ≡ 1 = c.if-version-eq1.true in
    first_line c.args.version c.requires _ (λ e. refl) (λ e. absurd (omega arith)) (λ e. absurd (omega arith)) (λ e. absurd (omega arith))

pub returns-then-version-eq2 : goal.returns-then-version-eq2
returns-then-version-eq2 c =
    let two : c.args.version ≡ 2 = c.if-version-eq2.true in
    first_line c.args.version c.requires _ (λ e. absurd (omega arith)) (λ e. refl) (λ e. absurd (omega arith)) (λ e. absurd (omega arith))

pub returns-then-version-eq3 : goal.returns-then-version-eq3
returns-then-version-eq3 c =
    let three : c.args.version ≡ 3 = c.if-version-eq3.true in
    first_line c.args.version c.requires _ (λ e. absurd (omega arith)) (λ e. absurd (omega arith)) (λ e. refl) (λ e. absurd (omega arith))

pub returns-else-version-eq3 : goal.returns-else-version-eq3
returns-else-version-eq3 c =
    first_line c.args.version c.requires _ (λ e. absurd (c.if-version-eq1.false e)) (λ e. absurd (c.if-version-eq2.false e)) (λ e. absurd (c.if-version-eq3.false e)) (λ e. refl)
