use Rattle.std.proofs.Common.{rules, ◌≡◌, string_bytes, subst}
use Rattle.pl_adjust_sql.specs.Copies.{IsOther}
use Rattle.pl_adjust_sql.proofs.file_keeper.named_copy.Goals as goal

pub returns-then-eq-clause-opened : goal.returns-then-eq-clause-opened
returns-then-eq-clause-opened c =
    let named : string_bytes c.in-Some.copied.name ≡ c.args.name.now = search rules in
    λ other. absurd (subst (λ kept. IsOther kept c.args.name.now) c.in-Some.is other named)
