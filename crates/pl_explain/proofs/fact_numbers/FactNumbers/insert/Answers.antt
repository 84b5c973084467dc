use Rattle.std.proofs.Common.{w64, FitsSigned}
use Rattle.std.proofs.lemmas.Int.{to_z-of_z}
use Rattle.pl_explain.specs.Keys.{fact_of}
use Rattle.pl_explain.proofs.Looking.{stated-more}
use Rattle.pl_explain.proofs.fact_numbers.FactNumbers.insert.Goals as goal

pub returns : goal.returns
returns c =
    let fits : FitsSigned w64 c.args.number = c.ranges.number in
    stated-more c.args.self.now (record { numbers = c.insert.new.self }) (fact_of c.args.fact) c.key.result c.args.number c.key.ensures
    (λ q. simp to_z-of_z at (c.in_ok-insert.ensures.updates.0 q))
