use Rattle.std.proofs.Common.{rules, ◌≡◌, true}
use Rattle.pl_check.specs.Seen.{bounds_of}
use Rattle.pl_check.specs.Results as spec
use Rattle.pl_check.proofs.results.kind_with_parameters.Goals as goal

pub returns-in_default : goal.returns-in_default
returns-in_default c = λ e names.
    let free : spec.is_plain c.args.operation ≡ true = search rules in
    c.kind_without_parameters.ensures free (bounds_of c.args.bound.now) names
