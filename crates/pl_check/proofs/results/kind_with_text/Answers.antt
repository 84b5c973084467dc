use Rattle.std.proofs.Common.{rules, ◌≡◌, true, ◌∙◌, sym, ap}
use Rattle.pl_check.specs.Seen.{bounds_of}
use Rattle.pl_check.specs.Results as spec
use Rattle.pl_check.proofs.results.kind_with_text.Goals as goal

pub returns-in_ok-kind-in-StaticSids : goal.returns-in_ok-kind-in-StaticSids
returns-in_ok-kind-in-StaticSids c = λ e names.
    c.in_ok-kind-in-StaticSids.ensures names ∙ ap (λ o. spec.kind_for o (bounds_of c.args.bound.now) names) (sym c.in-StaticSids.is)

pub returns-in_default : goal.returns-in_default
returns-in_default c = λ e names.
    let free : spec.has_no_text c.args.operation ≡ true = search rules in
    c.kind_with_parameters.ensures free names
