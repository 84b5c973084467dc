use Rattle.std.proofs.Common.{◌∙◌, ap}
use Rattle.pl_grammar.specs.Tree.{Tree}
use Rattle.pl_check.specs.Numbered.{calls, first_place}
use Rattle.pl_check.proofs.FirstCall.{stated-some, stated-none}
use Rattle.pl_check.proofs.numbered.+first_stated.Goals as goal

pub returns-in-Some : goal.returns-in-Some
returns-in-Some t c =
    let k = c.in-Some.ensures ∙ ap (λ (x : Tree). first_place (calls x)) c.expr_of.ensures in
    stated-some c.args.statements.now c.first-item.result c.in-Some.place c.in-len1-up.len_at_least c.first-item.is k

pub returns-in-None : goal.returns-in-None
returns-in-None t c =
    let k = c.in-None.ensures ∙ ap (λ (x : Tree). first_place (calls x)) c.expr_of.ensures in
    c.first_stated.ensures ∙ stated-none c.args.statements.now c.first-item.result c.in-len1-up.len_at_least c.first-item.is k
