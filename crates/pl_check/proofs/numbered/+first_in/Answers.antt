use Rattle.std.proofs.Common.{◌∙◌, ap, sym}
use Rattle.pl_grammar.specs.Tree.{Args}
use Rattle.pl_syntax.specs.Plain.{plain, tree_of}
use Rattle.pl_syntax.specs.declared.tree.Expr.{Expr}
use Rattle.pl_check.specs.Numbered.{calls, calls_among, first_place}
use Rattle.pl_check.proofs.FirstCall.{first-of-some, first-of-none, arg-some, arg-none, member-some, member-list}
use Rattle.pl_check.proofs.numbered.+first_in.Goals as goal

pub first_among-returns-in-Some : goal.first_among-returns-in-Some
first_among-returns-in-Some t c = arg-some c.args.args.now c.first-item.result c.in-Some.place c.in-len1-up.len_at_least c.first-item.is c.in-Some.ensures

pub first_among-returns-in-None : goal.first_among-returns-in-None
first_among-returns-in-None t c =
    c.first_among.ensures ∙ arg-none c.args.args.now c.first-item.result c.in-len1-up.len_at_least c.first-item.is c.in-None.ensures

pub first_in-returns-in-Some : goal.first_in-returns-in-Some
unfolding calls calls_among
first_in-returns-in-Some t c =
    let b = c.in-Binary in
    first-of-some (calls (plain b.left.value)) (calls (plain b.right.value)) c.in-Some.place (c.in-Some.ensures ∙ ap (λ (x : Expr). first_place (calls (plain x))) c.deref-in-Binary.ensures)
    ∙ sym (ap (λ n. first_place (calls (tree_of n c.args.expr.now.place))) b.is)

pub first_in-returns-in-None : goal.first_in-returns-in-None
unfolding calls calls_among
first_in-returns-in-None t c =
    let b = c.in-Binary in
    c.first_in-in-None.ensures ∙ ap (λ (x : Expr). first_place (calls (plain x))) c.deref-in-None.ensures
    ∙ first-of-none (calls (plain b.left.value)) (calls (plain b.right.value)) (c.in-None.ensures ∙ ap (λ (x : Expr). first_place (calls (plain x))) c.deref-in-Binary.ensures)
    ∙ sym (ap (λ n. first_place (calls (tree_of n c.args.expr.now.place))) b.is)

pub first_in-returns-in-Some-first_in : goal.first_in-returns-in-Some-first_in
first_in-returns-in-Some-first_in t c =
    let m = c.in-Member in
    let k = c.in-Some-first_in.ensures ∙ ap (λ (x : Expr). first_place (calls (plain x))) c.deref-in-Member.ensures in
    member-some m.object m.name m.args c.args.expr.now.place c.in-Some-first_in.place k ∙ sym (ap (λ n. first_place (calls (tree_of n c.args.expr.now.place))) m.is)

pub first_in-returns-in-Some-args : goal.first_in-returns-in-Some-args
first_in-returns-in-Some-args t c =
    let m = c.in-Member in
    let k = c.in-None-first_in.ensures ∙ ap (λ (x : Expr). first_place (calls (plain x))) c.deref-in-Member.ensures in
    c.first_among.ensures ∙ ap (λ (ps : Args). first_place (calls_among ps)) c.slice_of.ensures
    ∙ member-list m.object m.name m.args c.in-Some-args.list c.args.expr.now.place c.in-Some-args.is k ∙ sym (ap (λ n. first_place (calls (tree_of n c.args.expr.now.place))) m.is)
