use Rattle.std.proofs.Common.{rules}
use Rattle.pl_grammar.specs.Places.{bare}
use Rattle.pl_syntax.specs.declared.tree.ExprNode.TheVariants.{Number, Text, Name, Call, Prefix, Binary, Member}
use Rattle.pl_syntax.proofs.Likeness.{like, like_member}
use Rattle.pl_syntax.proofs.Same.{never, args_pairwise, begun_args, next, apart, short, ended}
use Rattle.pl_syntax.proofs.equal.+equal.Goals as goal

pub same_args-loop-arg-init : goal.same_args-loop-arg-init
same_args-loop-arg-init t c = begun_args c.args.a.now c.args.b.now c.deref-arg-items.ensures.value c.as_slice-rest.ensures.value

pub same_args-returns-in-empty : goal.same_args-returns-in-empty
same_args-returns-in-empty t c = short args_pairwise _ c.loop-arg-test.true c.arg-item.is c.in-empty.len_below c.loop-arg.invariant

pub same_args-returns-then-not-same_arg : goal.same_args-returns-then-not-same_arg
same_args-returns-then-not-same_arg t c = apart args_pairwise _ c.loop-arg-test.true c.arg-item.is c.in-len1-up.len_at_least c.first-item.is c.loop-arg.invariant c.same_arg.ensures c.if-not-same_arg.true

pub same_args-loop-arg-preserved : goal.same_args-loop-arg-preserved
same_args-loop-arg-preserved t c = next args_pairwise _ c.loop-arg-test.true c.arg-item.is c.in-len1-up.len_at_least c.first-item.is c.loop-arg.invariant (c.same_arg.ensures.0 c.if-not-same_arg.false)

pub same_args-returns : goal.same_args-returns
same_args-returns t c = ended args_pairwise _ c.loop-arg-test.false c.is_empty.ensures c.loop-arg.invariant

pub same_expr-returns-in-Number-Number : goal.same_expr-returns-in-Number-Number
unfolding bare
same_expr-returns-in-Number-Number t c = search rules

pub same_expr-returns-in-Text-Text : goal.same_expr-returns-in-Text-Text
unfolding bare
same_expr-returns-in-Text-Text t c = search rules

pub same_expr-returns-in-Name-Name : goal.same_expr-returns-in-Name-Name
unfolding bare
same_expr-returns-in-Name-Name t c = search rules

pub same_expr-returns-then-same_words : goal.same_expr-returns-then-same_words
unfolding bare
same_expr-returns-then-same_words t c = search rules

pub same_expr-returns-else-same_words : goal.same_expr-returns-else-same_words
unfolding bare
same_expr-returns-else-same_words t c = search rules

pub same_expr-returns-then-same_prefixes : goal.same_expr-returns-then-same_prefixes
unfolding bare
same_expr-returns-then-same_prefixes t c = search rules

pub same_expr-returns-else-same_prefixes : goal.same_expr-returns-else-same_prefixes
unfolding bare
same_expr-returns-else-same_prefixes t c = search rules

pub same_expr-returns-then-same_expr : goal.same_expr-returns-then-same_expr
unfolding bare
same_expr-returns-then-same_expr t c = search rules

pub same_expr-returns-else-same_expr : goal.same_expr-returns-else-same_expr
unfolding bare
same_expr-returns-else-same_expr t c = search rules

pub same_expr-returns-then-same_expr-2 : goal.same_expr-returns-then-same_expr-2
unfolding bare
same_expr-returns-then-same_expr-2 t c = search rules

pub same_expr-returns-else-same_expr-2 : goal.same_expr-returns-else-same_expr-2
unfolding bare
same_expr-returns-else-same_expr-2 t c = search rules

pub same_expr-returns-in_default : goal.same_expr-returns-in_default
unfolding bare
same_expr-returns-in_default t c =
    never (λ h. (let w = like c.args.a.now c.args.b.now (Number c.in_default.field-0-0) c.in_default.is-0 h in c.in_default.not-Number-1 w.0 w.1))

pub same_expr-returns-in_default-2 : goal.same_expr-returns-in_default-2
unfolding bare
same_expr-returns-in_default-2 t c =
    never (λ h. (let w = like c.args.a.now c.args.b.now (Text c.in_default.field-0-0) c.in_default.is-0 h in c.in_default.not-Text-1 w.0 w.1))

pub same_expr-returns-in_default-3 : goal.same_expr-returns-in_default-3
unfolding bare
same_expr-returns-in_default-3 t c =
    never (λ h. (let w = like c.args.a.now c.args.b.now (Name c.in_default.field-0-0) c.in_default.is-0 h in c.in_default.not-Name-1 w.0 w.1))

pub same_expr-returns-in_default-4 : goal.same_expr-returns-in_default-4
unfolding bare
same_expr-returns-in_default-4 t c =
    never (λ h. (let w = like c.args.a.now c.args.b.now (Call c.in_default.field-0-0 c.in_default.field-1-0) c.in_default.is-0 h in c.in_default.not-Call-1 w.0 w.1.0 w.1.1))

pub same_expr-returns-in_default-5 : goal.same_expr-returns-in_default-5
unfolding bare
same_expr-returns-in_default-5 t c =
    never (λ h. (let w = like c.args.a.now c.args.b.now (Prefix c.in_default.field-0-0 c.in_default.field-1-0) c.in_default.is-0 h in c.in_default.not-Prefix-1 w.0 w.1.0 w.1.1))

pub same_expr-returns-in_default-6 : goal.same_expr-returns-in_default-6
unfolding bare
same_expr-returns-in_default-6 t c =
    never (λ h. (let w = like c.args.a.now c.args.b.now (Binary c.in_default.field-0-0 c.in_default.field-1-0 c.in_default.field-2-0) c.in_default.is-0 h in c.in_default.not-Binary-1 w.0 w.1.0 w.1.1.0 w.1.1.1))

pub same_expr-returns-in_default-7 : goal.same_expr-returns-in_default-7
unfolding bare
same_expr-returns-in_default-7 t c =
    let f = c.in_default in
    never (λ h. (let w = like_member f.field-0-0 f.field-1-0 f.field-2-0 c.args.a.now.place c.args.b.now.node (like c.args.a.now c.args.b.now (Member f.field-0-0 f.field-1-0 f.field-2-0) f.is-0 h) in f.not-Member-1 w.0 w.1.0 w.1.1.0 w.1.1.1))
