use Rattle.std.proofs.Common.{◌≡◌, ◌∙◌, ◌+◌, ◌-◌, ◌++◌, length, take, drop, ap, sym, rules, vec_len}
use Rattle.pl_bars.proofs.BarPieces.{faulty-told, faulty-at, judged-at, left-plain, rest-of}
use Rattle.pl_bars.proofs.pieces.go_on.Goals as goal

pub returns-in_err-judge-clause-fault : goal.returns-in_err-judge-clause-fault
returns-in_err-judge-clause-fault c text read =
    faulty-told c.args.sessions.now c.args.assets.now _ _ _ c.from_residual-in_err-judge.ensures.1
    (faulty-at c.args.sessions.now c.args.assets.now text c.args.piece.now c.args.left.now.text.items c.deref.result.now c.in-Some.at _ c.args.judged.now _ read
    (ap (λ n. n + c.in-Some.at) (c.len-before.ensures ∙ (let v : vec_len c.args.left.now.text ≡ length c.args.left.now.text.items = search rules in v))) (c.deref.ensures.value ∙ c.in_ok-extend_from_slice.ensures.items)
    (rw c.if-left.false at c.requires.left) (sym c.has_no_quote.ensures.value ∙ c.if-not-has_no_quote.false) c.in-Some.ensures c.in_err-judge.ensures.fault)

pub returns-in_ok-extend_from_slice-2-clause-read : goal.returns-in_ok-extend_from_slice-2-clause-read
returns-in_ok-extend_from_slice-2-clause-read c text read =
    judged-at c.args.sessions.now c.args.assets.now text c.args.piece.now c.args.left.now.text.items c.deref.result.now _ c.in-Some.at _ c.args.judged.now _ read
    (ap (λ n. n + c.in-Some.at) (c.len-before.ensures ∙ (let v : vec_len c.args.left.now.text ≡ length c.args.left.now.text.items = search rules in v))) (c.deref.ensures.value ∙ c.in_ok-extend_from_slice.ensures.items)
    (rw c.if-left.false at c.requires.left) (sym c.has_no_quote.ensures.value ∙ c.if-not-has_no_quote.false) c.in-Some.ensures
    c.in_ok-judge.ensures.rows c.in_ok-judge.ensures.kept
    (c.in_ok-extend_from_slice-2.ensures.items ∙ ap (λ l. l ++ take (length c.args.piece.now - c.in-Some.at) (drop c.in-Some.at c.args.piece.now)) c.clear.ensures.items ∙ rest-of c.args.piece.now c.in-Some.at)

pub returns-in_ok-extend_from_slice-2-clause-left : goal.returns-in_ok-extend_from_slice-2-clause-left
returns-in_ok-extend_from_slice-2-clause-left c =
    rw (c.if-left.false, c.in_ok-extend_from_slice-2.ensures.items ∙ ap (λ l. l ++ take (length c.args.piece.now - c.in-Some.at) (drop c.in-Some.at c.args.piece.now)) c.clear.ensures.items ∙ rest-of c.args.piece.now c.in-Some.at)
    (left-plain c.args.sessions.now c.args.assets.now c.in-Some.at c.args.piece.now (sym c.has_no_quote.ensures.value ∙ c.if-not-has_no_quote.false))
