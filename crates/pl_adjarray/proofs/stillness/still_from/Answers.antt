use Rattle.std.proofs.Common.{◌≡◌, ℕ, [], ◌<◌, ap, arith, get_or, length, subst}
use Rattle.pl_adjarray.specs.Buffered.{Buffered, col_at}
use Rattle.pl_adjarray.specs.Inside.{IsReadyBuffer}
use Rattle.pl_adjarray.specs.Stillness.{IsGreatest, effective_within}
use Rattle.pl_adjarray.proofs.Stretches.{longest, one_more, still_of}
use Rattle.pl_adjarray.proofs.stillness.still_from.Goals as goal

pub loop-i-preserved : goal.loop-i-preserved
loop-i-preserved c =
    let b = c.args.array.now in
    let ready : IsReadyBuffer b = subst IsReadyBuffer c.array.view_is c.array.invariant in
    let E : Buffered → Type 0 = λ x. IsGreatest (λ n. effective_within b c.args.session n (get_or x.cols c.loop-i.i 0) ≡ []) c.loop-i.least c.ahead_of-least.result in
    one_more b ready c.args.session c.loop-i.i c.args.most c.loop-i.least c.ahead_of-least.result c.requires.high c.loop-i.invariant (subst E c.array.view_is c.ahead_of-least.ensures)

pub returns-clause-still : goal.returns-clause-still
returns-clause-still c =
    let b = c.args.array.now in
    let ready : IsReadyBuffer b = subst IsReadyBuffer c.array.view_is c.array.invariant in
    let cols = ap (λ (b : Buffered). length b.cols) c.array.view_is in
    let all_of : c.loop-i.i ≡ length b.cols = omega (arith, cols, c.loop-i-test.false, c.loop-i.auto.i-end) in
    let P : ℕ → Type 0 = λ m. IsGreatest (λ n. (j : ℕ) → j < m → effective_within b c.args.session n (col_at b j) ≡ []) c.args.most c.loop-i.least in
    still_of b ready c.args.session c.args.most c.loop-i.least c.requires.low c.requires.high (subst P all_of c.loop-i.invariant)

pub returns-clause-greatest : goal.returns-clause-greatest
returns-clause-greatest c =
    let b = c.args.array.now in
    let ready : IsReadyBuffer b = subst IsReadyBuffer c.array.view_is c.array.invariant in
    let cols = ap (λ (b : Buffered). length b.cols) c.array.view_is in
    let all_of : c.loop-i.i ≡ length b.cols = omega (arith, cols, c.loop-i-test.false, c.loop-i.auto.i-end) in
    let P : ℕ → Type 0 = λ m. IsGreatest (λ n. (j : ℕ) → j < m → effective_within b c.args.session n (col_at b j) ≡ []) c.args.most c.loop-i.least in
    longest b ready c.args.session c.args.most c.loop-i.least c.requires.low c.requires.high (subst P all_of c.loop-i.invariant)
