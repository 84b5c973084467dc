use Rattle.std.proofs.Common.{◌∙◌, ◌^◌, sym, ap}
use Rattle.pl_fixed.proofs.ReadingLemmas.{in_range-capped, judged-short, judged-long}
use Rattle.pl_fixed.proofs.decimal.judge.Goals as goal

pub returns-then-digits-gt18 : goal.returns-then-digits-gt18
returns-then-digits-gt18 c = λ d digits sign units part count. sym (judged-long d (rw (← count) c.if-digits-gt18.true))

pub returns-then-digits-le6 : goal.returns-then-digits-le6
returns-then-digits-le6 c = λ d digits sign units part count.
    let short = rw count at c.if-digits-gt18.false in
    rw sign at c.judge_short.ensures
    ∙ in_range-capped d _ _ _ short digits units part (ap (λ k. 10 ^ k) count)
    ∙ sym (judged-short d short)

pub returns-else-digits-le6 : goal.returns-else-digits-le6
returns-else-digits-le6 c = λ d digits sign units part count.
    let short = rw count at c.if-digits-gt18.false in
    rw sign at c.judge_long.ensures
    ∙ in_range-capped d _ _ _ short digits units part (ap (λ k. 10 ^ k) count)
    ∙ sym (judged-short d short)
