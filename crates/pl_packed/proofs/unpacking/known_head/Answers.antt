use Rattle.std.proofs.Common.{◌++◌, sym, ap, ◌∙◌}
use Rattle.pl_packed.specs.Packed.{days_bytes, sids_bytes}
use Rattle.pl_packed.proofs.Fronts.{begins-is, begins-yes, begins-no}
use Rattle.pl_packed.proofs.unpacking.known_head.Goals as goal

pub returns-then-not-starts_with-2-clause-fault : goal.returns-then-not-starts_with-2-clause-fault
returns-then-not-starts_with-2-clause-fault c =
    let bytes = c.args.bytes.now in
    let first = c.in_ok-head.ensures.items ∙ c.mark.ensures in
    let second = c.in_ok-put_days.ensures ∙ ap (λ s. s ++ days_bytes c.args.sessions.now) first in (
      begins-is bytes (c.deref.ensures.value ∙ first) (begins-yes bytes c.deref.result.now c.starts_with.result c.starts_with.ensures.value c.if-not-starts_with.false),
      λ h. begins-no bytes c.deref-2.result.now c.starts_with-2.result c.starts_with-2.ensures.value c.if-not-starts_with-2.true
          (begins-is bytes (sym (c.deref-2.ensures.value ∙ second)) h),
    )

pub returns-then-not-starts_with-3-clause-fault : goal.returns-then-not-starts_with-3-clause-fault
returns-then-not-starts_with-3-clause-fault c =
    let bytes = c.args.bytes.now in
    let first = c.in_ok-head.ensures.items ∙ c.mark.ensures in
    let second = c.in_ok-put_days.ensures ∙ ap (λ s. s ++ days_bytes c.args.sessions.now) first in
    let third = c.in_ok-put_sids.ensures ∙ ap (λ s. s ++ sids_bytes c.args.assets.now) second in (
      begins-is bytes (c.deref-2.ensures.value ∙ second)
          (begins-yes bytes c.deref-2.result.now c.starts_with-2.result c.starts_with-2.ensures.value c.if-not-starts_with-2.false),
      λ h. begins-no bytes c.deref-3.result.now c.starts_with-3.result c.starts_with-3.ensures.value c.if-not-starts_with-3.true
          (begins-is bytes (sym (c.deref-3.ensures.value ∙ third)) h),
    )

pub returns-clause-begins : goal.returns-clause-begins
returns-clause-begins c =
    let bytes = c.args.bytes.now in
    begins-is bytes c.deref-3.ensures.value
    (begins-yes bytes c.deref-3.result.now c.starts_with-3.result c.starts_with-3.ensures.value c.if-not-starts_with-3.false)
