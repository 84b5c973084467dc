use Rattle.std.proofs.Common.{ℕ, ◌+◌, ℤ, List, ◌++◌, ◌∙◌, drop, flat_map, FitsSigned, sym, ap, arith, rules}
use Rattle.std.specs.Int.{w32, cast_unsigned}
use Rattle.std.proofs.lemmas.Int.{to_z-of_z}
use Rattle.std.proofs.lemmas.List.{at_drop_more}
use Rattle.std.proofs.lemmas.Option.{get_or_from_slice_get}
use Rattle.pl_packed.specs.Packed.{four_bytes}
use Rattle.pl_packed.proofs.Pushes.{push-more}
use Rattle.pl_packed.proofs.head.put_days.Goals as goal

abbrev day_bytes : List ℤ → List ℕ
day_bytes days = flat_map (λ day. four_bytes (cast_unsigned w32 day)) days

pub days-preserved : goal.days-preserved
days-preserved c =
    let days = c.args.sessions.now in
    let i = c.days.i in
    let day = c.day.result in
    let fits : FitsSigned w32 day = search rules in
    let piece = c.four_bytes-in-days.ensures ∙ ap four_bytes (c.cast_unsigned.ensures ∙ ap (λ z. cast_unsigned w32 z) (to_z-of_z w32 day fits)) in
    let next = at_drop_more day_bytes days i day (omega (arith, c.days-test.true, c.len-count.ensures.length)) in
    let left = ap (λ z. four_bytes (cast_unsigned w32 z) ++ day_bytes (drop (i + 1) days)) (get_or_from_slice_get days i day day c.day.ensures.exact) in
    push-more c.days.head.items _ c.four_bytes-in-days.result (day_bytes (drop (i + 1) days)) (day_bytes (drop i days)) _
    c.in_ok-extend_from_slice-2.ensures.items (next ∙ left ∙ ap (λ s. s ++ day_bytes (drop (i + 1) days)) (sym piece)) c.days.invariant
