use Rattle.std.proofs.Common.{◌≡◌, ◌<◌, w32, ◌+◌, ◌++◌, ◌∷◌, [], ◌∙◌, ap, sym, ℤ, pos, List, arith}
use Rattle.std.proofs.lemmas.Int.{to_z_pos}
use Rattle.std.proofs.lemmas.List.{append-nil}
use Rattle.pl_bench.proofs.Days.{are_weekdays, weekdays_in, weekdays_in-more}
use Rattle.pl_bench.proofs.sessions.weekdays.Goals as goal
use Rattle.pl_bench.proofs.sessions.weekdays.Goals.{then-is_weekday+in_ok-push, else-is_weekday}

pub loop-past-preserved : goal.loop-past-preserved
loop-past-preserved c =
    let more = weekdays_in-more c.loop-past.past in
    elim c.if-is_weekday.branch [
      | then-is_weekday+in_ok-push w ↦ (let t = sym c.is_weekday.ensures ∙ w.if-is_weekday.true in
          let few : c.loop-past.past < 840 = c.loop-past-test.true in
          let day = to_z_pos w32 (18262 + c.loop-past.past) (omega arith) in
          rw w.days-is (rw day at w.in_ok-push.ensures.items ∙ ap (λ (ds : List ℤ). ds ++ pos (18262 + c.loop-past.past) ∷ []) c.loop-past.invariant ∙ sym (rw t at more)))
      | else-is_weekday w ↦ (let t = sym c.is_weekday.ensures ∙ w.if-is_weekday.false in
          rw w.days-is (c.loop-past.invariant ∙ sym (append-nil (weekdays_in c.loop-past.past)) ∙ sym (rw t at more)))
    ]

pub returns : goal.returns
returns c =
    let all : c.loop-past.past ≡ 840 = omega arith in
    c.loop-past.invariant ∙ ap weekdays_in all ∙ are_weekdays
