use Rattle.std.proofs.Common.{◌≡◌, ◌+◌, ◌*◌, ◌/◌, ◌%◌, arith}
use Rattle.pl_fixed.proofs.DayLemmas.{IsSpelled, IsSpelled-date_spelling, date_spelling-pairs}
use Rattle.pl_fixed.proofs.day.parts_of.Goals as goal
use Rattle.pl_fixed.proofs.day.parts_of.Goals.{then-b-ne10-via-then-b-ne10, then-b-ne10-via-else-b-ne10+then-b-ne45, then-b-ne10-via-else-b-ne10+else-b-ne45+then-b-ne45-2}

pub returns-then-b-ne10-clause-only : goal.returns-then-b-ne10-clause-only
returns-then-b-ne10-clause-only c = λ y m d hy hm hd e.
    let s : IsSpelled c.args.b.now y m d = IsSpelled-date_spelling _ y m d hy hm hd e in
    elim c.then-b-ne10.branch [
      | then-b-ne10-via-then-b-ne10 w ↦ absurd (omega (arith, s.size))
      | then-b-ne10-via-else-b-ne10+then-b-ne45 w ↦ absurd (omega (arith, s.dash))
      | then-b-ne10-via-else-b-ne10+else-b-ne45+then-b-ne45-2 w ↦ absurd (omega (arith, s.again))
    ]

pub returns-in_err-century-clause-only : goal.returns-in_err-century-clause-only
returns-in_err-century-clause-only c = λ y m d hy hm hd e.
    let s = IsSpelled-date_spelling _ y m d hy hm hd e in absurd (cc (c.in_err-century.ensures.only _ s.century))

pub returns-in_err-rest-clause-only : goal.returns-in_err-rest-clause-only
returns-in_err-rest-clause-only c = λ y m d hy hm hd e.
    let s = IsSpelled-date_spelling _ y m d hy hm hd e in absurd (cc (c.in_err-rest.ensures.only _ s.rest))

pub returns-in_err-month-clause-only : goal.returns-in_err-month-clause-only
returns-in_err-month-clause-only c = λ y m d hy hm hd e.
    let s = IsSpelled-date_spelling _ y m d hy hm hd e in absurd (cc (c.in_err-month.ensures.only _ s.month))

pub returns-in_err-day-clause-only : goal.returns-in_err-day-clause-only
returns-in_err-day-clause-only c = λ y m d hy hm hd e.
    let s = IsSpelled-date_spelling _ y m d hy hm hd e in absurd (cc (c.in_err-day.ensures.only _ s.day))

pub returns-clause-found : goal.returns-clause-found
returns-clause-found c =
    rw (c.from.ensures, c.from-2.ensures)
    (date_spelling-pairs c.args.b.now c.in_ok-century.century c.in_ok-rest.rest c.in_ok-month.month c.in_ok-day.day
    (omega arith) (omega arith) (omega arith)
    c.in_ok-century.ensures.found c.in_ok-rest.ensures.found c.in_ok-month.ensures.found c.in_ok-day.ensures.found)

pub returns-clause-only : goal.returns-clause-only
returns-clause-only c = λ y m d hy hm hd e.
    let s = IsSpelled-date_spelling _ y m d hy hm hd e in
    let century : c.in_ok-century.century ≡ y / 100 = cc (c.in_ok-century.ensures.only _ s.century) in
    let rest : c.in_ok-rest.rest ≡ y % 100 = cc (c.in_ok-rest.ensures.only _ s.rest) in
    let year : c.from.result * 100 + c.from-2.result ≡ y = omega (arith, c.from.ensures, c.from-2.ensures) in
    let month : c.in_ok-month.month ≡ m = cc (c.in_ok-month.ensures.only _ s.month) in
    let day : c.in_ok-day.day ≡ d = cc (c.in_ok-day.ensures.only _ s.day) in
    rw (year, month, day)
