use Rattle.std.proofs.Common.{◌≡◌, ◌+◌, ◌<◌, ◌≤◌, length, arith, w32, w64, FitsSigned}
use Rattle.std.proofs.lemmas.Int.{to_z-of_z}
use Rattle.pl_adjarray.proofs.Puts.{found_at, found_none, put_other, put_own}
use Rattle.pl_adjarray.proofs.sliding.put.Goals as goal
use Rattle.pl_adjarray.proofs.sliding.put.Goals.{else-part-session-via-then-part-session+else-session-part, else-part-session-via-else-part-session}

pub returns-then-session-part-clause-own : goal.returns-then-session-part-clause-own
returns-then-session-part-clause-own c j h day =
    let fits : FitsSigned w32 c.args.bar_day = c.ranges.bar_day in
    let value : FitsSigned w64 c.args.value = c.ranges.value in
    let is = simp to_z-of_z at c.index_of.ensures.exact in
    let inside : c.args.part.at + j < length c.args.cells.now = omega (arith, c.requires.room) in
    rw (to_z-of_z w64 _ value)
    (put_own c.args.sessions.now c.len-ascending.ensures.days c.args.bar_day c.index_of.result is c.args.cells.now c.args.part.at c.args.part.first c.in-Some.session j c.args.value c.in-Some.is day inside)

pub returns-then-session-part-clause-others : goal.returns-then-session-part-clause-others
returns-then-session-part-clause-others c bar j h day other =
    let fits : FitsSigned w32 c.args.bar_day = c.ranges.bar_day in
    let value : FitsSigned w64 c.args.value = c.ranges.value in
    let is = simp to_z-of_z at c.index_of.ensures.exact in
    let low : c.args.part.first ≤ c.in-Some.session = omega (arith, c.if-part-session.true) in
    rw (to_z-of_z w64 _ value)
    (put_other c.args.sessions.now c.len-ascending.ensures.days c.args.bar_day c.index_of.result is c.args.cells.now c.args.part.at c.args.part.first c.in-Some.session j bar c.args.value c.in-Some.is low day other)

pub returns-else-part-session-clause-own : goal.returns-else-part-session-clause-own
returns-else-part-session-clause-own c j h day =
    let fits : FitsSigned w32 c.args.bar_day = c.ranges.bar_day in
    let is = simp to_z-of_z at c.index_of.ensures.exact in
    let same : c.in-Some.session ≡ c.args.part.first + j = found_at c.args.sessions.now c.len-ascending.ensures.days c.args.bar_day c.index_of.result is c.in-Some.session (c.args.part.first + j) c.in-Some.is day in
    absurd (elim c.else-part-session.branch [
      | else-part-session-via-then-part-session+else-session-part w ↦ omega (arith, same, h, w.if-part-session.true, w.if-session-part.false)
      | else-part-session-via-else-part-session w ↦ omega (arith, same, h, w.if-part-session.false)
    ])

pub returns-in_default-clause-own : goal.returns-in_default-clause-own
returns-in_default-clause-own c j h day =
    let fits : FitsSigned w32 c.args.bar_day = c.ranges.bar_day in
    let is = simp to_z-of_z at c.index_of.ensures.exact in
    absurd (found_none c.args.sessions.now c.len-ascending.ensures.days c.args.bar_day c.index_of.result is (c.args.part.first + j) c.in_default.is day)
