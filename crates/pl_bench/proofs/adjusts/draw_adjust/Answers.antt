use Rattle.std.proofs.Common.{rules, ◌≡◌, ◌+◌, ◌∙◌, ap, sym, ℕ, pos, ◌*ℤ◌, length, arith, FitsSigned, to_z, of_z, w32, w64}
use Rattle.std.proofs.lemmas.Int.{ints, to_z-of_z}
use Rattle.pl_bench.specs.Draws.{number_at}
use Rattle.pl_bench.proofs.Days.{length-stated_days}
use Rattle.pl_bench.proofs.Sequences.{behind-none, drawn-next}
use Rattle.pl_bench.proofs.AdjustRows.{adjust-made, day-fits}
use Rattle.pl_bench.proofs.adjusts.draw_adjust.Goals as goal

pub day-requires : goal.day-requires
day-requires c = omega (arith, c.draw-session.ensures.within, ap length c.requires, length-stated_days)

pub returns-clause-row : goal.returns-clause-row
returns-clause-row c =
    let s = c.args.draws.now in
    let first = drawn-next s 0 s c.draw.new.self (sym (behind-none s)) c.draw.ensures.state in
    let second = drawn-next s 1 c.draw.new.self c.draw-session.new.self first c.draw-session.ensures.state in
    let sid = c.draw.ensures.number ∙ ap (λ (n : ℕ). number_at n 400) first in
    let session = c.draw-session.ensures.number ∙ ap (λ (n : ℕ). number_at n 599) second in
    let fi : FitsSigned w64 c.args.id = search rules in
    let fn : FitsSigned w64 c.args.num = search rules in
    let fd : FitsSigned w64 c.args.den = search rules in
    let f32 : FitsSigned w32 c.day.result = search rules in
    let f64 : FitsSigned w64 c.day.result = search rules in
    let day = c.from-effective.ensures ∙ to_z-of_z w32 _ f32 in
    let whole : to_z w64 (of_z w64 c.from-sid.result) ≡ pos (1 + c.draw.result) = omega (arith, ints, c.from-sid.ensures, c.draw.ensures.within) in
    rw (day, to_z-of_z w64 c.args.id fi, to_z-of_z w64 c.args.num fn, to_z-of_z w64 c.args.den fd, to_z-of_z w64 c.day.result f64, to_z-of_z w64 (c.day.result *ℤ pos 86400) (day-fits c.day.result c.day.ensures.date), whole)
    (adjust-made s c.draw.result c.draw-session.result c.args.id c.args.num c.args.den c.day.result c.args.sessions.now c.requires sid session c.day.ensures.exact)

pub returns-clause-draws : goal.returns-clause-draws
returns-clause-draws c =
    let s = c.args.draws.now in
    let first = drawn-next s 0 s c.draw.new.self (sym (behind-none s)) c.draw.ensures.state in
    drawn-next s 1 c.draw.new.self c.draw-session.new.self first c.draw-session.ensures.state
