use Rattle.std.proofs.Common.{◌∙◌, ◌-◌, ◌+◌, ◌/◌, sym, pos, ℕ, get_or, arith, FitsSigned, w32, rules}
use Rattle.std.proofs.lemmas.Int.{to_z-of_z}
use Rattle.pl_calendar.proofs.PeriodSearch.{raised, met}
use Rattle.pl_calendar.proofs.periods.period_start.Goals as goal

pub loop-low-preserved-then-is_earlier : goal.loop-low-preserved-then-is_earlier
loop-low-preserved-then-is_earlier c =
    let middle : ℕ = c.loop-low.low + (c.loop-low.high - c.loop-low.low) / 2 in
    let of_middle : FitsSigned w32 (get_or c.args.days.now (c.loop-low.low + (c.loop-low.high - c.loop-low.low) / 2) (pos 0)) = search rules in
    let of_i : FitsSigned w32 (get_or c.args.days.now c.args.i (pos 0)) = search rules in
    let same = simp to_z-of_z at c.is_earlier.ensures in
    record { bracket = raised c.args.frequency c.args.days.now c.requires.days c.args.i c.requires.within c.loop-low.low c.loop-low.high middle c.loop-low.invariant.bracket (omega (arith, c.loop-low-test.true)) (sym same ∙ c.if-is_earlier.true) }

pub returns-clause-exact : goal.returns-clause-exact
returns-clause-exact c =
    met c.args.frequency c.args.days.now c.requires.days c.args.i c.requires.within c.loop-low.low c.loop-low.high c.loop-low.invariant.bracket (omega (arith, c.loop-low-test.false))
