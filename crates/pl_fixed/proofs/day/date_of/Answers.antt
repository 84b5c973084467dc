use Rattle.std.proofs.Common.{rules, FitsSigned, w32, w64}
use Rattle.std.proofs.lemmas.Int.{to_z-of_z}
use Rattle.pl_fixed.proofs.DayLemmas.{year_early, year_late}
use Rattle.pl_fixed.proofs.day.date_of.Goals as goal

pub returns-clause-early : goal.returns-clause-early
returns-clause-early c =
    let f : FitsSigned w32 c.args.day = c.ranges.day in
    let wide : FitsSigned w64 c.args.day = search rules in
    let same = simp to_z-of_z at (rw c.unwrap.ensures at c.from_unix_epoch_day.ensures.value) in
    year_early c.unwrap.result (rw same c.requires.first)

pub returns-clause-late : goal.returns-clause-late
returns-clause-late c =
    let f : FitsSigned w32 c.args.day = c.ranges.day in
    let wide : FitsSigned w64 c.args.day = search rules in
    let same = simp to_z-of_z at (rw c.unwrap.ensures at c.from_unix_epoch_day.ensures.value) in
    year_late c.unwrap.result (rw same c.requires.last)
