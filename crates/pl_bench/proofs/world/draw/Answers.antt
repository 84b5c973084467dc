use Rattle.std.proofs.Common.{◌≡◌, ◌∙◌, ap, subst, sym, rules, ℕ, ℤ, List, Some, pos, length, arith, FitsSigned, w32}
use Rattle.std.specs.Prelude.{slice_get}
use Rattle.std.proofs.lemmas.Int.{to_z-of_z}
use Rattle.std.proofs.lemmas.Option.{get_or_from_slice_get}
use Rattle.pl_bench.specs.StatedWorld.{stated_days, stated_labels, bars_from, adjustments_from}
use Rattle.pl_bench.specs.Draws.{behind}
use Rattle.pl_bench.proofs.Days.{length-stated_days}
use Rattle.pl_bench.proofs.Sequences.{behind-more}
use Rattle.pl_bench.proofs.world.draw.Goals as goal

pub day-requires : goal.day-requires
day-requires c = omega (arith, ap length c.requires.sessions, length-stated_days)

pub draw_sectors-requires-clause-start : goal.draw_sectors-requires-clause-start
draw_sectors-requires-clause-start c =
    let fits : FitsSigned w32 c.day.result = search rules in
    to_z-of_z w32 c.day.result fits ∙ sym (get_or_from_slice_get stated_days 0 c.day.result (pos 0) (subst (λ (d : List ℤ). slice_get d 0 ≡ Some c.day.result) c.requires.sessions c.day.ensures.exact))

pub returns-clause-labels : goal.returns-clause-labels
returns-clause-labels c = c.in_ok-labels.ensures.labels ∙ ap stated_labels c.new-draws.ensures

pub returns-clause-bars : goal.returns-clause-bars
returns-clause-bars c =
    let sectors = c.in_ok-labels.ensures.draws ∙ ap (λ (n : ℕ). behind n 400) c.new-draws.ensures in
    c.in_ok-bars.ensures.bars ∙ ap bars_from sectors

pub returns-clause-adjustments : goal.returns-clause-adjustments
returns-clause-adjustments c =
    let sectors = c.in_ok-labels.ensures.draws ∙ ap (λ (n : ℕ). behind n 400) c.new-draws.ensures in
    let bars = c.in_ok-bars.ensures.draws ∙ ap (λ (n : ℕ). behind n 480400) sectors ∙ behind-more c.args.number 400 480400 in
    c.in_ok-adjustments.ensures.adjustments ∙ ap adjustments_from bars
