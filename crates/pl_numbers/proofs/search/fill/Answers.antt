use Rattle.std.proofs.Common.{◌≡◌, ◌∙◌, ◌+◌, ◌<◌, ◌^◌, [], length, get_or, pos, sym, ap, rules, arith, FitsSigned, w32, w64, to_z, of_z}
use Rattle.std.proofs.lemmas.Int.{to_z-of_z}
use Rattle.std.proofs.lemmas.Option.{get_or_from_slice_get}
use Rattle.pl_spec.specs.Rounding.{IsCell}
use Rattle.pl_assets.specs.LabelPlaces.{key}
use Rattle.pl_bars.proofs.BarStretch.{written_each}
use Rattle.pl_numbers.specs.Numbers.{number_on}
use Rattle.pl_numbers.specs.NumberPlaces.{KeyPoint, shown_rows}
use Rattle.pl_numbers.proofs.NumberSearch.{day_fits, days_stand, fits_day, low_later}
use Rattle.pl_numbers.proofs.search.fill.Goals as goal

pub point_of-at-requires : goal.point_of-at-requires
point_of-at-requires c = rw c.deref.ensures.value c.requires.table.rise

pub overflow_add-first : goal.overflow_add-first
overflow_add-first c =
    let small : c.args.first + c.loop-k.k < 2 ^ 64 = omega (arith, c.loop-k-test.true, c.requires.range, c.len-count.ensures.length, c.len-count.ensures.few) in
    search rules

pub point_onward-at-requires-clause-rise : goal.point_onward-at-requires-clause-rise
point_onward-at-requires-clause-rise c = rw c.deref-in-loop-k.ensures.value c.requires.table.rise

pub loop-k-preserved : goal.loop-k-preserved
loop-k-preserved c =
    let rows = c.args.rows.now in
    let sessions = c.args.sessions.now in
    let today = c.args.first + c.loop-k.k in
    let fits : FitsSigned w32 c.day-day.result = fits_day c.day-day.result c.day-day.ensures.date in
    let its_key : c.key-in-loop-k.result ≡ key c.args.name c.args.col c.day-day.result = simp to_z-of_z at c.key-in-loop-k.ensures in
    let point : KeyPoint rows.places.items (key c.args.name c.args.col c.day-day.result) c.point_onward-at.result = rw (c.deref-in-loop-k.ensures.value, its_key) at c.point_onward-at.ensures.point in
    let value : c.value_before.result ≡ number_on c.args.figure (shown_rows rows) (get_or rows.names c.args.name []) c.args.col (get_or sessions today (pos 0)) =
    simp to_z-of_z at c.value_before.ensures.value
    ∙ ap (number_on c.args.figure (shown_rows rows) (get_or rows.names c.args.name []) c.args.col) (sym (get_or_from_slice_get sessions today c.day-day.result (pos 0) c.day-day.ensures.exact)) in
    let cell : FitsSigned w64 c.value_before.result = search rules in
    let same : to_z w64 (of_z w64 c.value_before.result) ≡ c.value_before.result = to_z-of_z w64 c.value_before.result cell in
    let is_cell : IsCell (to_z w64 (of_z w64 c.value_before.result)) = rw same c.value_before.ensures.cell in
    let inside : c.loop-k.k < length c.loop-k.into = omega (arith, c.loop-k-test.true, c.loop-k.auto.into) in
    record {
      within = rw c.deref-in-loop-k.ensures.value at c.point_onward-at.ensures.within;
      low = λ j day later at. low_later rows.places.items c.args.name c.args.col c.day-day.result day c.point_onward-at.result fits
          (day_fits sessions c.len-count.ensures.days (c.args.first + j) day at)
          (days_stand sessions c.len-count.ensures.days today (c.args.first + j) c.day-day.result day (omega arith) c.day-day.ensures.exact at) point;
      values = written_each (λ j v. v ≡ number_on c.args.figure (shown_rows rows) (get_or rows.names c.args.name []) c.args.col (get_or sessions (c.args.first + j) (pos 0))) c.loop-k.into c.loop-k.k _ inside
          c.loop-k.invariant.values (same ∙ value);
      cells = written_each (λ j v. IsCell v) c.loop-k.into c.loop-k.k _ inside c.loop-k.invariant.cells is_cell;
    }
