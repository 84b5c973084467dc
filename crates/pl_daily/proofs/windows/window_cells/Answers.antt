use Rattle.std.proofs.Common.{rules, arith, pos, ◌∙◌, sym, subst, get_or, FitsSigned, w64}
use Rattle.std.proofs.lemmas.Int.{to_z-of_z}
use Rattle.pl_spec.specs.Rounding.{IsCell}
use Rattle.pl_values.proofs.Written.{one_given}
use Rattle.pl_daily.specs.Windows.{windowed_by}
use Rattle.pl_daily.proofs.RowsShown.{ShowsAt, all_shown}
use Rattle.pl_daily.proofs.windows.window_cells.Goals as goal

pub window_cell-requires : goal.window_cell-requires
window_cell-requires c =
    let e : FitsSigned w64 c.args.empty = c.ranges.empty in
    record {
      term_day = c.requires.term_day;
      kind = c.requires.kind;
      asset = omega (arith, c.loop-i-test.true, c.requires.long, c.requires.keep);
      none = subst IsCell (sym (to_z-of_z w64 _ e)) c.requires.none;
      first = c.loop-i.invariant.first;
      second = c.loop-i.invariant.second;
      third = c.loop-i.invariant.third;
    }

pub loop-i-preserved : goal.loop-i-preserved
loop-i-preserved c =
    let e : FitsSigned w64 c.args.empty = c.ranges.empty in
    let k : FitsSigned w64 (get_or c.args.keep.now c.loop-i.i (pos 0)) = search rules in
    let r : FitsSigned w64 c.window_cell.result = search rules in
    let value = simp to_z-of_z at c.window_cell.ensures.value in
    let so_far = simp to_z-of_z at c.loop-i.invariant.shown in
    rw (to_z-of_z w64 _ r, to_z-of_z w64 _ e) (record {
      shown = one_given (ShowsAt (windowed_by c.args.term_day.now 0) c.args.empty c.args.keep.now) c.loop-i.i c.loop-i.out c.window_cell.result so_far (omega (arith, c.loop-i-test.true))
          (value, c.window_cell.ensures.cell);
      first = c.window_cell.ensures.first ∙ c.loop-i.invariant.first;
      second = c.window_cell.ensures.second ∙ c.loop-i.invariant.second;
      third = c.window_cell.ensures.third ∙ c.loop-i.invariant.third;
    })

pub returns : goal.returns
returns c =
    let e : FitsSigned w64 c.args.empty = c.ranges.empty in
    let shown = simp to_z-of_z at c.loop-i.invariant.shown in
    all_shown (windowed_by c.args.term_day.now 0) c.args.empty c.args.keep.now c.loop-i.out (c.loop-i.auto.out ∙ c.requires.long)
    (λ i h. shown i (omega (arith, h, c.loop-i-test.false, c.loop-i.auto.out, c.requires.long)))
