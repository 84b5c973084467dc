use Rattle.std.proofs.Common.{◌≤◌, length, arith, w32, FitsSigned}
use Rattle.std.proofs.lemmas.Int.{to_z-of_z}
use Rattle.pl_assets.specs.Labels.{AreTexts}
use Rattle.pl_assets.specs.declared.labels.rows.LabelRows.{LabelRows}
use Rattle.pl_assets.proofs.LabelRowsMade.{no_rows, no_places}
use Rattle.pl_assets.proofs.LabelCuts.{row_cut, all_cut}
use Rattle.pl_assets.proofs.labels.rows.LabelRows.cut.Goals as goal

pub loop-place-init : goal.loop-place-init
loop-place-init c =
    let rows : LabelRows = record { names = c.new.result; texts = c.in_ok-copy.field-0; places = c.new-2.result } in
    let texts : AreTexts c.in_ok-copy.field-0 = rw c.in_ok-copy.ensures c.requires.numbered.texts in
    record {
      numbered = no_places rows c.new.ensures texts c.new-2.ensures.items;
      shown = no_rows rows c.new-2.ensures.items;
      texts = c.in_ok-copy.ensures;
      few = rw c.new-2.ensures.items (omega arith);
    }

pub loop-place-preserved : goal.loop-place-preserved
loop-place-preserved c =
    let day : FitsSigned w32 c.args.day = c.ranges.day in
    let before = simp to_z-of_z at c.loop-place.invariant.shown in
    let taken = simp to_z-of_z at c.in_ok-take.ensures.rows in
    let row = rw c.deref-place-items.ensures.value at taken in
    record {
      numbered = c.in_ok-take.ensures.numbered;
      shown = simp to_z-of_z (row_cut c.args.day c.args.self.now c.loop-place.place-index _ _ _ (rw c.deref-place-items.ensures.value at c.loop-place-test.true) before row);
      texts = c.in_ok-take.ensures.texts;
      few = omega (arith, c.in_ok-take.ensures.few, c.loop-place.invariant.few);
    }

pub returns-clause-rows : goal.returns-clause-rows
returns-clause-rows c =
    let day : FitsSigned w32 c.args.day = c.ranges.day in
    let end : length c.args.self.now.places.items ≤ c.loop-place.place-index = grind (arith, c.loop-place-test.false) in
    all_cut c.args.day c.args.self.now c.loop-place.place-index _ end (simp to_z-of_z at c.loop-place.invariant.shown)
