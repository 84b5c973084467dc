use Rattle.std.proofs.Common.{rules, ◌∙◌, ap, sym, arith, FitsSigned, w64, inl, inr}
use Rattle.std.proofs.lemmas.Int.{to_z-of_z}
use Rattle.std.proofs.lemmas.Bool.{cases_eq, true≢false}
use Rattle.pl_spec.specs.Cells.{truth}
use Rattle.pl_table.proofs.Tiles as tiles
use Rattle.pl_table.proofs.tile.mark_rows.Goals as goal
use Rattle.pl_table.proofs.tile.mark_rows.Goals.{then-some, else-some}

pub loop-j-init : goal.loop-j-init
loop-j-init c =
    let o = c.args.outcome.now in
    record {
      marks = tiles.no_strip (tiles.marked o c.args.first c.args.place) (tiles.places_of o) (tiles.width_of o) c.args.place 0 c.args.tile.now;
      none = λ e j h. absurd (omega arith);
    }

pub loop-j-preserved : goal.loop-j-preserved
loop-j-preserved c =
    let o = c.args.outcome.now in
    let n = c.loop-j.j in
    let fits : FitsSigned w64 c.truth_of.result = search rules in
    record {
      marks = rw (to_z-of_z w64 _ fits) (tiles.one_strip (tiles.marked o c.args.first c.args.place) (tiles.places_of o) (tiles.width_of o) n c.args.place 0 c.args.tile.now c.loop-j.tile c.truth_of.result c.start_of-at.result c.loop-j.invariant.marks
          (omega (arith, c.min-j-end.ensures)) c.requires.place (omega arith) (omega (arith, c.requires.room, c.loop-j.auto.tile)) (c.start_of-at.ensures.value ∙ omega arith) (c.truth_of.ensures ∙ ap truth c.has_row-is.ensures));
      none = λ e j h. elim c.if-some.branch [
        | then-some w ↦ absurd (true≢false (sym w.if-some.true ∙ sym w.some-is ∙ e))
        | else-some w ↦ elim (cases_eq j n) [
          | inl q ↦ rw q (sym c.has_row-is.ensures ∙ sym w.some-is ∙ e)
          | inr ne ↦ c.loop-j.invariant.none w.if-some.false j (omega arith)
        ]
      ];
    }
