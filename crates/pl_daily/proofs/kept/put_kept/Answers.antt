use Rattle.std.proofs.Common.{◌++◌, ◌∷◌, [], ◌∙◌, ap, sym, ℕ, List, length, arith}
use Rattle.pl_spec.proofs.Ranges.{filter-with, filter-without}
use Rattle.pl_daily.proofs.RowsShown.{mask_within}
use Rattle.pl_daily.proofs.KeptPlaces.{in_places}
use Rattle.pl_daily.proofs.kept.put_kept.Goals as goal
use Rattle.pl_daily.proofs.kept.put_kept.Goals.{then-is_kept, else-is_kept}

pub loop-col-preserved : goal.loop-col-preserved
loop-col-preserved c =
    elim c.if-is_kept.branch [
      | then-is_kept b ↦
          let more = filter-with _ c.loop-col.col (sym c.is_kept.ensures ∙ b.if-is_kept.true) in
          let items = rw b.unwrap.ensures at b.push.ensures.items in
          let long = rw b.unwrap.ensures at b.push.ensures.len in
          rw b.kept-is record {
            kept = items ∙ ap (λ (xs : List ℕ). xs ++ c.loop-col.col ∷ []) c.loop-col.invariant.kept ∙ sym more;
            few = omega (arith, long, c.loop-col.invariant.few);
            room = omega (arith, b.push.ensures.capacity, c.loop-col.invariant.room);
          }
      | else-is_kept b ↦
          let more = filter-without _ c.loop-col.col (sym c.is_kept.ensures ∙ b.if-is_kept.false) in
          rw b.kept-is record {
            kept = c.loop-col.invariant.kept ∙ sym more;
            few = omega (arith, c.loop-col.invariant.few);
            room = c.loop-col.invariant.room;
          }
    ]

pub is_kept-requires-clause-mask : goal.is_kept-requires-clause-mask
is_kept-requires-clause-mask c = mask_within c.args.screen (length c.args.assets.now) c.loop-col.col c.requires.screen (omega (arith, c.loop-col-test.true, c.len-col-end.ensures.length))

pub returns-clause-within : goal.returns-clause-within
returns-clause-within c =
    in_places _ (length c.args.assets.now) c.loop-col.col c.loop-col.kept.items c.loop-col.invariant.kept (omega (arith, c.loop-col-test.false, c.loop-col.auto.col-end, c.len-col-end.ensures.length))
