use Rattle.std.proofs.Common.{◌∙◌, arith, refl}
use Rattle.pl_table.proofs.Tiles as tiles
use Rattle.pl_table.proofs.tile.fill.Goals as goal

pub loop-place-preserved : goal.loop-place-preserved
loop-place-preserved c =
    record {
      size = c.fill_place.ensures.others.size ∙ c.loop-place.invariant.size;
      rows = tiles.more-rows c.args.outcome.now c.args.first c.loop-place.place c.loop-place.tile c.fill_place.new.tile c.loop-place.invariant.rows (omega arith) c.fill_place.ensures.others c.fill_place.ensures.rows;
    }

pub loop-place-init : goal.loop-place-init
loop-place-init c = record { size = refl; rows = λ j i h within l. absurd (omega arith) }

pub fill_place-requires-clause-room : goal.fill_place-requires-clause-room
fill_place-requires-clause-room c = rw c.loop-place.invariant.size c.requires.room

pub returns-clause-rows : goal.returns-clause-rows
returns-clause-rows c j i h within l = c.loop-place.invariant.rows j i h within (omega arith)
