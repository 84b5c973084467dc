use Rattle.std.proofs.Common.{rules, ◌≡◌, ◌∙◌, max, ap, arith}
use Rattle.std.specs.Prelude.{ℕ}
use Rattle.pl_world.specs.Worlds.{world_of}
use Rattle.pl_terms.specs.Checked.{pipeline_of}
use Rattle.pl_runner.specs.Chunks.{chunk_count}
use Rattle.pl_runner.proofs.Rooms.{rooms-more, room-at, room-back}
use Rattle.pl_runner.proofs.room.longest_array.Goals as goal

pub loop-i-preserved : goal.loop-i-preserved
loop-i-preserved c =
    let w = world_of c.args.asked.now.world in let p = pipeline_of c.args.asked.now.checked.now in let plan = c.args.asked.now.plan.now in
    let m : c.max-longest.result ≡ max c.loop-i.longest c.array_of.result = search rules in
    let own = room-at w p plan c.args.size c.loop-i.i c.from-in-loop-i.result c.to-in-loop-i.result _ c.array_of.result c.from-in-loop-i.ensures.value c.to-in-loop-i.ensures.value c.chunk_at-chunk.ensures.value c.array_of.ensures.each in
    record {
      each = rooms-more w p plan plan.from plan.to c.args.size c.loop-i.i c.loop-i.longest c.array_of.result c.max-longest.result c.loop-i.invariant.each own m;
      least = λ len h. (let before = c.loop-i.invariant.least len (λ i l. h i (omega arith)) in let now = c.array_of.ensures.least len (room-back w p plan c.args.size c.loop-i.i c.from-in-loop-i.result c.to-in-loop-i.result _ len c.from-in-loop-i.ensures.value c.to-in-loop-i.ensures.value c.chunk_at-chunk.ensures.value (h c.loop-i.i (omega arith))) in omega (arith, m, before, now));
      room = c.array_of.ensures.room;
    }

pub returns-clause-least : goal.returns-clause-least
returns-clause-least c =
    let plan = c.args.asked.now.plan.now in
    let many : c.chunk_count-i-end.result ≡ chunk_count plan.from plan.to c.args.size = c.chunk_count-i-end.ensures.value ∙ ap (λ (x : ℕ). chunk_count x c.to.result c.args.size) c.from.ensures.value ∙ ap (λ (x : ℕ). chunk_count plan.from x c.args.size) c.to.ensures.value in
    λ len h. c.loop-i.invariant.least len (λ i l. h i (omega (arith, l, c.loop-i.auto.i-end, many)))
