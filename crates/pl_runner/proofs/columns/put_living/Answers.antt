use Rattle.std.proofs.Common.{◌++◌, ◌∷◌, [], ◌∙◌, ap, sym, ℕ, List, arith}
use Rattle.pl_spec.proofs.Ranges.{filter-with, filter-without}
use Rattle.pl_world.specs.Worlds.{world_of}
use Rattle.pl_runner.specs.Chunks.{lives_within}
use Rattle.pl_runner.proofs.columns.put_living.Goals as goal
use Rattle.pl_runner.proofs.columns.put_living.Goals.{then-lives_within, else-lives_within}

pub loop-col-preserved : goal.loop-col-preserved
loop-col-preserved c =
    let p = lives_within (world_of c.args.asked.now.world) c.args.low c.args.to in
    elim c.if-lives_within.branch [
      | then-lives_within b ↦
          let more = filter-with p c.loop-col.col (sym c.lives_within.ensures ∙ b.if-lives_within.true) in
          let items = rw b.unwrap.ensures at b.push.ensures.items in
          let long = rw b.unwrap.ensures at b.push.ensures.len in
          rw b.cols-is record {
            cols = items ∙ ap (λ (xs : List ℕ). xs ++ c.loop-col.col ∷ []) c.loop-col.invariant.cols ∙ sym more;
            few = omega (arith, long, c.loop-col.invariant.few);
            room = omega (arith, b.push.ensures.capacity, c.loop-col.invariant.room);
          }
      | else-lives_within b ↦
          let more = filter-without p c.loop-col.col (sym c.lives_within.ensures ∙ b.if-lives_within.false) in
          rw b.cols-is record {
            cols = c.loop-col.invariant.cols ∙ sym more;
            few = omega (arith, c.loop-col.invariant.few);
            room = c.loop-col.invariant.room;
          }
    ]
