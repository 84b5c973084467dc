use Rattle.std.proofs.Common.{ℕ, ◌≤◌, ◌<◌, length, vec_capacity}
use Rattle.pl_world.specs.Worlds.{world_of}
use Rattle.pl_terms.specs.Checked.{pipeline_of}
use Rattle.pl_runner.specs.Chunks.{chunk_at}
use Rattle.pl_runner.specs.Room.{HasRoom}
use Rattle.pl_runner.proofs.room.longest_array.Given as goal

abbrev pub invariant-loop-i : goal.invariant-loop-i
invariant-loop-i l =
    record {
      each : (i : ℕ) → i < l.i → HasRoom (world_of l.asked.world) (pipeline_of l.asked.checked.now) l.asked.plan.now (chunk_at l.asked.plan.now.from l.asked.plan.now.to l.size i) l.longest;
      least : (len : ℕ) → ((i : ℕ) → i < l.i → HasRoom (world_of l.asked.world) (pipeline_of l.asked.checked.now) l.asked.plan.now (chunk_at l.asked.plan.now.from l.asked.plan.now.to l.size i) len) → l.longest ≤ len;
      room : length l.asked.world.assets.now ≤ vec_capacity l.cols;
    }
