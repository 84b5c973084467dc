use Rattle.std.proofs.Common.{◌≡◌, ◌≤◌, map, take, filter, flat_map, length, pos}
use Rattle.pl_spec.specs.World.{exists}
use Rattle.pl_terms.specs.Checked.{pipeline_of}
use Rattle.pl_terms.specs.Nodes.{node_of}
use Rattle.pl_derivation.specs.Facts.{entry_facts}
use Rattle.pl_explain.specs.Keys.{fact_of}
use Rattle.pl_world.specs.Worlds.{world_of}
use Rattle.pl_explain.proofs.reads.section_read.Given as goal

-- the assets that have been passed
abbrev pub invariant-loop-col : goal.invariant-loop-col
invariant-loop-col l = record {
  to : l.col ≤ length l.world.assets.now;
  facts : map fact_of l.facts.items
      ≡ flat_map (entry_facts (pipeline_of l.checked).graph (node_of l.node) (pos l.session)) (filter (λ a. exists (world_of l.world) a (pos l.session)) (map (λ a. a.sid) (take l.col l.world.assets.now)));
}
