use Rattle.std.proofs.Common.{◌≡◌, take, None}
use Rattle.pl_terms.specs.Checked.{pipeline_of}
use Rattle.pl_derivation.specs.Facts.{Fact}
use Rattle.pl_derivation.specs.Right.{first_wrong, is_stated}
use Rattle.pl_world.specs.Worlds.{world_of}
use Rattle.pl_explain.specs.Given.{has}
use Rattle.pl_explain.specs.Judging.{IsTable}
use Rattle.pl_explain.proofs.judge.first_wrong.Given as goal

-- the lines that have been passed are right, and what is stated is what they tell
abbrev pub invariant-loop-i : goal.invariant-loop-i
invariant-loop-i g l = record {
  none : first_wrong (world_of l.world) (pipeline_of l.checked) (take l.i l.derivation) ≡ None;
  stated : (f : Fact) → has l.stated f ≡ is_stated (world_of l.world) (take l.i l.derivation) f;
  table : IsTable l.world l.checked l.stated l.rows;
}
