use Rattle.std.proofs.Common.{◌≡◌, ℕ, ◌<◌, true, pos, map, take, All}
use Rattle.pl_spec.specs.Rounding.{IsCell}
use Rattle.pl_world.specs.Evaluations.{cell_in}
use Rattle.pl_world.specs.Worlds.{world_of}
use Rattle.pl_explain.specs.Given.{has_all, living_facts, sid_in}
use Rattle.pl_explain.proofs.sections.row_stated.Given as goal

-- the term is stated for the assets that have been passed
abbrev pub invariant-loop-col : goal.invariant-loop-col
invariant-loop-col l = record {
  cells : l.row.items ≡ map (λ b. cell_in l.basis.world l.basis.checked.now l.u.0 b.sid l.session) (take l.col l.basis.world.assets.now);
  all : All IsCell l.row.items;
  stated : (i : ℕ) → i < l.col → has_all l.basis.stated.now (living_facts (world_of l.basis.world) l.u.0 (sid_in l.basis i) (pos l.session)) ≡ true;
}
