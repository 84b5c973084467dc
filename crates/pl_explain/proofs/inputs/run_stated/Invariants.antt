use Rattle.std.proofs.Common.{◌≡◌, ℕ, ◌-◌, ◌≤◌, ◌<◌, true, pos, map, All}
use Rattle.std.specs.List.{range_with_len}
use Rattle.pl_spec.specs.Rounding.{IsCell}
use Rattle.pl_terms.specs.Checked.{pipeline_of}
use Rattle.pl_terms.specs.Nodes.{input_of}
use Rattle.pl_derivation.specs.Facts.{number_in}
use Rattle.pl_world.specs.Worlds.{world_of}
use Rattle.pl_explain.specs.Given.{has, sid_in}
use Rattle.pl_explain.specs.Reading.{fact_at, is_steady_input}
use Rattle.pl_explain.proofs.inputs.run_stated.Given as goal

-- the sessions that have been passed are stated
abbrev pub invariant-loop-earlier : goal.invariant-loop-earlier
invariant-loop-earlier l =
    let b = l.basis in
    let f = λ (k : ℕ). fact_at (is_steady_input (pipeline_of b.checked.now).graph (input_of l.input)) (input_of l.input) (sid_in b l.col) (pos k) (pos l.view) in
    let first = l.end - l.size in
    record {
      from : first ≤ l.earlier;
      to : l.earlier ≤ l.end;
      cells : l.cells.items ≡ map (λ k. number_in (world_of b.world) (pipeline_of b.checked.now) (f k)) (range_with_len first (l.earlier - first));
      all : All IsCell l.cells.items;
      stated : (k : ℕ) → first ≤ k → k < l.earlier → has b.stated.now (f k) ≡ true;
    }
