use Rattle.std.proofs.Common.{None, ◌≡◌, ◌+◌, ◌-◌, ◌*◌, ◌≤◌, map, All, take, sum_by}
use Rattle.std.specs.List.{range_with_len}
use Rattle.pl_spec.specs.Rounding.{IsCell}
use Rattle.pl_world.specs.Evaluations.{above, above_option, cell_in}
use Rattle.pl_model.specs.Costs.{cost_in}
use Rattle.pl_model.specs.Requests.{asset_of}
use Rattle.pl_world.specs.Views.{seen_in}
use Rattle.pl_model.proofs.evaluation.+evaluation.Given as goal

abbrev pub decreases-cell : goal.decreases-cell
decreases-cell g l = 16 * l.ask.term.0 + 9

abbrev pub decreases-is_kept : goal.decreases-is_kept
decreases-is_kept g l = 16 * l.ask.term.0 + 8

abbrev pub decreases-given : goal.decreases-given
decreases-given g l = 16 * l.ask.term.0 + 8

abbrev pub decreases-window_cell : goal.decreases-window_cell
decreases-window_cell g l = 16 * l.ask.term.0 + 5

abbrev pub decreases-point_cell : goal.decreases-point_cell
decreases-point_cell g l = 16 * l.ask.term.0 + 5

abbrev pub decreases-section_cell : goal.decreases-section_cell
decreases-section_cell g l = 16 * l.ask.term.0 + 5

abbrev pub decreases-input_window : goal.decreases-input_window
decreases-input_window g l = 16 * above l.input

abbrev pub decreases-cells_up_to : goal.decreases-cells_up_to
decreases-cells_up_to g l = 16 * l.u.0 + 10

abbrev pub decreases-input_cell : goal.decreases-input_cell
decreases-input_cell g l = 16 * above l.input

abbrev pub decreases-term_row : goal.decreases-term_row
decreases-term_row g l = 16 * l.u.0 + 10

abbrev pub decreases-optional_row : goal.decreases-optional_row
decreases-optional_row g l = 16 * above_option l.u

-- the cells of the sessions that have been passed
abbrev pub invariant-cells_up_to-loop-session : goal.invariant-cells_up_to-loop-session
invariant-cells_up_to-loop-session g l =
    let r = l.ask in
    let first = r.session + 1 - l.size in
    record {
      from : first ≤ l.session;
      to : l.session ≤ r.session + 1;
      cells : l.cells.items ≡ map (λ s. seen_in r.world.now r.checked.now l.u.0 r.view (asset_of r) s) (range_with_len first (l.session - first));
      all : All IsCell l.cells.items;
      cost : l.steps ≡ l.fn.steps + sum_by (λ s. cost_in r.world.now r.checked.now l.u.0 r.view (asset_of r) s) (range_with_len first (l.session - first));
    }

-- the cells of the assets that have been passed
abbrev pub invariant-term_row-loop-col : goal.invariant-term_row-loop-col
invariant-term_row-loop-col g l =
    let r = l.ask in
    record {
      cells : l.row.items ≡ map (λ b. cell_in r.world.now r.checked.now l.u.0 b.sid r.session) (take l.col r.world.now.assets.now);
      all : All IsCell l.row.items;
      cost : l.steps ≡ l.fn.steps + sum_by (λ b. cost_in r.world.now r.checked.now l.u.0 None b.sid r.session) (take l.col r.world.now.assets.now);
    }
