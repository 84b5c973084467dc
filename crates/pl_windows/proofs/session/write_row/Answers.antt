use Rattle.std.proofs.Common.{◌≡◌, ◌-◌, ◌∙◌, ℕ, ap, length, pos, List, ℤ, drop, arith, length-drop}
use Rattle.pl_outside.proofs.Pieces.{writes-over}
use Rattle.pl_spec.specs.Parts.{sid_at}
use Rattle.pl_windows.specs.Ranges.{asked_world}
use Rattle.pl_spec.specs.Window.{bar_window}
use Rattle.pl_windows.specs.Windows.{row_line, told}
use Rattle.pl_windows.proofs.Replay.{window-long}
use Rattle.pl_windows.proofs.Traversed.{newest-is}
use Rattle.pl_windows.proofs.session.write_row.Goals as goal

pub newest-cells-requires-clause-few : goal.newest-cells-requires-clause-few
newest-cells-requires-clause-few g c =
    let a = c.args.asked.now in
    let long = ap length c.window_of-window.ensures.value in
    omega (arith, c.cells_told.ensures.most, long, window-long (asked_world a) a.column a.window (sid_at a.world.assets.now c.args.place.col) (pos c.args.place.session))

pub write_line-requires-clause-some : goal.write_line-requires-clause-some
write_line-requires-clause-some g c =
    let a = c.args.asked.now in
    let long = ap length c.window_of-window.ensures.value in
    omega (
      arith,
      c.cells_told.ensures.some,
      c.cells_told.ensures.most,
      long,
      window-long (asked_world a) a.column a.window (sid_at a.world.assets.now c.args.place.col) (pos c.args.place.session),
      ap length c.newest-cells.ensures.value,
      length-drop (length c.window_of-window.result.now - c.cells_told.result) c.window_of-window.result.now,
    )

pub returns : goal.returns
returns g c =
    let a = c.args.asked.now in
    let w = asked_world a in
    let sid = sid_at a.world.assets.now c.args.place.col in
    let session = c.args.place.session in
    let size : length c.window_of-window.result.now ≡ a.window = ap length c.window_of-window.ensures.value ∙ window-long w a.column a.window sid (pos session) in
    let cells : c.newest-cells.result.now ≡ bar_window w a.column (told w a.window a.from sid session) sid (pos session) =
    c.newest-cells.ensures.value
    ∙ ap (λ (n : ℕ). drop (n - c.cells_told.result) c.window_of-window.result.now) size
    ∙ ap (drop (a.window - c.cells_told.result)) c.window_of-window.ensures.value
    ∙ newest-is w a.column a.window c.cells_told.result sid (pos session) c.cells_told.ensures.most
    ∙ ap (λ (n : ℕ). bar_window w a.column n sid (pos session)) c.cells_told.ensures.value in
    writes-over (ap (λ (xs : List ℤ). row_line w (record { session = session; sid = sid; cells = xs })) cells) c.write_line.ensures
