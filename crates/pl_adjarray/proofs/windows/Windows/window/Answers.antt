use Rattle.std.proofs.Common.{◌+◌, ◌-◌, ◌*◌, ◌<◌, ◌≤◌, ℤ, List, All, length, take, drop, subst, ap, ◌∙◌, sym, pos}
use Rattle.pl_spec.specs.Rounding.{IsCell}
use Rattle.pl_spec.specs.Window.{bar_window}
use Rattle.pl_adjarray.specs.Buffered.{Buffered, col_at, world_of}
use Rattle.pl_adjarray.specs.Traversals.{Traversal}
use Rattle.pl_adjarray.proofs.Quiet.{window_has_cells, window_is}
use Rattle.pl_adjarray.proofs.Worlds.{window-same}
use Rattle.pl_adjarray.proofs.windows.Windows.window.Goals as goal

pub returns : goal.returns
returns c =
    let w = c.self.inside in
    let b = c.self.inside.array.now in
    let t = c.args.self.now in
    let q = c.args.self.now.array in
    let i = c.args.i in
    let held = c.self.invariant.buffer in
    let begun : b.first + w.window ≤ w.session = subst (λ (t : Traversal). t.array.first + t.window ≤ t.session) (sym c.self.view_is) c.requires.begun in
    let asset : i < length b.cols = subst (λ (t : Traversal). i < length t.array.cols) (sym c.self.view_is) c.requires.asset in
    let cut : Buffered → List ℤ = λ x. take (i * x.rows + (w.session - x.first) - (i * x.rows + (w.session - x.first) - w.window)) (drop (i * x.rows + (w.session - x.first) - w.window) w.scratch.now) in
    let columns = ap cut c.array.view_is ∙ window_is b w.scratch.now w.session w.window i begun held.to asset held.size held.seen
    ∙ ap (λ (t : Traversal). bar_window (world_of t.array) t.array.column t.window (col_at t.array i) (pos t.session)) c.self.view_is in
    record {
      world = λ assets labels texts numbers made inside. columns ∙ window-same q.days assets labels texts q.bars q.adjustments numbers made (col_at q i) inside q.column t.window (pos t.session);
      columns = columns;
      cells = subst (λ (x : Buffered). All IsCell (cut x)) (sym c.array.view_is) (window_has_cells b w.scratch.now w.session w.window i begun held.to asset held.size held.cells);
    }
