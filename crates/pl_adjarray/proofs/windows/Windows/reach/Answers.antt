use Rattle.std.proofs.Common.{◌≡◌, ◌+◌, ◌-◌, ◌*◌, ◌<◌, ◌≤◌, ℤ, List, All, length, take, drop, subst, ◌∙◌, sym, pos}
use Rattle.pl_spec.specs.Rounding.{IsCell}
use Rattle.pl_spec.specs.Window.{bar_window}
use Rattle.pl_adjarray.specs.Buffered.{Buffered, col_at, world_of}
use Rattle.pl_adjarray.specs.Inside.{buffered_of}
use Rattle.pl_adjarray.specs.Stillness.{IsStill}
use Rattle.pl_adjarray.specs.Traversals.{Traversal}
use Rattle.pl_adjarray.proofs.Quiet.{reached_cells, reached_long, reached_window}
use Rattle.pl_adjarray.proofs.Worlds.{window-same}
use Rattle.pl_adjarray.proofs.windows.Windows.reach.Goals as goal

pub returns : goal.returns
returns c =
    let w = c.self.inside in
    let b = c.self.inside.array.now in
    let q = c.args.self.now.array in
    let i = c.args.i in
    let n = c.args.more in
    let buffer = c.self.invariant.buffer in
    let still : IsStill b w.session n = subst (λ (t : Traversal). IsStill t.array t.session n) (sym c.self.view_is) c.requires.still in
    let begun : b.first + w.window ≤ w.session = subst (λ (t : Traversal). t.array.first + t.window ≤ t.session) (sym c.self.view_is) c.requires.begun in
    let asset : i < length b.cols = subst (λ (t : Traversal). i < length t.array.cols) (sym c.self.view_is) c.requires.asset in
    let cut : Buffered → List ℤ = λ x. take ((i * x.rows + (w.session - x.first) + n) - (i * x.rows + (w.session - x.first) - w.window)) (drop (i * x.rows + (w.session - x.first) - w.window) w.scratch.now) in
    let own : List ℤ = cut (buffered_of c.array.inside) in
    record {
      long = subst (λ (t : Traversal). length own ≡ t.window + n) c.self.view_is
          (subst (λ (x : Buffered). length (cut x) ≡ w.window + n) (sym c.array.view_is) (reached_long b w.scratch.now w.session n still w.window i begun asset buffer.size));
      windows = λ m few assets labels texts numbers made inside.
          subst (λ (t : Traversal). take t.window (drop m own) ≡ bar_window (world_of t.array) t.array.column t.window (col_at t.array i) (pos (t.session + m))) c.self.view_is
          (subst (λ (x : Buffered). take w.window (drop m (cut x)) ≡ bar_window (world_of b) b.column w.window (col_at b i) (pos (w.session + m))) (sym c.array.view_is)
          (reached_window b w.scratch.now w.session n still w.window i begun asset buffer.size buffer.seen m few))
          ∙ window-same q.days assets labels texts q.bars q.adjustments numbers made (col_at q i) inside q.column c.args.self.now.window (pos (c.args.self.now.session + m));
      cells = subst (λ (x : Buffered). All IsCell (cut x)) (sym c.array.view_is) (reached_cells b w.scratch.now w.session n still w.window i begun asset buffer.size buffer.cells);
    }
