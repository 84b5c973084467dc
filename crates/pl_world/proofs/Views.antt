-- From where an evaluation sees a term.
use Rattle.std.proofs.Common.{◌≡◌, ℕ, ◌<◌, ◌≤◌, Bool, true, false, cond, ℤ, pos, length, Option, Some, None, refl, sym, ap, ◌∙◌, arith, unwrap_or}
use Rattle.pl_pipeline.specs.Kind.{PointKind}
use Rattle.pl_pipeline.specs.Kind.Kind.{Window, Point}
use Rattle.pl_pipeline.specs.declared.WindowKind.{WindowKind}
use Rattle.pl_pipeline.specs.Value.{Own, From, seen_from, view_of, keeps_window, keeps_point, value}
use Rattle.pl_terms.specs.declared.node.Input.{Input}
use Rattle.pl_terms.specs.declared.node.Input.TheVariants as input
use Rattle.pl_terms.specs.Checked.{Parts}
use Rattle.pl_world.specs.declared.world.World.{World}
use Rattle.pl_world.specs.Evaluations.{cell_in, input_cell_in}
use Rattle.pl_world.specs.Views.{view_at, IsSeenFrom, window_view, operand_view, seen_in, input_seen_in}

pub from-is : (view : Option ℕ) (s : ℕ) → seen_from (view_at view) (pos s) ≡ pos (unwrap_or view s)
from-is None s = refl
from-is (Some v) s = refl

pub window-view : (f : WindowKind) (view : Option ℕ) (s : ℕ) → view_of (Window f) (view_at view) (pos s) ≡ view_at (Some (window_view (Window f) view s))
window-view f view s = ap From (ap (cond (keeps_window f) (pos s)) (from-is view s) ∙ here (keeps_window f))
  where
    here : (b : Bool) → cond b (pos s) (pos (unwrap_or view s)) ≡ pos (cond b s (unwrap_or view s))
    here true = refl
    here false = refl

pub operand-view : (f : PointKind) (view : Option ℕ) (d : ℤ) → view_of (Point f) (view_at view) d ≡ view_at (operand_view (Point f) view)
operand-view f view d = here (keeps_point f)
  where
    here : (b : Bool) → cond b Own (view_at view) ≡ view_at (cond b None view)
    here true = refl
    here false = refl

-- what is seen from somewhere is so for an earlier session, too
pub earlier : (w : World) (view : Option ℕ) (s r : ℕ) → r ≤ s → IsSeenFrom w view s → IsSeenFrom w view r
earlier w None s r h e = tt
earlier w (Some v) s r h e = (let a = e.0 in omega arith, e.1)

-- a window is seen from its session or a later one
pub window-seen-from : (w : World) (b : Bool) (view : Option ℕ) (s : ℕ) → s < length w.sessions.now → IsSeenFrom w view s → IsSeenFrom w (Some (cond b s (unwrap_or view s))) s
window-seen-from w true view s h e = (omega arith, h)
window-seen-from w false None s h e = (omega arith, h)
window-seen-from w false (Some v) s h e = e

pub operand-seen-from : (w : World) (b : Bool) (view : Option ℕ) (s : ℕ) → IsSeenFrom w view s → IsSeenFrom w (cond b None view) s
operand-seen-from w true view s e = tt
operand-seen-from w false view s e = e

-- from its own session a term is seen as it is
pub own-cell : (w : World) (c : Parts) (t a s : ℕ) → seen_in w c t None a s ≡ cell_in w c t a s
unfolding value
own-cell w c t a s = refl

pub own-input : (w : World) (c : Parts) (o : Option Input) (a s : ℕ) → input_seen_in w c o None a s ≡ input_cell_in w c o a s
own-input w c None a s = refl
own-input w c (Some (input.Column k)) a s = refl
own-input w c (Some (input.Term u)) a s = own-cell w c u.0 a s
