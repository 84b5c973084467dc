-- Where a traversal stands.
use Rattle.std.specs.Prelude.{◌≡◌, ◌⊎◌, ℕ, ◌+◌, ◌-◌, ◌*◌, ◌≤◌, ◌==◌, if◌then◌else◌, ℤ, List, length}
use Rattle.pl_spec.specs.Limits.{saturated}
use Rattle.pl_adjarray.specs.Buffered.{Buffered, AreSeen, HasCells, applied_at}
use Rattle.pl_adjarray.specs.declared.windows.Windows.TheInside.{Inside}

-- an array's traversal with windows of so many sessions: it has come to a session. Its windows and its count
-- follow from these.
pub record Traversal : Type 0 where
  pub array : Buffered
  pub window : ℕ
  pub session : ℕ

-- how many advances have led to the session: none at the first one of the buffer, else one more from session
-- to session
abbrev pub advances : Traversal → ℕ
advances t = if t.session == t.array.first then 0 else t.session + 1 - (t.array.first + t.window)

-- the cells are as they are seen on session d, and the steps up to it were counted
pub record IsSeen (b : Buffered) (held : List ℤ) (d applied : ℕ) : Type 0 where
  pub seen : AreSeen b held d
  pub cells : HasCells b held
  pub size : length held ≡ b.rows * length b.cols
  pub from : b.first ≤ d
  pub to : d ≤ b.first + b.rows
  pub tally : saturated applied ≡ saturated (applied_at b d)

-- The session is the first of the buffer, before the first advance, or one with a whole window before it.
pub record IsTraversal (t : Traversal) (cells : List ℤ) (applied : ℕ) : Type 0 where
  pub buffer : IsSeen t.array cells t.session applied
  pub some : 1 ≤ t.window
  pub most : t.window ≤ t.array.rows
  pub place : (t.session ≡ t.array.first) ⊎ (t.array.first + t.window ≤ t.session)

abbrev pub traversal_of : Inside → Traversal
traversal_of w = record { array = w.array.now; window = w.window; session = w.session }

abbrev pub IsInside : Inside → Type 0
IsInside w = IsTraversal (traversal_of w) w.scratch.now w.applied
