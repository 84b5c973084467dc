-- What is held of a term stands for the days that were fed.
use Rattle.std.specs.Prelude.{◌≡◌, ◌⊎◌, ℕ, ◌<◌, ◌-◌, true, ℤ, pos, List, [], ◌∷◌, length, map, get_or, All}
use Rattle.pl_spec.specs.Rounding.{IsCell}
use Rattle.pl_pipeline.specs.Reaching.{HasWindows}
use Rattle.pl_pipeline.specs.Table.{Pipeline}
use Rattle.pl_pipeline.specs.Term.{term_at}
use Rattle.pl_pipeline.specs.Value.{is_steady}
use Rattle.pl_spec.specs.Window.{before, downward}
use Rattle.pl_adjust.specs.Columns.{events_at}
use Rattle.pl_values.specs.Arrays.{empty_cell}
use Rattle.pl_daily.specs.Days.{Start, FedDay, fed, last_session, IsStart, AreFed}
use Rattle.pl_daily.specs.Changes.{AreRings, ring_at}
use Rattle.pl_daily.specs.declared.term_day.TermCells.{TermCells}
use Rattle.pl_daily.specs.Rows.{sids_of}
use Rattle.pl_daily.specs.TermDays.{cell_on, seen_on}

-- the row is full of cells, and so are the rings where there are some
pub record AreTermCells (assets : ℕ) (t : TermCells) : Type 0 where
  pub row : length t.row.items ≡ assets
  pub cells : All IsCell t.row.items
  pub rings : 0 < t.rings.capacity → AreRings assets t.rings.capacity t.rings.rings.items

-- what term u is seen as from the last day on the session that is so many before it
abbrev pub held_cell : Start → List FedDay → Pipeline → ℕ → ℕ → ℕ → ℤ
held_cell g days p u i n = seen_on (fed g days) p (sids_of g.assets) u (last_session days) i (before (last_session days) n)

-- the ring of an asset has these
abbrev pub HoldsRing : Start → List FedDay → Pipeline → ℕ → TermCells → ℕ → Type 0
HoldsRing g days p u t i = (ring_at t.rings.rings.items i).items ≡ map (held_cell g days p u i) (downward t.rings.capacity)

-- the row has the term's cells on the last day, and the rings those of the last sessions up to it, as they are
-- seen on it; without a day all are the cells of sessions below 0
pub record HoldsTerm (g : Start) (days : List FedDay) (p : Pipeline) (u : ℕ) (t : TermCells) : Type 0 where
  pub row : (i : ℕ) → i < length g.assets → get_or t.row.items i (pos 0) ≡ cell_on (fed g days) p (sids_of g.assets) u i (last_session days)
  pub rings : 0 < t.rings.capacity → (i : ℕ) → i < length g.assets → HoldsRing g days p u t i

-- Before its earlier cells are computed anew: the rings of a term that is steady, and those of assets without
-- adjustments of the last day, hold the cells as they are seen on it; of others the newest is right.
pub record HoldsNewest (g : Start) (next : FedDay) (days : List FedDay) (p : Pipeline) (u : ℕ) (t : TermCells) : Type 0 where
  pub row : (i : ℕ) → i < length g.assets → get_or t.row.items i (pos 0) ≡ cell_on (fed g (next ∷ days)) p (sids_of g.assets) u i (pos (length days))
  pub rings : 0 < t.rings.capacity → (i : ℕ) → i < length g.assets
      → (is_steady (term_at p.graph u) ≡ true) ⊎ (events_at next.events i ≡ []) → HoldsRing g (next ∷ days) p u t i
  pub newest : 0 < t.rings.capacity → (i : ℕ) → i < length g.assets
      → get_or (ring_at t.rings.rings.items i).items (t.rings.capacity - 1) (pos 0) ≡ cell_on (fed g (next ∷ days)) p (sids_of g.assets) u i (pos (length days))

-- with a row that has the term's cells of the next day, what was held for the days stands for the list with
-- the day, but for what has to be computed anew
abbrev pub FollowTerm : List ℤ → TermCells → TermCells → Type 0
FollowTerm row old new =
    (g : Start) (next : FedDay) (days : List FedDay) (p : Pipeline) (u : ℕ) → IsStart g → AreFed g (next ∷ days) → length g.assets ≡ length row
    → HasWindows (term_at p.graph u)
    → ((i : ℕ) → i < length row → get_or row i (pos 0) ≡ cell_on (fed g (next ∷ days)) p (sids_of g.assets) u i (pos (length days)))
    → HoldsTerm g days p u old → HoldsNewest g next days p u new

-- before the first day
abbrev pub BeginsTerm : ℕ → ℤ → TermCells → Type 0
BeginsTerm assets empty t =
    (g : Start) (p : Pipeline) (u : ℕ) → length g.assets ≡ assets → empty ≡ empty_cell p u → HoldsTerm g [] p u t
