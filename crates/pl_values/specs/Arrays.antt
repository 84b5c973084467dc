-- What arrays of cells hold: the values of terms for the assets in some places, session by session.
use Rattle.std.specs.Prelude.{◌≡◌, ℕ, ◌+◌, ◌-◌, ◌*◌, ◌<◌, ◌≤◌, Bool, ◌&&◌, if◌then◌else◌, ℤ, pos, List, length, map, filter, get_or, Option, Some, None}
use Rattle.pl_spec.specs.Rounding.{IsCell}
use Rattle.pl_spec.specs.World.{World, exists, living_sids}
use Rattle.pl_spec.specs.Window.{downward}
use Rattle.pl_spec.specs.Cells.{is_true}
use Rattle.pl_pipeline.specs.Term.{term_at}
use Rattle.pl_pipeline.specs.Value.{number_of, empty, sort_kind}
use Rattle.pl_pipeline.specs.Table.{Pipeline, value_of, in_array}
use Rattle.pl_cross.specs.Arrays.{sid_in}

-- what an array of term t holds for the asset in place i on session s
unfoldable pub cell_of : World → Pipeline → List ℕ → ℕ → ℕ → ℕ → ℤ
cell_of w p sids t i s = in_array w.texts (value_of w p t (sid_in sids i) (pos s))

-- what it holds where the asset does not exist, or where the term's mask is false
abbrev pub empty_cell : Pipeline → ℕ → ℤ
empty_cell p t = number_of (empty (sort_kind (term_at p.graph t)))

-- the asset exists on the session and passes the mask, by the mask's array
abbrev pub is_kept : World → Pipeline → List ℕ → Option ℕ → ℕ → ℕ → Bool
is_kept w p sids None i s = exists w (sid_in sids i) (pos s)
is_kept w p sids (Some m) i s = exists w (sid_in sids i) (pos s) && is_true (cell_of w p sids m i s)

-- x where the asset is kept
abbrev pub chosen : Bool → ℤ → ℤ → ℤ
chosen b x none = if b then x else none

-- the cells of the size sessions up to s, oldest first
abbrev pub window_up_to : (ℕ → ℤ) → ℕ → ℕ → List ℤ
window_up_to f size s = map (λ n. f (s - n)) (downward size)

-- the places have every asset that exists on session s
abbrev pub HasAll : World → List ℕ → ℕ → Type 0
HasAll w sids s = living_sids w (pos s) ≡ filter (λ a. exists w a (pos s)) sids

-- a row of n cells, by place
pub record Fills (f : ℕ → ℤ) (n : ℕ) (row : List ℤ) : Type 0 where
  pub long : length row ≡ n
  pub each : (i : ℕ) → i < n → get_or row i (pos 0) ≡ f i
  pub cell : (i : ℕ) → i < n → IsCell (f i)

-- who is kept, as a row of truth values
pub record IsKeep (keep : ℕ → Bool) (n : ℕ) (row : List ℤ) : Type 0 where
  pub long : length row ≡ n
  pub each : (i : ℕ) → i < n → is_true (get_or row i (pos 0)) ≡ keep i

-- what the row keep lets through, and none elsewhere
abbrev pub kept_or : ℤ → List ℤ → (ℕ → ℤ) → ℕ → ℤ
kept_or none keep f i = chosen (is_true (get_or keep i (pos 0))) (f i) none

-- The array has the cells of the assets on count sessions from low on, asset by asset.
pub record Holds (f : ℕ → ℕ → ℤ) (assets low count : ℕ) (cells : List ℤ) : Type 0 where
  pub room : assets * count ≤ length cells
  pub each : (i j : ℕ) → i < assets → j < count → get_or cells (i * count + j) (pos 0) ≡ f i (low + j)
  pub cell : (i j : ℕ) → i < assets → j < count → IsCell (f i (low + j))

-- Session j of the array is written: each asset's cell is f's and a cell indeed, and no other session's is
-- changed.
pub record IsRow (f : ℕ → ℤ) (assets count j : ℕ) (old new : List ℤ) : Type 0 where
  pub size : length new ≡ length old
  pub written : (i : ℕ) → i < assets → get_or new (i * count + j) (pos 0) ≡ f i
  pub cell : (i : ℕ) → i < assets → IsCell (f i)
  pub others : (i t : ℕ) → i < assets → t < count → (t ≡ j → ⊥) → get_or new (i * count + t) (pos 0) ≡ get_or old (i * count + t) (pos 0)
