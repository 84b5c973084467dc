-- When two worlds show the same from a session to another.
use Rattle.std.specs.Prelude.{◌≡◌, ℕ, true, ℤ, ◌<ℤ◌, ◌≤ℤ◌, List}
use Rattle.pl_spec.specs.declared.Column.{Column}
use Rattle.pl_spec.specs.Window.{seen_cell}
use Rattle.pl_spec.specs.World.{World, day_of, exists, living_sids, label_at, known_number}
use Rattle.pl_spec.specs.declared.Figure.{Figure}

-- The worlds have the same sessions up to the last, and on each session from the first to the last the same
-- assets. Of an asset that exists on such a session they show the same there: the cells of the bars from the
-- first session on, as they are seen on that session, its labels, its numbers and their ages.
pub record AgreeWithin (w v : World) (first last : ℤ) : Type 0 where
  pub days : (d : ℤ) → d ≤ℤ last → day_of w d ≡ day_of v d
  pub assets : (d : ℤ) → first ≤ℤ d → d ≤ℤ last → living_sids w d ≡ living_sids v d
  pub cells : (a : ℕ) (c : Column) (s d : ℤ) → first ≤ℤ s → s <ℤ d → d ≤ℤ last → exists w a d ≡ true
      → seen_cell w a c s d ≡ seen_cell v a c s d
  pub labels : (name : List ℕ) (a : ℕ) (d : ℤ) → first ≤ℤ d → d ≤ℤ last → exists w a d ≡ true
      → label_at w name a d ≡ label_at v name a d
  pub numbers : (f : Figure) (name : List ℕ) (a : ℕ) (d : ℤ) → first ≤ℤ d → d ≤ℤ last → exists w a d ≡ true
      → known_number w f name a d ≡ known_number v f name a d
