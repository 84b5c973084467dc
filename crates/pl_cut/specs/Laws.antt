-- The laws of cut worlds, each the contract of a function.
use Rattle.std.specs.Prelude.{◌≡◌, false, ℕ, suc, ◌≤◌, ◌++◌, ℤ, pos, ◌≤ℤ◌, List}
use Rattle.pl_spec.specs.declared.Format.{Format}
use Rattle.pl_spec.specs.World.{World, IsWorld, exists}
use Rattle.pl_pipeline.specs.Graph.{reach}
use Rattle.pl_pipeline.specs.Lows.{least_reach}
use Rattle.pl_pipeline.specs.Reaching.{HasWindows}
use Rattle.pl_pipeline.specs.Table.{Pipeline, table}
use Rattle.pl_pipeline.specs.Term.{Term}
use Rattle.pl_pipeline.specs.Text.{text}
use Rattle.pl_pipeline.specs.Value.{value}
use Rattle.pl_terms.specs.Checked.{IsChecked}
use Rattle.pl_terms.specs.Uses.{outputs}
use Rattle.pl_cut.specs.Cuts.{Span, IsSpan, cut, without}
use Rattle.pl_cut.specs.Within.{AgreeWithin}

-- the outputs of the pipeline reach back to no session before the first, on session from or later ones
abbrev pub ReachesFrom : List ℤ → Pipeline → ℕ → ℤ → Type 0
ReachesFrom days p from first = first ≤ℤ least_reach days p.graph (outputs p) (pos from)

-- Two worlds have one table of a range, and write it alike.
pub record HaveOneTable (w v : World) (p : Pipeline) (from to : ℕ) : Type 0 where
  pub rows : table w p from to ≡ table v p from to
  pub texts : (format : Format) → text w p format (table w p from to) ≡ text v p format (table v p from to)

-- Worlds that show the same from a session to another have the same value of each term that reaches no
-- farther back, for every sid, and one table of each range whose outputs reach no farther back.
pub record AgreeingWorldsShareTables : Type 0 where
  pub values : (w v : World) → IsWorld w → (first last : ℤ) → AgreeWithin w v first last
      → (names : List (List ℕ)) (t : Term) → HasWindows t → (a : ℕ) (d : ℤ)
      → first ≤ℤ reach w.days t d → d ≤ℤ last
      → value w names t a d ≡ value v names t a d
  pub tables : (w v : World) → IsWorld w → (first last : ℤ) → AgreeWithin w v first last
      → (p : Pipeline) → IsChecked p → (from to : ℕ) → ReachesFrom w.days p from first → pos to ≤ℤ last
      → HaveOneTable w v p from to

-- the cut of a world is a world, and shows from the first session of the span to the last what the whole
-- shows
abbrev pub CutsAgree : Type 0
CutsAgree = (w : World) (span : Span) → IsWorld w → IsSpan w.days span
    → IsWorld (cut w span) × AgreeWithin w (cut w span) (pos span.first) (pos span.last)

-- A span covers the sessions from .. to: it has two sessions of these days, the outputs reach back to no
-- session before the first, and the last is not before to.
pub record Covers (days : List ℤ) (p : Pipeline) (span : Span) (from to : ℕ) : Type 0 where
  pub sessions : IsSpan days span
  pub first : ReachesFrom days p from (pos span.first)
  pub last : to ≤ span.last

-- so over the cut each range that the span covers has the table of the whole
abbrev pub CutsHaveTheRows : Type 0
CutsHaveTheRows = (w : World) (span : Span) → IsWorld w → (p : Pipeline) → IsChecked p → (from to : ℕ)
    → Covers w.days p span from to → HaveOneTable w (cut w span) p from to

-- and two pieces of a range, each over a cut of its own, have the rows of the range, one after the other
abbrev pub PiecesMakeTheTable : Type 0
PiecesMakeTheTable = (w : World) (one two : Span) → IsWorld w → (p : Pipeline) → IsChecked p
    → (from mid to : ℕ) → from ≤ suc mid → mid ≤ to
    → Covers w.days p one from mid → Covers w.days p two (suc mid) to
    → table w p from to ≡ table (cut w one) p from mid ++ table (cut w two) p (suc mid) to

-- an asset that exists on no session of a range, and on none before it that the outputs reach back to, may go
-- with all its rows: it changes no row of the table
abbrev pub AbsentAssetsChangeNothing : Type 0
AbsentAssetsChangeNothing = (w : World) → IsWorld w → (a : ℕ) (first last : ℤ)
    → ((d : ℤ) → first ≤ℤ d → d ≤ℤ last → exists w a d ≡ false)
    → (p : Pipeline) → IsChecked p → (from to : ℕ) → ReachesFrom w.days p from first → pos to ≤ℤ last
    → HaveOneTable w (without w a) p from to
