-- Derivations without a gap and without a line too many.
use Rattle.std.specs.Prelude.{◌≡◌, true, ℕ, suc, ◌<◌, pos, List, length, Some, slice_get}
use Rattle.pl_spec.specs.World.{World, IsWorld}
use Rattle.pl_pipeline.specs.Table.{Pipeline}
use Rattle.pl_cross.specs.Arrays.{HasTexts}
use Rattle.pl_terms.specs.Checked.{IsChecked}
use Rattle.pl_derivation.specs.Facts.{Fact, number_in, premises}
use Rattle.pl_derivation.specs.Lines.{Line}
use Rattle.pl_derivation.specs.Right.{fact_of}
use Rattle.pl_derivation.specs.Walks.{is_in, derivation}
use Rattle.pl_derivation.specs.Laws.{IsAsked}

-- the line at a place, from 0, is about the fact
abbrev pub IsAt : World → List Line → ℕ → Fact → Type 0
IsAt w lines i f = (l : Line) × (slice_get lines i ≡ Some l) × (fact_of w l ≡ Some f)

-- the second fact is one of those from which the number of the first follows
abbrev pub RestsOn : World → Pipeline → Fact → Fact → Type 0
RestsOn w p f g = is_in (premises w p (number_in w p) f) g ≡ true

-- Each line is about a fact. What a fact rests on stands before it. Each but the last is what a later one
-- rests on. No fact stands at two places.
pub record IsLean (w : World) (p : Pipeline) (lines : List Line) : Type 0 where
  pub about : (i : ℕ) → i < length lines → (f : Fact) × IsAt w lines i f
  pub closed : (i : ℕ) (f g : Fact) → IsAt w lines i f → RestsOn w p f g
      → (j : ℕ) × (j < i) × IsAt w lines j g
  pub needed : (i : ℕ) (g : Fact) → IsAt w lines i g → suc i < length lines
      → (j : ℕ) × (f : Fact) × (i < j) × IsAt w lines j f × RestsOn w p f g
  pub once : (i j : ℕ) (f : Fact) → IsAt w lines i f → IsAt w lines j f → i ≡ j

-- So is the derivation of each value that can be explained.
abbrev pub DerivationsAreLean : Type 0
DerivationsAreLean = (w : World) (p : Pipeline) → IsWorld w → HasTexts w → IsChecked p
    → (t a d : ℕ) → IsAsked w p t a d → IsLean w p (derivation w p t a (pos d))
