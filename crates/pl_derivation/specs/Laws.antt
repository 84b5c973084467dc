-- What derivations prove.
use Rattle.std.specs.Prelude.{◌≡◌, Bool, true, false, ◌&&◌, ℕ, ◌++◌, ℤ, pos, ◌≤ℤ◌, List, [], ◌∷◌, Some, None, slice_get}
use Rattle.std.specs.List.{list_all}
use Rattle.std.specs.Option.{option_eq}
use Rattle.std.specs.Ordering.{int_eq}
use Rattle.std.specs.Cmp.Lexicographic.{pointwise}
use Rattle.pl_spec.specs.World.{World, IsWorld, day_of}
use Rattle.pl_spec.specs.Window.{seen_cell}
use Rattle.pl_pipeline.specs.Term.{IsGraph, term_at}
use Rattle.pl_pipeline.specs.Value.{From, seen}
use Rattle.pl_pipeline.specs.Graph.{reach}
use Rattle.pl_pipeline.specs.Table.{Pipeline, value_of, in_array}
use Rattle.pl_derivation.specs.Facts.{Fact, number_in, known_day, premises}
use Rattle.pl_derivation.specs.Facts.Fact.{Seen, TermValue}
use Rattle.pl_terms.specs.Checked.{IsChecked}
use Rattle.pl_terms.specs.Uses.{is_used}
use Rattle.pl_cross.specs.Arrays.{HasTexts}
use Rattle.pl_derivation.specs.Lines.{Line}
use Rattle.pl_derivation.specs.Lines.Line.{SeenLine, ValueLine, SeenValueLine}
use Rattle.pl_derivation.specs.Right.{fact_of, is_stated, is_fitting, seen_cells, is_right, first_wrong, has_sid}
use Rattle.pl_derivation.specs.Walks.{IsOnce, facts_for, line_for, derivation}

-- what a line says is so
abbrev pub IsTrueLine : World → Pipeline → Line → Type 0
IsTrueLine w p (SeenLine c a bar day cells) =
    (s : ℕ) × (d : ℕ) × (day_of w (pos s) ≡ Some bar) × (day_of w (pos d) ≡ Some day) × (front : List ℤ) × (cells ≡ front ++ seen_cell w a c (pos s) (pos d) ∷ [])
IsTrueLine w p (ValueLine t a day v known) =
    (d : ℕ) × (day_of w (pos d) ≡ Some day) × (v ≡ in_array w.texts (value_of w p t a (pos d))) × (known ≡ known_day w p (TermValue t a (pos d)))
IsTrueLine w p (SeenValueLine t a own day v) =
    (s : ℕ) × (d : ℕ) × (day_of w (pos s) ≡ Some own) × (day_of w (pos d) ≡ Some day)
    × (v ≡ in_array w.texts (seen w p.names (term_at p.graph t) (From (pos d)) a (pos s)))

-- Where no line of a list is wrong, each of them is true.
abbrev pub RightLinesAreTrue : Type 0
RightLinesAreTrue = (w : World) (p : Pipeline) → HasTexts w → IsGraph p.graph
    → (lines : List Line) → first_wrong w p lines ≡ None
    → (i : ℕ) (l : Line) → slice_get lines i ≡ Some l → IsTrueLine w p l

-- the line states what the world has
abbrev pub states_world : World → Pipeline → Line → Fact → Bool
states_world w p (SeenLine c' a' bar day cells) (Seen c a s d) = pointwise int_eq cells (seen_cells w a c s d)
states_world w p (ValueLine t a day v known) f = int_eq v (number_in w p f) && option_eq int_eq known (known_day w p f)
states_world w p (SeenValueLine t a own day v) f = int_eq v (number_in w p f)
states_world w p l f = false

-- After right lines a line is right where its fact fits, each premise stands in these, and it states what the
-- world has: what the first lines tell of the premises need not be kept.
abbrev pub RightIsTrue : Type 0
RightIsTrue = (w : World) (p : Pipeline) → HasTexts w → IsGraph p.graph
    → (lines : List Line) → first_wrong w p lines ≡ None
    → (l : Line) (f : Fact) → fact_of w l ≡ Some f
    → is_right w p lines l ≡ (is_fitting w p f && list_all (is_stated w lines) (premises w p (number_in w p) f) && states_world w p l f)

-- After right lines that tell of its fact already, a line is right where it states what the world has.
abbrev pub RepeatsAreRight : Type 0
RepeatsAreRight = (w : World) (p : Pipeline) → HasTexts w → IsGraph p.graph
    → (lines : List Line) → first_wrong w p lines ≡ None
    → (l : Line) (f : Fact) → fact_of w l ≡ Some f → is_stated w lines f ≡ true → is_right w p lines l ≡ states_world w p l f

-- the value of the cell can be explained: its term is used, its asset and session are known, and it reaches
-- to no session below 0
pub record IsAsked (w : World) (p : Pipeline) (t a d : ℕ) : Type 0 where
  pub used : is_used p t ≡ true
  pub known : has_sid w a ≡ true
  pub day : ℤ
  pub session : day_of w (pos d) ≡ Some day
  pub reached : pos 0 ≤ℤ reach w.days (term_at p.graph t) (pos d)

-- No line of a derivation is wrong, no fact stands in it twice, and its last line states the value.
pub record IsDerivation (w : World) (p : Pipeline) (t a d : ℕ) (lines : List Line) : Type 0 where
  pub right : first_wrong w p lines ≡ None
  pub once : IsOnce (facts_for w p (TermValue t a (pos d)))
  pub front : List Line
  pub last : lines ≡ front ++ line_for w p (TermValue t a (pos d)) ∷ []

abbrev pub DerivationsAreRight : Type 0
DerivationsAreRight = (w : World) (p : Pipeline) → IsWorld w → HasTexts w → IsChecked p
    → (t a d : ℕ) → IsAsked w p t a d → IsDerivation w p t a d (derivation w p t a (pos d))
