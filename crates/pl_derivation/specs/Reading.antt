-- The words of the reader.
use Rattle.std.specs.Prelude.{◌≡◌, ℕ, suc, ◌≤◌, length, map, ℤ, List, [], ◌++◌, Option, Some, None, option_map, option_and_then, Result, Ok, Err}
use Rattle.pl_spec.specs.Limits.{most_lines}
use Rattle.pl_spec.specs.Dates.{date_in}
use Rattle.pl_spec.specs.Decimals.{sid_in}
use Rattle.pl_derivation.specs.Lines.{Line}
use Rattle.pl_derivation.specs.Lines.Line.{SeenLine}
use Rattle.pl_derivation.specs.Texts.{Broken, pieces, column_in, lines_from, lines_in, AreWritable}
use Rattle.pl_derivation.specs.declared.line.Line as code
use Rattle.pl_derivation.specs.Listed.{line_of}
use Rattle.pl_derivation.specs.Texts.Broken.{BadLine, TooMany}
use Rattle.pl_derivation.specs.declared.read.LinesError.{LinesError}
use Rattle.pl_derivation.specs.declared.read.LinesError.TheVariants as errors

-- the pieces of what is after a mark
abbrev pub behind : ℕ → Option (List ℕ) → List (List ℕ)
behind mark None = []
behind mark (Some text) = pieces mark text

-- what a text says with further lines in front
abbrev pub lines_stated : List Line → Result (List Line) Broken → Result (List Line) Broken
lines_stated ls (Ok more) = Ok (ls ++ more)
lines_stated ls (Err e) = Err e

-- the fault of the text, or want of memory
abbrev pub IsLinesFault : List ℕ → LinesError → Type 0
IsLinesFault text (errors.BadLine n) = lines_in text ≡ Err (BadLine n)
IsLinesFault text (errors.TooMany n) = lines_in text ≡ Err (TooMany n)
IsLinesFault text errors.Memory = Unit {0}

-- numbers with further ones in front
abbrev pub with_front : List ℤ → Option (List ℤ) → Option (List ℤ)
with_front xs more = option_map (λ ys. xs ++ ys) more

-- the line of a bar, by the texts of the fields before its cells
abbrev pub bar_line : List ℕ → List ℕ → List ℕ → List ℕ → List ℤ → Option Line
bar_line c a bar day cells =
    option_and_then (λ column. option_and_then (λ sid. option_and_then (λ bar_day.
    option_map (λ view_day. SeenLine column sid bar_day view_day cells) (date_in day)) (date_in bar)) (sid_in a)) (column_in c)

-- these lines were read of the text, and so much is left of it
pub record IsRead (bytes : List ℕ) (items : List code.Line) (left : List ℕ) : Type 0 where
  pub stated : lines_in bytes ≡ lines_stated (map line_of items) (lines_from (suc (length items)) (pieces 10 left))
  pub few : length items ≤ most_lines
  pub writable : AreWritable (map line_of items)
