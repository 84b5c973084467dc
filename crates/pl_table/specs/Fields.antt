-- A line field by field, and the field of a value by its cell in an array.
use Rattle.std.specs.Prelude.{ℕ, codes, if◌then◌else◌, ℤ, List, [], ◌∷◌, decimal, slice_index_or, unsigned_abs}
use Rattle.pl_spec.specs.declared.Format.{Format}
use Rattle.pl_spec.specs.declared.Format.TheVariants.{Csv, Fixed, Cells}
use Rattle.pl_spec.specs.Rounding.{is_missing}
use Rattle.pl_spec.specs.Decimals.{cell_text}
use Rattle.pl_spec.specs.Cells.{is_true}
use Rattle.pl_spec.specs.Lines.{eight_bytes, left_in, right_in, label_text}
use Rattle.pl_pipeline.specs.Text.{described, truth_text}
use Rattle.pl_pipeline.specs.Term.{Graph}
use Rattle.pl_pipeline.specs.Table.{NamedColumn}
use Rattle.pl_terms.specs.declared.row.Sort.TheVariants.{Factors, Filters, Labels, Numbers}
use Rattle.pl_terms.specs.declared.row.Sort.{Sort}
use Rattle.pl_table.specs.declared.writing.Writing.{Writing}
use Rattle.pl_table.specs.declared.writing.Writing.TheVariants.{Cell, Truth, Whole, Label}

-- ---- the parts of a line

-- the date's field at its front, the sid's field after it, and each further field
abbrev pub date_part : Format → List ℕ → List ℕ
date_part Csv text = text
date_part Fixed text = left_in 10 text
date_part Cells text = text

abbrev pub sid_part : Format → List ℕ → List ℕ
sid_part Csv text = 44 ∷ text
sid_part Fixed text = 32 ∷ right_in 10 text
sid_part Cells text = text

abbrev pub field_part : Format → List ℕ → List ℕ
field_part Csv text = 44 ∷ text
field_part Fixed text = 32 ∷ right_in 20 text
field_part Cells text = text

-- what ends a line
abbrev pub end_part : Format → List ℕ
end_part Csv = 10 ∷ []
end_part Fixed = 10 ∷ []
end_part Cells = []

-- ---- the text of a cell

-- the terms of which sort are written so
abbrev pub sort_written : Writing → Sort
sort_written Cell = Factors
sort_written Truth = Filters
sort_written Whole = Numbers
sort_written Label = Labels

-- what a header calls them
abbrev pub word_written : Writing → List ℕ
word_written Cell = codes "number"
word_written Truth = codes "filter"
word_written Whole = codes "whole"
word_written Label = codes "label"

-- a column in a header, with what stands before it
abbrev pub column_part : Format → Graph → NamedColumn → List ℕ
column_part Csv g c = field_part Csv c.name
column_part Fixed g c = field_part Fixed c.name
column_part Cells g c = 44 ∷ described g c

-- the text, or the bytes
abbrev pub number_part : Format → (text bytes : List ℕ) → List ℕ
number_part Csv text bytes = text
number_part Fixed text bytes = text
number_part Cells text bytes = bytes

-- a cell, where it is present: as itself, a truth value, a whole number, or the label whose code it is
abbrev pub cell_field : Format → List (List ℕ) → Writing → ℤ → List ℕ
cell_field format texts Cell x = number_part format (cell_text x) (eight_bytes x)
cell_field format texts Truth x =
    number_part format (if is_missing x then [] else truth_text (is_true x)) ((if is_true x then 1 else 0) ∷ [])
cell_field format texts Whole x = number_part format (if is_missing x then [] else decimal (unsigned_abs x)) (eight_bytes x)
cell_field format texts Label x = label_text format (if is_missing x then [] else slice_index_or texts (unsigned_abs x) [])
