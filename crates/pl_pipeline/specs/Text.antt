-- The text of a table.
use Rattle.std.specs.Prelude.{ℕ, Bool, true, false, if◌then◌else◌, ℤ, pos, List, [], ◌∷◌, ◌++◌, map, flat_map, unwrap_or, decimal, codes, zip}
use Rattle.std.specs.Int.RustNames.{unsigned_abs}
use Rattle.pl_spec.specs.declared.Format.{Format}
use Rattle.pl_spec.specs.declared.Format.TheVariants.{Csv, Fixed, Cells}
use Rattle.pl_spec.specs.Rounding.{is_missing}
use Rattle.pl_spec.specs.Decimals.{cell_text}
use Rattle.pl_spec.specs.World.{World, day_of}
use Rattle.pl_pipeline.specs.Kind.{Kind}
use Rattle.pl_pipeline.specs.Kind.Kind.{Cross, Label}
use Rattle.pl_pipeline.specs.Kind.CrossKind.{Quantiles}
use Rattle.pl_spec.specs.Cells.{is_true}
use Rattle.pl_pipeline.specs.Term.{Graph, term_at}
use Rattle.pl_pipeline.specs.Value.{Value, is_filter, sort_kind}
use Rattle.pl_pipeline.specs.Value.Value.{Number, Text}
use Rattle.pl_pipeline.specs.Table.{NamedColumn, Pipeline, Row}
use Rattle.pl_spec.specs.Lines.{day_field, eight_bytes, label_text, line_text, sid_field}

abbrev pub is_numbered : Kind → Bool
is_numbered (Cross (Quantiles bins)) = true
is_numbered k = false

abbrev pub is_labelled : Kind → Bool
is_labelled (Label name) = true
is_labelled k = false

abbrev pub truth_text : Bool → List ℕ
truth_text b = if b then codes "true" else codes "false"

-- a filter's value, a numbered classifier's whole number or a factor's cell; nothing where it is missing
abbrev pub number_text : Kind → ℤ → List ℕ
number_text k x =
    if is_missing x then []
    else if is_filter k then truth_text (is_true x)
    else if is_numbered k then decimal (unsigned_abs x) else cell_text x

-- as a machine has it: a filter's 0 or 1 in a byte, any other number in eight; where a label is missing, that of no text
abbrev pub number_bytes : Kind → ℤ → List ℕ
number_bytes k x =
    if is_labelled k then label_text Cells []
    else if is_filter k then (if is_true x then 1 else 0) ∷ [] else eight_bytes x

abbrev pub number_field : Format → Kind → ℤ → List ℕ
number_field Csv k x = number_text k x
number_field Fixed k x = number_text k x
number_field Cells k x = number_bytes k x

abbrev pub value_field : Format → Kind → Value → List ℕ
value_field format k (Number x) = number_field format k x
value_field format k (Text t) = label_text format t

-- the kind as which term number t is written
abbrev pub kind_at : Graph → ℕ → Kind
kind_at g t = sort_kind (term_at g t)

-- what the bytes of a column are
abbrev pub kind_word : Kind → List ℕ
kind_word k =
    if is_labelled k then codes "label"
    else if is_filter k then codes "filter"
    else if is_numbered k then codes "whole" else codes "number"

-- a column's name and what its bytes are, with a colon between them
abbrev pub described : Graph → NamedColumn → List ℕ
described g c = c.name ++ 58 ∷ kind_word (kind_at g c.term)

abbrev pub header : Pipeline → Format → List ℕ
header p Csv = line_text Csv (codes "session") (codes "sid") (map (λ c. c.name) p.columns)
header p Fixed = line_text Fixed (codes "session") (codes "sid") (map (λ c. c.name) p.columns)
header p Cells = line_text Csv (codes "session:day") (codes "sid:sid") (map (described p.graph) p.columns)

abbrev pub row_fields : Pipeline → Format → List NamedColumn → List Value → List (List ℕ)
row_fields p format cs vs = map (λ x. value_field format (kind_at p.graph (x.0).term) x.1) (zip cs vs)

abbrev pub row_line : World → Pipeline → Format → Row → List ℕ
row_line w p format r = line_text format (day_field format (unwrap_or (day_of w r.session) (pos 0))) (sid_field format r.sid) (row_fields p format p.columns r.values)

-- the header, and a line for each row
unfoldable pub text : World → Pipeline → Format → List Row → List ℕ
text w p format rows = header p format ++ flat_map (row_line w p format) rows
