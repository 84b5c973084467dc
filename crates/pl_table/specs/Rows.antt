-- The rows of a session, and what stands in the line of one.
use Rattle.std.specs.Prelude.{◌≡◌, ℕ, Bool, ◌&&◌, ℤ, pos, List, ◌++◌, map, flat_map}
use Rattle.pl_spec.specs.declared.Format.{Format}
use Rattle.pl_spec.specs.World.{World, exists}
use Rattle.pl_pipeline.specs.Value.{Value}
use Rattle.pl_pipeline.specs.Table.{Pipeline, NamedColumn, value_of, is_kept, summand}
use Rattle.pl_pipeline.specs.Text.{value_field, kind_at}
use Rattle.pl_table.specs.Fields.{field_part}

-- the asset exists on the session, and the screen keeps it
abbrev pub has_row : World → Pipeline → ℕ → ℕ → Bool
has_row w p session a = exists w a (pos session) && is_kept w p p.screen (pos session) a

-- the values of columns for an asset on a session
abbrev pub row_values : World → Pipeline → ℕ → ℤ → List NamedColumn → List Value
row_values w p a d cs = map (λ c. value_of w p c.term a d) cs

-- the field of one column, with what stands before it
abbrev pub value_part : World → Pipeline → Format → ℕ → ℤ → NamedColumn → List ℕ
value_part w p format a d c = field_part format (value_field format (kind_at p.graph c.term) (value_of w p c.term a d))

abbrev pub value_fields : World → Pipeline → Format → ℕ → ℤ → List NamedColumn → List ℕ
value_fields w p format a d cs = flat_map (value_part w p format a d) cs

-- the field of a column was put after a line, and this is its summand
pub record IsPut (w : World) (p : Pipeline) (format : Format) (a : ℕ) (d : ℤ) (c : NamedColumn) (old new : List ℕ) (x : ℤ) : Type 0 where
  pub text : new ≡ old ++ value_part w p format a d c
  pub sum : x ≡ summand w.texts (value_of w p c.term a d)
