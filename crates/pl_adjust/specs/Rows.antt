-- Rows as the definitions know them.
use Rattle.std.specs.Prelude.{ℕ, List, map}
use Rattle.std.specs.List.{zip}
use Rattle.pl_spec.specs.Parts.{ColumnAdjustment}
use Rattle.pl_adjust.specs.declared.adjust.Adjust.{Adjust}
use Rattle.pl_adjust.specs.declared.columns.Row.{Row}
use Rattle.pl_adjust.specs.Events.{event_of}

abbrev pub row_of : Row → ColumnAdjustment
row_of r = record { col = r.col; event = event_of r.adjust }

-- each column with the adjustment at its place
abbrev pub rows_in : List ℕ → List Adjust → List Row
rows_in cols adjusts = map (λ p. record { col = p.0; adjust = p.1 }) (zip cols adjusts)
