-- Rows of labels as they are lent, and which of them are the newest.
use Rattle.std.specs.Prelude.{ℕ, Bool, ℤ, List, map, filter}
use Rattle.std.specs.List.{list_all}
use Rattle.std.specs.Int.RustNames.{int_le}
use Rattle.pl_spec.specs.Parts.{ColumnLabel}
use Rattle.pl_spec.specs.World.{is_label_of}
use Rattle.pl_assets.specs.Labels.{by_column}
use Rattle.pl_assets.specs.declared.labels.rows.LabelAt.{LabelAt}

-- the row that is lent
abbrev pub shown_at : LabelAt → ColumnLabel
shown_at r = record { name = r.name.now; col = r.col; start = r.start; text = r.text.now }

-- of the rows of its name and column none that has started by the day starts later
abbrev pub is_newest_in : List ColumnLabel → ℤ → ColumnLabel → Bool
is_newest_in rows day r = list_all (λ q. int_le q.start r.start) (filter (is_label_of r.name r.col day) (map by_column rows))
