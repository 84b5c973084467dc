-- Who is kept on a day, by places among the assets.
use Rattle.std.specs.Prelude.{ℕ, ℤ, List, length, filter, Option}
use Rattle.std.specs.List.{range_with_len}
use Rattle.pl_spec.specs.declared.AssetRow.{AssetRow}
use Rattle.pl_daily.specs.Rows.{is_kept_by}

-- the places of the assets that live on the day and pass the mask, by its row
abbrev pub kept_places : List AssetRow → ℤ → Option (List ℤ) → List ℕ
kept_places assets day row = filter (is_kept_by assets day row) (range_with_len 0 (length assets))
