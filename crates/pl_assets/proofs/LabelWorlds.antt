-- The labels of a table in the world that is made of it.
use Rattle.std.proofs.Common.{◌≡◌, ℕ, ◌<◌, ◌&&◌, Bool, ℤ, List, length, get_or, map, filter, All, Option, Some, None, option_map, option_and_then, bytes_eq, refl, sym, ◌∙◌, ap}
use Rattle.std.specs.List.{AllPairs}
use Rattle.std.specs.Int.RustNames.{int_le}
use Rattle.pl_spec.specs.World.{LabelRow, day_of, is_label_of, last_started, nonempty}
use Rattle.pl_spec.specs.Parts.{ColumnLabel, label_of, sid_at, world_of}
use Rattle.pl_spec.specs.declared.AssetRow.{AssetRow}
use Rattle.pl_spec.proofs.Lists.{filter-same}
use Rattle.pl_assets.specs.Labels.{by_column, label_on}
use Rattle.pl_assets.specs.LabelWorlds.{LabelsAreThose}
use Rattle.pl_assets.proofs.Dated.{last_row, last-mapped}
use Rattle.pl_assets.proofs.LabelKeys.{labels}
use Rattle.pl_lifetimes.proofs.Columns.{same_col}

-- ---- the row that started last

text-mapped : (f : ColumnLabel → LabelRow) → ((r : ColumnLabel) → (f r).text ≡ r.text) → (o : Option ColumnLabel) → option_and_then (λ r. nonempty r.text) (option_map f o) ≡ option_and_then (λ r. nonempty r.text) o
text-mapped f same None = refl
text-mapped f same (Some r) = ap nonempty (same r)

label-mapped : (f : ColumnLabel → LabelRow) → ((r : ColumnLabel) → (f r).start ≡ r.start) → ((r : ColumnLabel) → (f r).text ≡ r.text) → (test : LabelRow → Bool) (rows : List ColumnLabel)
    → option_and_then (λ r. nonempty r.text) (last_started (filter test (map f rows))) ≡ option_and_then (λ r. nonempty r.text) (last_row labels (filter (λ r. test (f r)) rows))
label-mapped f starts texts test rows =
    ap (option_and_then (λ r. nonempty r.text)) (last-mapped labels (λ (l : LabelRow). l.start) f starts test rows)
    ∙ text-mapped f texts (last_row labels (filter (λ r. test (f r)) rows))

on_day : (assets : List AssetRow) (rows : List ColumnLabel) → AllPairs (λ a b. a.sid < b.sid) assets → All (λ r. r.col < length assets) rows → (name : List ℕ) (col : ℕ) (day : ℤ) → col < length assets
    → option_and_then (λ r. nonempty r.text) (last_started (filter (is_label_of name (sid_at assets col) day) (map (label_of assets) rows))) ≡ label_on rows name col day
unfolding label_on
on_day assets rows up inside name col day h =
    label-mapped (label_of assets) (λ r. refl) (λ r. refl) (is_label_of name (sid_at assets col) day) rows
    ∙ ap (λ l. option_and_then (λ (r : ColumnLabel). nonempty r.text) (last_row labels l)) (filter-same _ _ rows (λ k d l.
    ap (λ b. (bytes_eq (get_or rows k d).name name && b) && int_le (get_or rows k d).start day) (same_col assets up (get_or rows k d).col col (inside k d l) h)))
    ∙ sym (label-mapped by_column (λ r. refl) (λ r. refl) (is_label_of name col day) rows)

pub labels_those : LabelsAreThose
labels_those days assets rows texts bars adjustments numbers up inside name col d h = here (day_of (world_of days assets rows texts bars adjustments numbers) d)
  where
    here : (o : Option ℤ) → option_and_then (λ day. option_and_then (λ r. nonempty r.text) (last_started (filter (is_label_of name (sid_at assets col) day) (map (label_of assets) rows)))) o ≡ option_and_then (label_on rows name col) o
    here None = refl
    here (Some day) = on_day assets rows up inside name col day h
