-- What is kept of all labels that are read.
use Rattle.std.proofs.Common.{◌≡◌, ℕ, ◌==◌, ◌<◌, ◌≤◌, nat_lt, false, List, [], ◌∷◌, ◌++◌, length, All, Some, option_map, Ok, subst, arith}
use Rattle.std.specs.List.{list_any, AllPairs}
use Rattle.std.specs.Option.{ok_or}
use Rattle.std.proofs.lemmas.Bool.Decides.{nat_tests}
use Rattle.std.proofs.lemmas.List.Quantifiers.{position-Some}
use Rattle.std.proofs.lemmas.List.Elements.{All-push}
use Rattle.pl_records.specs.Reading.{Record}
use Rattle.pl_spec.specs.Parts.{ColumnLabel}
use Rattle.pl_spec.specs.declared.AssetRow.{AssetRow}
use Rattle.pl_records.proofs.Readings.{few-more, rows-keep, under_ok}
use Rattle.pl_records.proofs.RuleTables.{and_then_some, map_some, told_ok, ok_or-Ok}
use Rattle.pl_lifetimes.specs.Assets.{col_in, sid_of}
use Rattle.pl_assets.specs.Labels.{breaks, in_column, row_of, header, label_in, is_from, label_or_rule, label_rows_in, IsLabelRow}
use Rattle.pl_assets.specs.Labels as rules
use Rattle.pl_spec.specs.Limits.{most_labels, most_label_bytes}
use Rattle.pl_spec.proofs.Columns.{no_asset}
use Rattle.pl_assets.proofs.LabelFields.{label_form, printable-bytes}
use Rattle.pl_assets.proofs.Dated.{once-more}
use Rattle.pl_assets.proofs.LabelKeys.{labels}

-- labels as they are kept, in columns of assets
pub record AreRead (assets : List AssetRow) (rows : List ColumnLabel) : Type 0 where
  pub right : All IsLabelRow rows
  pub once : AllPairs (λ r q. is_from r.name r.col r.start q ≡ false) rows
  pub few : length rows ≤ most_labels
  pub cols : All (λ r. r.col < length assets) rows

read-more : (assets : List AssetRow) (before : List ColumnLabel) (r : Record) (row : ColumnLabel) → AreRead assets before → label_or_rule assets before r ≡ Ok row → AreRead assets (before ++ row ∷ [])
unfolding label_or_rule
read-more assets before r row h s =
    let k = told_ok rules.rules (breaks assets before r) (ok_or (row_of assets r) rules.BadField) row s in
    let at : row_of assets r ≡ Some row = ok_or-Ok (row_of assets r) rules.BadField row k.1 in
    let l = and_then_some (label_in r) (λ l. option_map (in_column l) (col_in assets l.sid)) row at in
    let c = map_some (col_in assets l.0.sid) (in_column l.0) row l.2 in
    let col = position-Some (λ a. sid_of a == l.0.sid) assets c.0 no_asset c.1 in
    let w = (label_form r l.0).0 l.1 in
    let short : nat_lt most_label_bytes (length l.0.text) ≡ false = rw l.1 at k.0.1.1.0 in
    let own : list_any (is_from row.name row.col row.start) before ≡ false = rw at at k.0.1.1.1.1.0 in
    let right : IsLabelRow (in_column l.0 c.0) = record { name = w.right_name; printable = printable-bytes l.0.text w.printable; short = fits (length l.0.text) short } in
    record {
      right = All-push IsLabelRow before row h.right (subst IsLabelRow c.2 right);
      once = once-more labels before row h.once own;
      few = few-more most_labels before row k.0.0;
      cols = All-push (λ (x : ColumnLabel). x.col < length assets) before row h.cols (subst (λ (x : ColumnLabel). x.col < length assets) c.2 col.0);
    }
  where
    fits : (n : ℕ) → nat_lt most_label_bytes n ≡ false → n ≤ most_label_bytes
    fits n t = grind (arith, nat_tests)

read-none : (assets : List AssetRow) → AreRead assets []
read-none assets = record { right = λ k d h. absurd (omega arith); once = λ i j d h l. absurd (omega arith); few = omega arith; cols = λ k d h. absurd (omega arith) }

pub AreRead-read : (assets : List AssetRow) (records : List Record) (rows : List ColumnLabel) → label_rows_in assets records ≡ Ok rows → AreRead assets rows
unfolding label_rows_in
AreRead-read assets records rows e =
    rows-keep (AreRead assets) 2 (label_or_rule assets) (read-more assets) _ [] rows (read-none assets) (under_ok header rules.BadHeader (label_or_rule assets) records rows e).1
