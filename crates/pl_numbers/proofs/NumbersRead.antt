-- What is kept of all numbers that are read.
use Rattle.std.proofs.Common.{◌≡◌, ◌==◌, ◌<◌, ◌≤◌, false, List, [], ◌∷◌, ◌++◌, length, All, Some, option_map, Ok, subst, arith}
use Rattle.std.specs.List.{list_any, AllPairs}
use Rattle.std.specs.Option.{ok_or}
use Rattle.std.proofs.lemmas.List.Quantifiers.{position-Some}
use Rattle.std.proofs.lemmas.List.Elements.{All-push}
use Rattle.pl_records.specs.Reading.{Record}
use Rattle.pl_spec.specs.Dates.{IsDay}
use Rattle.pl_spec.specs.Limits.{most_numbers}
use Rattle.pl_spec.specs.Rounding.{IsCell}
use Rattle.pl_spec.specs.declared.AssetRow.{AssetRow}
use Rattle.pl_spec.proofs.Columns.{no_asset}
use Rattle.pl_records.proofs.Readings.{few-more, rows-keep, under_ok}
use Rattle.pl_records.proofs.RuleTables.{and_then_some, map_some, told_ok, ok_or-Ok}
use Rattle.pl_lifetimes.specs.Assets.{col_in, sid_of}
use Rattle.pl_spec.specs.Parts.{ColumnNumber}
use Rattle.pl_numbers.specs.Numbers.{breaks, in_column, row_of, header, number_in, is_from, number_or_rule, number_rows_in}
use Rattle.pl_numbers.specs.Numbers as rules
use Rattle.pl_numbers.proofs.NumberFields.{number_cell, number_day}
use Rattle.pl_assets.proofs.Dated.{once-more}
use Rattle.pl_numbers.proofs.NumberKeys.{numbers}

-- numbers as they are kept, in columns of assets
pub record AreRead (assets : List AssetRow) (rows : List ColumnNumber) : Type 0 where
  pub once : AllPairs (λ r q. is_from r.name r.col r.known q ≡ false) rows
  pub few : length rows ≤ most_numbers
  pub cells : All (λ r. IsCell r.value) rows
  pub days : All (λ r. IsDay r.known) rows
  pub cols : All (λ r. r.col < length assets) rows

read-more : (assets : List AssetRow) (before : List ColumnNumber) (r : Record) (row : ColumnNumber) → AreRead assets before → number_or_rule assets before r ≡ Ok row → AreRead assets (before ++ row ∷ [])
unfolding number_or_rule
read-more assets before r row h s =
    let k = told_ok rules.rules (breaks assets before r) (ok_or (row_of assets r) rules.BadField) row s in
    let at : row_of assets r ≡ Some row = ok_or-Ok (row_of assets r) rules.BadField row k.1 in
    let n = and_then_some (number_in r) (λ n. option_map (in_column n) (col_in assets n.sid)) row at in
    let c = map_some (col_in assets n.0.sid) (in_column n.0) row n.2 in
    let col = position-Some (λ a. sid_of a == n.0.sid) assets c.0 no_asset c.1 in
    let own : list_any (is_from row.name row.col row.known) before ≡ false = rw at at k.0.1.1.1.0 in
    record {
      once = once-more numbers before row h.once own;
      few = few-more most_numbers before row k.0.0;
      cells = All-push (λ (x : ColumnNumber). IsCell x.value) before row h.cells (subst (λ (x : ColumnNumber). IsCell x.value) c.2 (number_cell r n.0 n.1));
      days = All-push (λ (x : ColumnNumber). IsDay x.known) before row h.days (subst (λ (x : ColumnNumber). IsDay x.known) c.2 (number_day r n.0 n.1));
      cols = All-push (λ (x : ColumnNumber). x.col < length assets) before row h.cols (subst (λ (x : ColumnNumber). x.col < length assets) c.2 col.0);
    }

read-none : (assets : List AssetRow) → AreRead assets []
read-none assets = record { once = λ i j d h l. absurd (omega arith); few = omega arith; cells = λ k d h. absurd (omega arith); days = λ k d h. absurd (omega arith); cols = λ k d h. absurd (omega arith) }

pub AreRead-read : (assets : List AssetRow) (records : List Record) (rows : List ColumnNumber) → number_rows_in assets records ≡ Ok rows → AreRead assets rows
unfolding number_rows_in
AreRead-read assets records rows e =
    rows-keep (AreRead assets) 2 (number_or_rule assets) (read-more assets) _ [] rows (read-none assets) (under_ok header rules.BadHeader (number_or_rule assets) records rows e).1
