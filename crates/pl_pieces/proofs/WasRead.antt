-- What is read of files and tables, these can hold.
use Rattle.std.proofs.Common.{◌≡◌, IsTrue, false, ℤ, ◌≤ℤ◌, List, [], ◌∷◌, ◌++◌, All, Some, option_map, Ok, subst, arith}
use Rattle.std.specs.Int.RustNames.{int_lt}
use Rattle.std.specs.Option.{ok_or}
use Rattle.std.proofs.lemmas.Int.{ints}
use Rattle.std.proofs.lemmas.List.Elements.{All-push}
use Rattle.std.proofs.lemmas.List.Sorted.{All-permutation}
use Rattle.pl_records.specs.Reading.{Record, field}
use Rattle.pl_records.specs.Sorted.{sorted_by}
use Rattle.pl_records.proofs.Readings.{made-of, rows-keep, under_ok}
use Rattle.pl_records.proofs.RuleTables.{and_then_some, map_some, ok_or-Ok, told_ok}
use Rattle.pl_records.proofs.Sorts.{sorted-permutes}
use Rattle.pl_spec.specs.Dates.{IsDay}
use Rattle.pl_spec.specs.Names.{is_name}
use Rattle.pl_spec.specs.Parts.{ColumnLabel, ColumnNumber}
use Rattle.pl_spec.specs.declared.AssetRow.{AssetRow}
use Rattle.pl_spec.proofs.DatesWritten.{IsDay-IsDate}
use Rattle.pl_lifetimes.specs.Assets.{asset_in, asset_or_rule, assets_of, col_in, header, rows_in, sid_of}
use Rattle.pl_lifetimes.specs.Assets as asset_rules
use Rattle.pl_lifetimes.proofs.AssetsRead.{IsAssetRecord-asset_in}
use Rattle.pl_assets.specs.Labels as label_rules
use Rattle.pl_assets.proofs.LabelFields.{label_form}
use Rattle.pl_numbers.specs.Numbers as number_rules
use Rattle.pl_numbers.proofs.NumberFields.{number_form}
use Rattle.pl_pieces.specs.Held.{IsLifetime}

-- ---- assets

lifetime-more : (before : List AssetRow) (r : Record) (a : AssetRow) → All IsLifetime before → asset_or_rule before r ≡ Ok a → All IsLifetime (before ++ a ∷ [])
unfolding asset_or_rule
lifetime-more before r a h s =
    let k = told_ok asset_rules.rules (asset_rules.breaks before r) (ok_or (asset_in r) asset_rules.BadField) a s in
    let at : asset_in r ≡ Some a = ok_or-Ok (asset_in r) asset_rules.BadField a k.1 in
    let written = IsAssetRecord-asset_in r a at in
    let order : int_lt a.end a.start ≡ false = rw at at k.0.1.1.0 in
    All-push IsLifetime before a h (record {
      start = IsDay-IsDate (field r 1) a.start written.start;
      end = IsDay-IsDate (field r 2) a.end written.end;
      forward = not-before a.start a.end order;
    })
  where
    not-before : (x y : ℤ) → int_lt y x ≡ false → x ≤ℤ y
    not-before x y t = grind (arith, ints)

pub lifetimes-read : (records : List Record) (assets : List AssetRow) → assets_of records ≡ Ok assets → All IsLifetime assets
unfolding assets_of rows_in
lifetimes-read records assets e =
    let it = made-of (sorted_by sid_of) (rows_in records) assets e in
    let kept = rows-keep (All IsLifetime) 2 asset_or_rule lifetime-more _ [] it.0 (λ k d l. absurd (omega arith)) (under_ok header asset_rules.BadHeader asset_or_rule records it.0 it.1).1 in
    rw (← it.2) (All-permutation IsLifetime it.0 (sorted_by sid_of it.0) (sorted-permutes sid_of it.0) kept)

-- ---- labels

start-more : (assets : List AssetRow) (before : List ColumnLabel) (r : Record) (row : ColumnLabel) → All (λ x. IsDay x.start) before → label_rules.label_or_rule assets before r ≡ Ok row
    → All (λ x. IsDay x.start) (before ++ row ∷ [])
unfolding label_rules.label_or_rule
start-more assets before r row h s =
    let k = told_ok label_rules.rules (label_rules.breaks assets before r) (ok_or (label_rules.row_of assets r) label_rules.BadField) row s in
    let at : label_rules.row_of assets r ≡ Some row = ok_or-Ok (label_rules.row_of assets r) label_rules.BadField row k.1 in
    let l = and_then_some (label_rules.label_in r) (λ l. option_map (label_rules.in_column l) (col_in assets l.sid)) row at in
    let c = map_some (col_in assets l.0.sid) (label_rules.in_column l.0) row l.2 in
    All-push (λ (x : ColumnLabel). IsDay x.start) before row h (subst (λ (x : ColumnLabel). IsDay x.start) c.2 (IsDay-IsDate (field r 2) l.0.start ((label_form r l.0).0 l.1).start))

pub starts-read : (assets : List AssetRow) (records : List Record) (table : label_rules.LabelTable) → label_rules.labels_of assets records ≡ Ok table → All (λ r. IsDay r.start) table.rows
unfolding label_rules.labels_of label_rules.label_rows_in
starts-read assets records table e =
    let it = made-of label_rules.table_of (label_rules.label_rows_in assets records) table e in
    let kept = rows-keep (All (λ (x : ColumnLabel). IsDay x.start)) 2 (label_rules.label_or_rule assets) (start-more assets) _ [] it.0 (λ k d l. absurd (omega arith))
    (under_ok label_rules.header label_rules.BadHeader (label_rules.label_or_rule assets) records it.0 it.1).1 in
    rw (← it.2) kept

-- ---- numbers

name-more : (assets : List AssetRow) (before : List ColumnNumber) (r : Record) (row : ColumnNumber) → All (λ x. IsTrue (is_name x.name)) before → number_rules.number_or_rule assets before r ≡ Ok row
    → All (λ x. IsTrue (is_name x.name)) (before ++ row ∷ [])
unfolding number_rules.number_or_rule
name-more assets before r row h s =
    let k = told_ok number_rules.rules (number_rules.breaks assets before r) (ok_or (number_rules.row_of assets r) number_rules.BadField) row s in
    let at : number_rules.row_of assets r ≡ Some row = ok_or-Ok (number_rules.row_of assets r) number_rules.BadField row k.1 in
    let n = and_then_some (number_rules.number_in r) (λ n. option_map (number_rules.in_column n) (col_in assets n.sid)) row at in
    let c = map_some (col_in assets n.0.sid) (number_rules.in_column n.0) row n.2 in
    All-push (λ (x : ColumnNumber). IsTrue (is_name x.name)) before row h (subst (λ (x : ColumnNumber). IsTrue (is_name x.name)) c.2 ((number_form r n.0).0 n.1).right_name)

pub names-read : (assets : List AssetRow) (records : List Record) (rows : List ColumnNumber) → number_rules.number_rows_in assets records ≡ Ok rows → All (λ r. IsTrue (is_name r.name)) rows
unfolding number_rules.number_rows_in
names-read assets records rows e =
    rows-keep (All (λ (x : ColumnNumber). IsTrue (is_name x.name))) 2 (number_rules.number_or_rule assets) (name-more assets) _ [] rows (λ k d l. absurd (omega arith))
    (under_ok number_rules.header number_rules.BadHeader (number_rules.number_or_rule assets) records rows e).1
