-- What a record says of its label, in plain words.
use Rattle.std.proofs.Common.{◌≡◌, ℕ, ◌<◌, ◌↔◌, nat_lt, true, false, List, length, Some, Ok, Err, refl, arith}
use Rattle.std.specs.Bool.{Decides}
use Rattle.std.proofs.lemmas.Bool.Decides.{nat_tests}
use Rattle.pl_records.specs.Reading.{Record, Fault, Judges}
use Rattle.pl_records.specs.RuleTable.{IsFirstBroken, KeepsAll}
use Rattle.pl_spec.specs.Parts.{ColumnLabel}
use Rattle.pl_spec.specs.declared.AssetRow.{AssetRow}
use Rattle.pl_records.proofs.Readings.{made-fault, made-is}
use Rattle.pl_records.proofs.RuleTables.{lacks-tells, has-tells, Judges-table}
use Rattle.pl_lifetimes.specs.Assets.{AreAssets}
use Rattle.pl_assets.specs.Labels.{DataFault, LabelTable, breaks, in_column, row_of, header, label_in, label_or_rule, label_rows_in, labels_of, table_of}
use Rattle.pl_assets.specs.Labels as rules
use Rattle.pl_assets.specs.LabelRules.{IsLabelRecord, IsRowRecord, IsLabel, Breaks, AreLabelsOf, IsLabelsFault}
use Rattle.pl_spec.specs.Limits.{most_label_bytes}
use Rattle.pl_assets.proofs.Dated.{clash-tells}
use Rattle.pl_assets.proofs.LabelKeys.{labels}
use Rattle.pl_assets.proofs.LabelFields.{label_form}
use Rattle.pl_lifetimes.proofs.SidColumns.{placed_form, unknown_tells}

row_form : (assets : List AssetRow) → AreAssets assets → (r : Record) (row : ColumnLabel) → (row_of assets r ≡ Some row) ↔ IsRowRecord assets r row
row_form = placed_form label_in IsLabelRecord (λ l. l.sid) in_column label_form

abbrev Told : List AssetRow → List ColumnLabel → Record → DataFault → Type 0
Told assets before r rule = IsFirstBroken rules.rules (Breaks assets before r) rule

tells : (assets : List AssetRow) → AreAssets assets → (before : List ColumnLabel) (r : Record) (q : DataFault) → Decides (breaks assets before r q) (Breaks assets before r q)
tells assets up before r rules.TooMany = (λ t. grind (arith, nat_tests), λ h. grind (arith, nat_tests))
tells assets up before r rules.BadField = lacks-tells label_in IsLabelRecord label_form r
tells assets up before r rules.LabelTooLong = has-tells label_in IsLabelRecord label_form _ _ (λ l. long (length l.text)) r
  where
    long : (n : ℕ) → Decides (nat_lt most_label_bytes n) (most_label_bytes < n)
    long n = (λ t. grind (arith, nat_tests), λ h. grind (arith, nat_tests))
tells assets up before r rules.UnknownSid =
    has-tells label_in IsLabelRecord label_form _ _ (λ l. unknown_tells assets up l.sid) r
tells assets up before r rules.DuplicateStart =
    has-tells (row_of assets) (IsRowRecord assets) (row_form assets up) _ _ (clash-tells labels before) r
tells assets up before r fault = (λ t. absurd (let bad : false ≡ true = t in cc), λ h. absurd h)

pub labels_judged : (assets : List AssetRow) → AreAssets assets → Judges (IsLabel assets) (Told assets) (label_or_rule assets)
unfolding label_or_rule
labels_judged assets up = Judges-table (row_of assets) (IsRowRecord assets) (row_form assets up) rules.rules rules.BadField (breaks assets) (Breaks assets) (tells assets up) some
  where
    some : (before : List ColumnLabel) (r : Record) → KeepsAll rules.rules (Breaks assets before r) → ((row : ColumnLabel) → ¬ IsRowRecord assets r row) → ⊥
    some before r kept none =
        kept.1.0 (λ l w. kept.1.1.1.0 (l, w, λ col has. none (in_column l col) (record { said = l; written = w; col = col; asset = has; same = refl })))

-- ---- and of a file

pub labels-are : (assets : List AssetRow) → AreAssets assets → (records : List Record) (table : LabelTable) → (labels_of assets records ≡ Ok table) ↔ AreLabelsOf assets records table
unfolding labels_of label_rows_in
labels-are assets up = made-is header rules.BadHeader (IsLabel assets) (Told assets) (label_or_rule assets) (labels_judged assets up) table_of

pub labels-fault : (assets : List AssetRow) → AreAssets assets → (records : List Record) (fault : Fault DataFault) → (labels_of assets records ≡ Err fault) ↔ IsLabelsFault assets records fault
unfolding labels_of label_rows_in
labels-fault assets up = made-fault header rules.BadHeader (IsLabel assets) (Told assets) (label_or_rule assets) (labels_judged assets up) table_of
