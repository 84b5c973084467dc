-- What a record says of its number, in plain words.
use Rattle.std.proofs.Common.{◌≡◌, ◌↔◌, true, false, List, Some, Ok, Err, refl, arith}
use Rattle.std.specs.Bool.{Decides}
use Rattle.std.proofs.lemmas.Bool.Decides.{nat_tests}
use Rattle.pl_records.specs.Reading.{Record, Fault, Judges}
use Rattle.pl_records.specs.RuleTable.{IsFirstBroken, KeepsAll}
use Rattle.pl_spec.specs.declared.AssetRow.{AssetRow}
use Rattle.pl_records.proofs.Readings.{made-fault, made-is}
use Rattle.pl_records.proofs.RuleTables.{lacks-tells, has-tells, Judges-table}
use Rattle.pl_lifetimes.specs.Assets.{AreAssets}
use Rattle.pl_lifetimes.proofs.SidColumns.{placed_form, unknown_tells}
use Rattle.pl_spec.specs.Parts.{ColumnNumber}
use Rattle.pl_numbers.specs.Numbers.{DataFault, NumberTable, breaks, in_column, row_of, header, number_in, number_or_rule, number_rows_in, numbers_of, table_of}
use Rattle.pl_numbers.specs.Numbers as rules
use Rattle.pl_numbers.specs.NumberRules.{IsNumberRecord, IsRowRecord, IsNumber, Breaks, AreNumbersOf, IsNumbersFault}
use Rattle.pl_numbers.proofs.NumberFields.{number_form}
use Rattle.pl_assets.proofs.Dated.{clash-tells}
use Rattle.pl_numbers.proofs.NumberKeys.{numbers}

row_form : (assets : List AssetRow) → AreAssets assets → (r : Record) (row : ColumnNumber) → (row_of assets r ≡ Some row) ↔ IsRowRecord assets r row
row_form = placed_form number_in IsNumberRecord (λ n. n.sid) in_column number_form

abbrev Told : List AssetRow → List ColumnNumber → Record → DataFault → Type 0
Told assets before r rule = IsFirstBroken rules.rules (Breaks assets before r) rule

tells : (assets : List AssetRow) → AreAssets assets → (before : List ColumnNumber) (r : Record) (q : DataFault) → Decides (breaks assets before r q) (Breaks assets before r q)
tells assets up before r rules.TooMany = (λ t. grind (arith, nat_tests), λ h. grind (arith, nat_tests))
tells assets up before r rules.BadField = lacks-tells number_in IsNumberRecord number_form r
tells assets up before r rules.UnknownSid =
    has-tells number_in IsNumberRecord number_form _ _ (λ n. unknown_tells assets up n.sid) r
tells assets up before r rules.Duplicate =
    has-tells (row_of assets) (IsRowRecord assets) (row_form assets up) _ _ (clash-tells numbers before) r
tells assets up before r fault = (λ t. absurd (let bad : false ≡ true = t in cc), λ h. absurd h)

pub numbers_judged : (assets : List AssetRow) → AreAssets assets → Judges (IsNumber assets) (Told assets) (number_or_rule assets)
unfolding number_or_rule
numbers_judged assets up = Judges-table (row_of assets) (IsRowRecord assets) (row_form assets up) rules.rules rules.BadField (breaks assets) (Breaks assets) (tells assets up) some
  where
    some : (before : List ColumnNumber) (r : Record) → KeepsAll rules.rules (Breaks assets before r) → ((row : ColumnNumber) → ¬ IsRowRecord assets r row) → ⊥
    some before r kept none =
        kept.1.0 (λ n w. kept.1.1.0 (n, w, λ col has. none (in_column n col) (record { said = n; written = w; col = col; asset = has; same = refl })))

-- ---- and of a file

pub numbers-are : (assets : List AssetRow) → AreAssets assets → (records : List Record) (table : NumberTable) → (numbers_of assets records ≡ Ok table) ↔ AreNumbersOf assets records table
unfolding numbers_of number_rows_in
numbers-are assets up = made-is header rules.BadHeader (IsNumber assets) (Told assets) (number_or_rule assets) (numbers_judged assets up) table_of

pub numbers-fault : (assets : List AssetRow) → AreAssets assets → (records : List Record) (fault : Fault DataFault) → (numbers_of assets records ≡ Err fault) ↔ IsNumbersFault assets records fault
unfolding numbers_of number_rows_in
numbers-fault assets up = made-fault header rules.BadHeader (IsNumber assets) (Told assets) (number_or_rule assets) (numbers_judged assets up) table_of
