-- The rules of an assets file in plain words.
use Rattle.std.specs.Prelude.{◌≡◌, ◌^◌, ◌<◌, ◌≤◌, ◌<ℤ◌, List, length, Any, AllPairs, IsPermutation}
use Rattle.std.specs.Fmt.{decimal}
use Rattle.pl_records.specs.Reading.{Record, Fault, field, AreRowsUnder, IsFaultUnder}
use Rattle.pl_records.specs.RuleTable.{IsFirstBroken, KeepsAll}
use Rattle.pl_spec.specs.Dates.{IsDate}
use Rattle.pl_spec.specs.declared.AssetRow.{AssetRow}
use Rattle.pl_lifetimes.specs.Assets.{DataFault, BadHeader, TooMany, BadField, StartAfterEnd, DuplicateSid, rules, header}
use Rattle.pl_spec.specs.Limits.{most_assets}

-- the record is the sid of the asset, without sign and leading zeros, and its two days
pub record IsAssetRecord (r : Record) (a : AssetRow) : Type 0 where
  pub three : length r ≡ 3
  pub small : a.sid < 2 ^ 32
  pub sid : field r 0 ≡ decimal a.sid
  pub start : IsDate (field r 1) a.start
  pub end : IsDate (field r 2) a.end

-- what it is to break each rule
abbrev pub Breaks : List AssetRow → Record → DataFault → Type 0
Breaks before r TooMany = most_assets ≤ length before
Breaks before r BadField = (a : AssetRow) → ¬ IsAssetRecord r a
Breaks before r StartAfterEnd = (a : AssetRow) × IsAssetRecord r a × (a.end <ℤ a.start)
Breaks before r DuplicateSid = (a : AssetRow) × IsAssetRecord r a × Any (λ b. b.sid ≡ a.sid) before
Breaks before r fault = ⊥

-- the record is the next asset
abbrev pub IsAsset : List AssetRow → Record → AssetRow → Type 0
IsAsset before r a = IsAssetRecord r a × KeepsAll rules (Breaks before r)

-- the assets of the records after the header, by ascending sid
pub record AreAssetsOf (records : List Record) (assets : List AssetRow) : Type 0 where
  pub rows : List AssetRow
  pub read : AreRowsUnder header IsAsset records rows
  pub same : IsPermutation rows assets
  pub ascend : AllPairs (λ a b. a.sid < b.sid) assets

-- no header, or the first faulty record
abbrev pub IsAssetsFault : List Record → Fault DataFault → Type 0
IsAssetsFault records fault = IsFaultUnder header BadHeader IsAsset (λ before r. IsFirstBroken rules (Breaks before r)) records fault
