-- What a record says of its asset, in plain words.
use Rattle.std.proofs.Common.{◌≡◌, ◌<◌, ◌↔◌, ◌==◌, true, false, ℤ, ◌<ℤ◌, List, length, Some, Any, Ok, Err, refl, arith, eq-eqb, eqb-true}
use Rattle.std.specs.List.{list_any, AllPairs}
use Rattle.std.specs.List.Sorted.{IsPermutation}
use Rattle.std.specs.Int.RustNames.{int_lt}
use Rattle.std.specs.Bool.{Decides}
use Rattle.std.proofs.lemmas.Int.{ints}
use Rattle.std.proofs.lemmas.Bool.Decides.{nat_tests}
use Rattle.pl_records.specs.Reading.{Record, Fault, field, ◌>>=◌, AreRowsUnder, Judges}
use Rattle.pl_records.specs.RuleTable.{IsFirstBroken}
use Rattle.pl_records.specs.Sorted.{sorted_by}
use Rattle.pl_spec.specs.declared.AssetRow.{AssetRow}
use Rattle.pl_records.proofs.Readings.{made-fault, under-are}
use Rattle.pl_records.proofs.RuleTables.{any-tells, lacks-tells, has-tells, Judges-table}
use Rattle.pl_records.proofs.Sorts.{sorted-are}
use Rattle.pl_spec.proofs.DatesRead.{date_in-IsDate}
use Rattle.pl_spec.proofs.SidsRead.{sid_in-decimal}
use Rattle.pl_lifetimes.specs.Assets.{DataFault, breaks, asset_in, asset_or_rule, rows_in, assets_of, sid_of, header}
use Rattle.pl_lifetimes.specs.Assets as rules
use Rattle.pl_lifetimes.specs.Rules.{IsAssetRecord, IsAsset, Breaks, AreAssetsOf, IsAssetsFault}
use Rattle.pl_lifetimes.proofs.AssetsRead.{IsAssetRecord-asset_in, OwnSids-read}

-- ---- the tests

form : (r : Record) (a : AssetRow) → (asset_in r ≡ Some a) ↔ IsAssetRecord r a
form r a = (
  IsAssetRecord-asset_in r a,
  λ h. rw (
    eq-eqb (length r) 3 h.three,
    sid_in-decimal (field r 0) a.sid h.small h.sid,
    date_in-IsDate (field r 1) a.start h.start,
    date_in-IsDate (field r 2) a.end h.end,
  ) refl,
)

late_tells : (a : AssetRow) → Decides (int_lt a.end a.start) (a.end <ℤ a.start)
late_tells a = below a.end a.start
  where
    below : (x y : ℤ) → Decides (int_lt x y) (x <ℤ y)
    below x y = (λ t. grind (arith, ints), λ h. grind (arith, ints))

sid_tells : (before : List AssetRow) (a : AssetRow) → Decides (list_any (λ x. sid_of x == a.sid) before) (Any (λ b. b.sid ≡ a.sid) before)
sid_tells before a = any-tells (λ x. sid_of x == a.sid) (λ b. b.sid ≡ a.sid) (λ x. (eqb-true x.sid a.sid, eq-eqb x.sid a.sid)) before

tells : (before : List AssetRow) (r : Record) (q : DataFault) → Decides (breaks before r q) (Breaks before r q)
tells before r rules.TooMany = (λ t. grind (arith, nat_tests), λ h. grind (arith, nat_tests))
tells before r rules.BadField = lacks-tells asset_in IsAssetRecord form r
tells before r rules.StartAfterEnd = has-tells asset_in IsAssetRecord form _ _ late_tells r
tells before r rules.DuplicateSid = has-tells asset_in IsAssetRecord form _ _ (sid_tells before) r
tells before r fault = (λ t. absurd (let bad : false ≡ true = t in cc), λ h. absurd h)

pub assets_judged : Judges IsAsset (λ before r. IsFirstBroken rules.rules (Breaks before r)) asset_or_rule
unfolding asset_or_rule
assets_judged = Judges-table asset_in IsAssetRecord form rules.rules rules.BadField breaks Breaks tells (λ before r kept none. kept.1.0 none)

-- ---- and of a file

pub assets-are : (records : List Record) (assets : List AssetRow) → (assets_of records ≡ Ok assets) ↔ AreAssetsOf records assets
unfolding assets_of rows_in
assets-are records assets = (there, back)
  where
    sorted : ((rows_in records >>= λ rows. Ok (sorted_by sid_of rows)) ≡ Ok assets) ↔ ((rows : List AssetRow) × (rows_in records ≡ Ok rows) × IsPermutation rows assets × AllPairs (λ a b. sid_of a < sid_of b) assets)
    sorted = sorted-are sid_of (rows_in records) assets (OwnSids-read records)

    under : (rows : List AssetRow) → (rows_in records ≡ Ok rows) ↔ AreRowsUnder header IsAsset records rows
    under rows = under-are header rules.BadHeader IsAsset (λ before r. IsFirstBroken rules.rules (Breaks before r)) asset_or_rule assets_judged records rows

    there : assets_of records ≡ Ok assets → AreAssetsOf records assets
    there e = let it = sorted.0 e in record { rows = it.0; read = (under it.0).0 it.1; same = it.2; ascend = it.3 }

    back : AreAssetsOf records assets → assets_of records ≡ Ok assets
    back h = sorted.1 (h.rows, (under h.rows).1 h.read, h.same, h.ascend)

pub assets-fault : (records : List Record) (fault : Fault DataFault) → (assets_of records ≡ Err fault) ↔ IsAssetsFault records fault
unfolding assets_of rows_in
assets-fault = made-fault header rules.BadHeader IsAsset (λ before r. IsFirstBroken rules.rules (Breaks before r)) asset_or_rule assets_judged (sorted_by sid_of)
