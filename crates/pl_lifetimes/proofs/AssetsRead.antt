-- Assets that are read have sids of their own, and are no more than a file may have.
use Rattle.std.proofs.Common.{◌≡◌, ◌==◌, eqb-true, ◌<◌, ◌≤◌, ◌^◌, false, List, [], ◌∷◌, ◌++◌, length, All, Some, Ok, arith}
use Rattle.std.specs.List.{list_any}
use Rattle.std.specs.Option.{ok_or}
use Rattle.std.proofs.lemmas.List.Elements.{All-push}
use Rattle.std.proofs.lemmas.List.Sorted.{All-permutation}
use Rattle.pl_records.specs.Reading.{Record, field}
use Rattle.pl_records.specs.Sorted.{sorted_by, HasOwnKeys}
use Rattle.pl_spec.specs.Dates.{date_in}
use Rattle.pl_spec.specs.Decimals.{sid_in}
use Rattle.pl_spec.specs.declared.AssetRow.{AssetRow}
use Rattle.pl_records.proofs.Readings.{few-more, made-of, rows-keep, under_ok}
use Rattle.pl_records.proofs.RuleTables.{when_some, and_then_some, map_some, told_ok, ok_or-Ok}
use Rattle.pl_records.proofs.Sorts.{OwnKeys-none, OwnKeys-more, sorted-rises, sorted-permutes, length-sorted_by}
use Rattle.pl_spec.proofs.DatesRead.{IsDate-date_in}
use Rattle.pl_spec.proofs.SidsRead.{decimal-sid_in}
use Rattle.pl_lifetimes.specs.Rules.{IsAssetRecord}
use Rattle.pl_lifetimes.specs.Assets.{breaks, asset_in, asset_or_rule, rows_in, assets_of, AreAssets, sid_of, header}
use Rattle.pl_lifetimes.specs.Assets as rules
use Rattle.pl_spec.specs.Limits.{most_assets}

pub IsAssetRecord-asset_in : (r : Record) (a : AssetRow) → asset_in r ≡ Some a → IsAssetRecord r a
IsAssetRecord-asset_in r a e =
    let it = when_some (length r == 3) _ a e in
    let s = and_then_some (sid_in (field r 0)) _ a it.1 in
    let d = and_then_some (date_in (field r 1)) _ a s.2 in
    let f = map_some (date_in (field r 2)) (λ end. record { sid = s.0; start = d.0; end = end }) a d.2 in
    let n = decimal-sid_in (field r 0) s.0 s.1 in
    rw (← f.2) record {
      three = eqb-true (length r) 3 it.0;
      small = n.0;
      sid = n.1;
      start = IsDate-date_in (field r 1) d.0 d.1;
      end = IsDate-date_in (field r 2) f.0 f.1;
    }

-- what is kept of all rows
record AreKept (rows : List AssetRow) : Type 0 where
  pub own : HasOwnKeys sid_of rows
  pub few : length rows ≤ most_assets
  pub small : All (λ a. a.sid < 2 ^ 32) rows

kept-more : (before : List AssetRow) (r : Record) (a : AssetRow) → AreKept before → asset_or_rule before r ≡ Ok a → AreKept (before ++ a ∷ [])
unfolding asset_or_rule
kept-more before r a h s =
    let k = told_ok rules.rules (breaks before r) (ok_or (asset_in r) rules.BadField) a s in
    let at : asset_in r ≡ Some a = ok_or-Ok (asset_in r) rules.BadField a k.1 in
    let own : list_any (λ x. sid_of x == a.sid) before ≡ false = rw at at k.0.1.1.1.0 in
    record {
      own = OwnKeys-more sid_of before a h.own own;
      few = few-more most_assets before a k.0.0;
      small = All-push (λ (x : AssetRow). x.sid < 2 ^ 32) before a h.small (IsAssetRecord-asset_in r a at).small;
    }

kept-read : (records : List Record) (rows : List AssetRow) → rows_in records ≡ Ok rows → AreKept rows
unfolding rows_in
kept-read records rows e =
    rows-keep AreKept 2 asset_or_rule kept-more _ [] rows (record { own = OwnKeys-none sid_of; few = omega arith; small = λ k d h. absurd (omega arith) })
    (under_ok header rules.BadHeader asset_or_rule records rows e).1

pub OwnSids-read : (records : List Record) (rows : List AssetRow) → rows_in records ≡ Ok rows → HasOwnKeys sid_of rows
OwnSids-read records rows e = (kept-read records rows e).own

pub AreAssets-read : (records : List Record) (assets : List AssetRow) → assets_of records ≡ Ok assets → AreAssets assets
unfolding assets_of
AreAssets-read records assets e =
    let it = made-of (sorted_by sid_of) (rows_in records) assets e in
    let kept = kept-read records it.0 it.1 in
    record {
      ascend = rw (← it.2) (sorted-rises sid_of it.0 kept.own);
      few = rw (← it.2) (omega (arith, length-sorted_by sid_of it.0, kept.few));
      small = rw (← it.2) (All-permutation (λ (a : AssetRow). a.sid < 2 ^ 32) it.0 (sorted_by sid_of it.0) (sorted-permutes sid_of it.0) kept.small);
    }
