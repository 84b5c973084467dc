-- The assets, and the columns of their sids.
use Rattle.std.proofs.Common.{◌≡◌, ℕ, ◌+◌, ◌<◌, true, ◌==◌, Some, ℤ, pos, List, length, map, get_or, refl, arith}
use Rattle.std.specs.List.{range_with_len, list_any, position_or_len}
use Rattle.std.proofs.lemmas.Bool.Decides.{nat_tests}
use Rattle.std.specs.Prelude.{slice_get}
use Rattle.std.proofs.lemmas.Option.{get_or_from_slice_get}
use Rattle.std.proofs.lemmas.List.FromFn.{length-map-range_with_len, get_or-map-range_with_len}
use Rattle.std.proofs.lemmas.List.Folds.{list_any_at}
use Rattle.std.proofs.lemmas.List.Sums.{position_or_len_is}
use Rattle.pl_spec.specs.declared.AssetRow.{AssetRow}
use Rattle.pl_spec.proofs.Columns.{no_asset}
use Rattle.pl_lifetimes.specs.Assets.{AreAssets, sid_of}
use Rattle.pl_bench.specs.StatedWorld.{asset, stated_assets, stated_days}

asset-at : (i : ℕ) (d : AssetRow) → i < 400 → get_or stated_assets i d ≡ asset i
unfolding stated_assets
asset-at i d h = get_or-map-range_with_len asset 0 400 i i d h (omega arith)

pub length-assets : length stated_assets ≡ 400
unfolding stated_assets
length-assets = length-map-range_with_len asset 0 400

pub are_assets : AreAssets stated_assets
are_assets =
    record {
      ascend = λ i j d h l. (let few : j < 400 = omega (arith, length-assets) in rw (asset-at i d (omega arith), asset-at j d few) (omega arith));
      few = omega (arith, length-assets);
      small = λ i d l. (let few : i < 400 = omega (arith, length-assets) in rw (asset-at i d few) (omega arith));
    }

pub col_of-sid : (i : ℕ) → i < 400 → position_or_len (λ a. sid_of a == i + 1) stated_assets ≡ i
col_of-sid i h =
    position_or_len_is (λ (a : AssetRow). sid_of a == i + 1) stated_assets i no_asset (omega (arith, length-assets))
    (λ k l. (let few : k < 400 = omega arith in rw (asset-at k no_asset few) (grind (arith, nat_tests))))
    (λ l. rw (asset-at i no_asset h) (grind (arith, nat_tests)))

pub assets-all : map asset (range_with_len 0 400) ≡ stated_assets
unfolding stated_assets
assets-all = refl

-- the first and the last of the days
pub asset-from : (i : ℕ) (days : List ℤ) (end : ℕ) (first last : ℤ) → days ≡ stated_days → end ≡ 599 → slice_get days 0 ≡ Some first → slice_get days end ≡ Some last
    → record { sid = i + 1; start = first; end = last } ≡ asset i
asset-from i days end first last same at a b =
    let begins = get_or_from_slice_get stated_days 0 first (pos 0) (rw same at a) in
    let ends = get_or_from_slice_get stated_days 599 last (pos 0) (rw (same, at) at b) in
    rw (begins, ends) refl

pub has-sid : (i : ℕ) → i < 400 → list_any (λ a. sid_of a == i + 1) stated_assets ≡ true
has-sid i h =
    list_any_at (λ (a : AssetRow). sid_of a == i + 1) stated_assets i no_asset (omega (arith, length-assets))
    (rw (asset-at i no_asset h) (grind (arith, nat_tests)))
