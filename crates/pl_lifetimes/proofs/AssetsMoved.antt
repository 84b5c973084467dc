-- Records of assets in another order are read as the same assets.
use Rattle.std.proofs.Common.{◌≡◌, ◌==◌, Bool, List, ◌∷◌, IsPermutation, Ok, refl, inl, inr, eq-eqb, eqb-true, sym}
use Rattle.std.specs.Cmp.{both_ways}
use Rattle.pl_spec.specs.Limits.{most_assets}
use Rattle.pl_spec.specs.declared.AssetRow.{AssetRow}
use Rattle.pl_records.specs.Reading.{Record}
use Rattle.pl_records.proofs.Orders.{Looks, under-sorted}
use Rattle.pl_lifetimes.specs.Assets.{DataFault, breaks, asset_in, asset_or_rule, rows_in, assets_of, sid_of, header}
use Rattle.pl_lifetimes.specs.Assets as rules
use Rattle.pl_lifetimes.proofs.AssetsRead.{OwnSids-read}

abbrev clash : AssetRow → AssetRow → Bool
clash a x = sid_of x == a.sid

flips : (a b : AssetRow) → clash a b ≡ clash b a
flips a b = both_ways _ _ (λ t. eq-eqb a.sid b.sid (sym (eqb-true b.sid a.sid t))) (λ t. eq-eqb b.sid a.sid (sym (eqb-true a.sid b.sid t)))

looks : (q : DataFault) → Looks most_assets clash asset_in breaks q
looks rules.TooMany = inl (λ before r. refl)
looks rules.DuplicateSid = inr (inl (λ before r. refl))
looks fault = inr (inr (λ before r. refl))

pub assets-moved : (first : Record) (records others : List Record) → IsPermutation records others → (assets : List AssetRow)
    → assets_of (first ∷ records) ≡ Ok assets → assets_of (first ∷ others) ≡ Ok assets
unfolding assets_of rows_in asset_or_rule
assets-moved first records others m assets e =
    under-sorted most_assets clash asset_in breaks rules.rules rules.BadField asset_or_rule (λ before r. refl) flips looks
    sid_of header rules.BadHeader OwnSids-read first records others m assets e
