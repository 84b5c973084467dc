-- Records of payouts in another order are read as the same payouts in some order.
use Rattle.std.proofs.Common.{◌≡◌, Bool, false, List, ◌∷◌, IsPermutation, Ok, refl, inl, inr}
use Rattle.pl_spec.specs.Limits.{most_payouts}
use Rattle.pl_spec.specs.declared.AssetRow.{AssetRow}
use Rattle.pl_records.specs.Reading.{Record}
use Rattle.pl_records.proofs.Orders.{Looks, under-permuted}
use Rattle.pl_payouts.specs.declared.reading.Dividend.{Dividend}
use Rattle.pl_payouts.specs.Payouts.{DataFault, breaks, dividend_in, header, payouts_of, dividend_or_rule}
use Rattle.pl_payouts.specs.Payouts as rules

-- payouts may be alike
abbrev clash : Dividend → Dividend → Bool
clash d x = false

module _ (assets : List AssetRow) where
  looks : (q : DataFault) → Looks most_payouts clash dividend_in (breaks assets) q
  looks rules.TooMany = inl (λ before r. refl)
  looks fault = inr (inr (λ before r. refl))

  pub payouts-moved : (first : Record) (records others : List Record) → IsPermutation records others → (rows : List Dividend) → payouts_of assets (first ∷ records) ≡ Ok rows
      → (found : List Dividend) × (payouts_of assets (first ∷ others) ≡ Ok found) × IsPermutation rows found
  unfolding payouts_of dividend_or_rule
  payouts-moved first records others m rows e =
      under-permuted most_payouts clash dividend_in (breaks assets) rules.rules rules.BadField (dividend_or_rule assets) (λ before r. refl) (λ x y. refl) looks
      header rules.BadHeader first records others m rows e
