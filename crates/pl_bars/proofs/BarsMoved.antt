-- Records of bars in another order are read as the same bars.
use Rattle.std.proofs.Common.{◌≡◌, ℕ, ◌≤◌, ◌==◌, ◌&&◌, Bool, ℤ, List, ◌∷◌, length, IsPermutation, Ok, refl, arith, inl, inr}
use Rattle.std.proofs.lemmas.Bool.Decides.{nat_tests}
use Rattle.pl_spec.specs.Limits.{most_bars, most_sessions}
use Rattle.pl_spec.specs.declared.AssetRow.{AssetRow}
use Rattle.pl_spec.specs.declared.BarRow.{BarRow}
use Rattle.pl_records.specs.Reading.{Record}
use Rattle.pl_records.proofs.Orders.{Looks, under-sorted}
use Rattle.pl_bars.specs.Bars.{DataFault, breaks, is_at, bar_of, bar_or_rule, key_of, rows_in, bars_of, header}
use Rattle.pl_bars.specs.Bars as rules
use Rattle.pl_bars.proofs.BarsRead.{AreKept-read}

abbrev clash : BarRow → BarRow → Bool
clash b x = is_at b.col b.session x

flips : (a b : BarRow) → clash a b ≡ clash b a
flips a b = either b.col b.session a.col a.session
  where
    either : (m n i j : ℕ) → (m == i && n == j) ≡ (i == m && j == n)
    either m n i j = grind (arith, nat_tests)

module _ (days : List ℤ) (assets : List AssetRow) where
  looks : (q : DataFault) → Looks most_bars clash (bar_of days assets) (breaks days assets) q
  looks rules.TooMany = inl (λ before r. refl)
  looks rules.Duplicate = inr (inl (λ before r. refl))
  looks fault = inr (inr (λ before r. refl))

  pub bars-moved : length days ≤ most_sessions → (first : Record) (records others : List Record) → IsPermutation records others → (bars : List BarRow)
      → bars_of days assets (first ∷ records) ≡ Ok bars → bars_of days assets (first ∷ others) ≡ Ok bars
  unfolding bars_of rows_in bar_or_rule
  bars-moved few first records others m bars e =
      under-sorted most_bars clash (bar_of days assets) (breaks days assets) rules.rules rules.BadField (bar_or_rule days assets) (λ before r. refl) flips looks
      key_of header rules.BadHeader (λ rs rows was. (AreKept-read days assets rs rows few was).own) first records others m bars e
