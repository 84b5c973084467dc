-- Cross-sections, screens and bounds of prices in another unit.
use Rattle.std.specs.Prelude.{◌≡◌, ◌<◌, false, ℕ, ℤ, List, length, map}
use Rattle.pl_spec.specs.Cells.{comparison}
use Rattle.pl_spec.specs.Each.{Each}
use Rattle.pl_spec.specs.Rounding.{Fraction, is_missing, scaled}
use Rattle.pl_spec.specs.declared.Compare.{Compare}
use Rattle.pl_pipeline.specs.Kind.{CrossKind}
use Rattle.pl_pipeline.specs.Kind.PointKind.{Clip}
use Rattle.pl_pipeline.specs.Pointwise.{pointwise}
use Rattle.pl_pipeline.specs.Kind.CrossKind.{Demean, ZScore, Quantiles, PercentileBetween, PeerCount}
use Rattle.pl_pipeline.specs.Cross.{Entry, values, cross}
use Rattle.pl_invariance.specs.Exact.{Divides}
use Rattle.pl_invariance.specs.Ranked.{IsExact, scaled_entry}
use Rattle.pl_invariance.specs.Units.{IsRatio, IsSpreadExact}

-- the ratio, which is above 0, rounds no value of the cross-section, which is not empty
pub record AreUnrounded (r : Fraction) (list : List Entry) (x : ℤ) : Type 0 where
  pub ratio : IsRatio r
  pub some : 0 < length list
  pub all : Each (λ e. IsExact r e.1) list
  pub own : IsExact r x

-- then the cross-section gives the same in both units
abbrev pub IsWithoutUnit : CrossKind → Fraction → List Entry → ℕ → ℤ → Type 0
IsWithoutUnit kind r list a x = cross kind (map (scaled_entry r) list) a (scaled r x) ≡ cross kind list a x

pub record CrossesHaveNoUnit : Type 0 where
  pub quantiles : (bins : ℕ) (r : Fraction) (list : List Entry) (a : ℕ) (x : ℤ) → AreUnrounded r list x
      → IsWithoutUnit (Quantiles bins) r list a x
  pub percentiles : (low high : ℕ) (r : Fraction) (list : List Entry) (a : ℕ) (x : ℤ) → AreUnrounded r list x
      → IsWithoutUnit (PercentileBetween low high) r list a x
  pub peers : (r : Fraction) (list : List Entry) (a : ℕ) (x : ℤ) → IsWithoutUnit PeerCount r list a x
  -- where the mean and the deviation have no rest either
  pub scores : (r : Fraction) (list : List Entry) (a : ℕ) (x : ℤ) → AreUnrounded r list x
      → IsSpreadExact r (values list) → IsWithoutUnit ZScore r list a x
  -- what a value lies above the mean is of the price's unit
  pub distances : (r : Fraction) (list : List Entry) (a : ℕ) (x : ℤ) → AreUnrounded r list x
      → IsSpreadExact r (values list) → is_missing (cross Demean list a x) ≡ false
      → cross Demean (map (scaled_entry r) list) a (scaled r x) ≡ scaled r (cross Demean list a x)

-- one price is compared with another alike in both units
abbrev pub ScreensHaveNoUnit : Type 0
ScreensHaveNoUnit = (r : Fraction) → IsRatio r → (c : Compare) (x y : ℤ) → Divides r x → Divides r y
    → comparison c (scaled r x) (scaled r y) ≡ comparison c x y

-- a price is held between two others alike in both units
abbrev pub ClipsHaveUnits : Type 0
ClipsHaveUnits = (r : Fraction) → IsRatio r → (low high x y z : ℤ)
    → IsExact r low → IsExact r high → Divides r x
    → pointwise (Clip (scaled r low) (scaled r high)) (scaled r x) y z
    ≡ scaled r (pointwise (Clip low high) x y z)
