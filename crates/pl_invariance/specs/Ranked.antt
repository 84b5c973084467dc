-- Ranks of prices, which have no unit.
use Rattle.std.specs.Prelude.{◌≡◌, ◌<◌, ℕ, false, ℤ, List, map}
use Rattle.pl_spec.specs.Each.{Each}
use Rattle.pl_spec.specs.Rounding.{Fraction, is_missing, scaled}
use Rattle.pl_pipeline.specs.declared.RankMethod.{RankMethod}
use Rattle.pl_pipeline.specs.declared.RankOrder.{RankOrder}
use Rattle.pl_pipeline.specs.Kind.{CrossKind}
use Rattle.pl_pipeline.specs.Kind.CrossKind.{Rank, Top, Bottom}
use Rattle.pl_pipeline.specs.Cross.{Entry, cross}
use Rattle.pl_invariance.specs.Exact.{Divides}

-- a present cell that the ratio does not round
abbrev pub IsExact : Fraction → ℤ → Type 0
IsExact r x = (is_missing x ≡ false) × Divides r x

abbrev pub scaled_entry : Fraction → Entry → Entry
scaled_entry r e = (e.0, scaled r e.1)

-- Where the ratio, which is above 0, rounds no value of the cross-section, it gives the same in both units.
abbrev pub HasNoUnit : CrossKind → Type 0
HasNoUnit kind = (r : Fraction) → 0 < r.num → (list : List Entry) (a : ℕ) (x : ℤ)
    → Each (λ e. IsExact r e.1) list → IsExact r x
    → cross kind (map (scaled_entry r) list) a (scaled r x) ≡ cross kind list a x

pub record RanksHaveNoUnit : Type 0 where
  pub ranks : (method : RankMethod) (order : RankOrder) → HasNoUnit (Rank method order)
  pub top : (n : ℕ) → HasNoUnit (Top n)
  pub bottom : (n : ℕ) → HasNoUnit (Bottom n)
