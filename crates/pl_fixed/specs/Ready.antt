-- A ratio that is made ready to act on many cells.
use Rattle.std.specs.Prelude.{◌≡◌, ◌*◌, ◌≤◌}
use Rattle.pl_fixed.specs.Ratios.{IsRatio}
use Rattle.pl_fixed.specs.declared.ready.ReadyRatio.TheInside.{Inside}

-- it has the ratio's parts, and the product of its greatest size and the numerator is far below 2 ^ 63
pub record IsReadyRatio (r : Inside) : Type 0 where
  pub num : r.num ≡ r.ratio.num
  pub den : r.den ≡ r.ratio.den
  pub ratio : IsRatio r.ratio
  pub most : r.most * r.num ≤ 9000000000000000000
