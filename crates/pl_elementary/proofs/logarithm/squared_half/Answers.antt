use Rattle.std.proofs.Common.{◌≡◌, ◌*◌, ◌/◌, ◌^◌, arith}
use Rattle.std.proofs.Math.Nat.{mul-div-mul_left}
use Rattle.pl_elementary.proofs.logarithm.squared_half.Goals as goal

pub returns : goal.returns
returns c y h =
    let e : 2 * y * (2 * y) ≡ 4 * (y * y) = omega arith in
    let f : 4 * (y * y) / (4 * 2 ^ 62) ≡ y * y / 2 ^ 62 = mul-div-mul_left (y * y) (2 ^ 62) (omega arith) in
    rw (h, e) f
