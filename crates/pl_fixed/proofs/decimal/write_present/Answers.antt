use Rattle.std.proofs.Common.{arith, FitsSigned, w64}
use Rattle.std.proofs.lemmas.Int.{to_z-of_z}
use Rattle.pl_fixed.proofs.WritingLemmas.{length-front-le}
use Rattle.pl_fixed.proofs.decimal.write_present.Goals as goal

pub put_decimal-whole_end-requires : goal.put_decimal-whole_end-requires
put_decimal-whole_end-requires c =
    let f : FitsSigned w64 c.args.cell = c.ranges.cell in
    let front = length-front-le c.args.cell _ (simp to_z-of_z at c.unsigned_abs-magnitude.ensures.value) c.requires.small in
    let sign = simp to_z-of_z at c.put_sign-sign_end.ensures.end in omega arith

pub put-point_end-requires : goal.put-point_end-requires
put-point_end-requires c =
    let f : FitsSigned w64 c.args.cell = c.ranges.cell in
    let front = length-front-le c.args.cell _ (simp to_z-of_z at c.unsigned_abs-magnitude.ensures.value) c.requires.small in
    let sign = simp to_z-of_z at c.put_sign-sign_end.ensures.end in
    omega (arith, c.put_decimal-whole_end.ensures.end)

pub put_six-requires-clause-room : goal.put_six-requires-clause-room
put_six-requires-clause-room c =
    let f : FitsSigned w64 c.args.cell = c.ranges.cell in
    let front = length-front-le c.args.cell _ (simp to_z-of_z at c.unsigned_abs-magnitude.ensures.value) c.requires.small in
    let sign = simp to_z-of_z at c.put_sign-sign_end.ensures.end in
    omega (arith, c.put_decimal-whole_end.ensures.end, c.put-point_end.ensures.end)

pub returns-clause-within : goal.returns-clause-within
returns-clause-within c =
    let f : FitsSigned w64 c.args.cell = c.ranges.cell in
    let front = length-front-le c.args.cell _ (simp to_z-of_z at c.unsigned_abs-magnitude.ensures.value) c.requires.small in
    let sign = simp to_z-of_z at c.put_sign-sign_end.ensures.end in
    omega (arith, c.put_decimal-whole_end.ensures.end, c.put-point_end.ensures.end, c.put_six.ensures.end)
