use Rattle.std.proofs.Common.{arith, w64, FitsSigned, ◌-ℤ◌}
use Rattle.std.proofs.lemmas.Int.{fits_signed_from_abs, to_z-of_z}
use Rattle.pl_lanes.proofs.Cells.{is_within}
use Rattle.pl_factors.proofs.Casts.{both_there, apart}
use Rattle.pl_factors.proofs.Kept.{kept}
use Rattle.pl_factors.proofs.ranges.rise.Goals as goal

pub overflow_sub-result : goal.overflow_sub-result
overflow_sub-result c =
    let there = both_there c.args.from c.args.to c.ranges.from c.ranges.to c.if-to-eq-MISSING.false in
    let small = apart c.args.from c.args.to (is_within _ c.requires.from there.0) (is_within _ c.requires.to there.1) in
    rw (kept c.args.from c.requires.from, kept c.args.to c.requires.to) (fits_signed_from_abs w64 _ (omega (arith, small)))

pub returns-else-to-eq-MISSING : goal.returns-else-to-eq-MISSING
returns-else-to-eq-MISSING c =
    let there = both_there c.args.from c.args.to c.ranges.from c.ranges.to c.if-to-eq-MISSING.false in
    let small = apart c.args.from c.args.to (is_within _ c.requires.from there.0) (is_within _ c.requires.to there.1) in
    let fits : FitsSigned w64 (c.args.to -ℤ c.args.from) = fits_signed_from_abs w64 _ (omega (arith, small)) in
    rw (kept c.args.from c.requires.from, kept c.args.to c.requires.to, there.0, there.1) (to_z-of_z w64 _ fits)
