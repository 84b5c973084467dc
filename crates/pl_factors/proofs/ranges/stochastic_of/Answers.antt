use Rattle.std.proofs.Common.{rules, arith, ap, ap₂, ◌∙◌, pos, ◌-ℤ◌, ◌*ℤ◌, FitsSigned, w64, to_z, of_z}
use Rattle.std.specs.Int.{w128}
use Rattle.std.proofs.lemmas.Int.{to_z-of_z}
use Rattle.pl_spec.specs.Rounding.{quot}
use Rattle.pl_lanes.proofs.Cells.{is_within}
use Rattle.pl_factors.proofs.Casts.{difference-wide, scaled-fits, apart}
use Rattle.pl_fixed.proofs.CellLemmas.{is_missing-not}
use Rattle.pl_factors.proofs.ranges.stochastic_of.Goals as goal

pub returns-clause-value : goal.returns-clause-value
returns-clause-value c =
    let x = c.args.close in
    let l = c.args.low in
    let h = c.args.high in
    let fx : FitsSigned w64 c.args.close = c.ranges.close in
    let fl : FitsSigned w64 c.args.low = c.ranges.low in
    let fh : FitsSigned w64 c.args.high = c.ranges.high in
    let fr : FitsSigned w64 c.quot.result = search rules in
    let tx = is_missing-not x fx c.if-close-eq-MISSING.false in
    let tl = is_missing-not l fl c.if-low-eq-MISSING.false in
    let th = is_missing-not h fh c.if-high-eq-MISSING.false in
    let small = apart l x (is_within l c.requires.low tl) (is_within x c.requires.close tx) in
    let s = scaled-fits (x -ℤ l) (pos 100000000) small (omega arith) in
    rw (tx, tl, th) (to_z-of_z w64 _ fr ∙ c.quot.ensures.value ∙ ap₂ quot
    (ap (λ d. to_z w128 (of_z w128 (d *ℤ pos 100000000))) (difference-wide l x fl fx) ∙ to_z-of_z w128 _ s.0) (difference-wide l h fl fh))

pub returns-clause-cell : goal.returns-clause-cell
returns-clause-cell c =
    let fr : FitsSigned w64 c.quot.result = search rules in
    rw (to_z-of_z w64 _ fr) c.quot.ensures.cell

pub overflow_mul-close : goal.overflow_mul-close
overflow_mul-close c =
    let tx = is_missing-not c.args.close c.ranges.close c.if-close-eq-MISSING.false in
    let tl = is_missing-not c.args.low c.ranges.low c.if-low-eq-MISSING.false in
    let small = apart c.args.low c.args.close (is_within _ c.requires.low tl) (is_within _ c.requires.close tx) in
    rw (difference-wide c.args.low c.args.close c.ranges.low c.ranges.close) (scaled-fits (c.args.close -ℤ c.args.low) (pos 100000000) small (omega arith)).0

pub quot-requires-clause-dividend : goal.quot-requires-clause-dividend
quot-requires-clause-dividend c =
    let tx = is_missing-not c.args.close c.ranges.close c.if-close-eq-MISSING.false in
    let tl = is_missing-not c.args.low c.ranges.low c.if-low-eq-MISSING.false in
    let small = apart c.args.low c.args.close (is_within _ c.requires.low tl) (is_within _ c.requires.close tx) in
    let s = scaled-fits (c.args.close -ℤ c.args.low) (pos 100000000) small (omega arith) in
    rw (difference-wide c.args.low c.args.close c.ranges.low c.ranges.close, to_z-of_z w128 _ s.0) s.1
