use Rattle.std.proofs.Common.{◌≡◌, ◌-ℤ◌, ◌*ℤ◌, ◌+ℤ◌, rules, arith, ap₂, ◌∙◌, FitsSigned, to_z, of_z}
use Rattle.std.specs.Int.{w128}
use Rattle.std.proofs.lemmas.Int.{to_z-of_z}
use Rattle.pl_factors.proofs.Exact.{fits, same, product-is, apart-is, apart-within, about-within}
use Rattle.pl_factors.proofs.deviations.about.Goals as goal

pub times-requires : goal.times-requires
times-requires c =
    let fm : FitsSigned w128 c.args.middle = c.ranges.middle in
    let fk : FitsSigned w128 c.args.count = c.ranges.count in
    record { middle = rw (to_z-of_z w128 _ fm) c.requires.middle; other = rw (to_z-of_z w128 _ fk) (omega arith) }

pub overflow_sub-apart : goal.overflow_sub-apart
overflow_sub-apart c =
    let fs : FitsSigned w128 c.args.sum = c.ranges.sum in
    let f1 : FitsSigned w128 c.times.result = search rules in
    let one = product-is c.args.middle c.args.count c.times.result c.ranges.middle c.ranges.count f1 c.times.ensures.value in
    let d = apart-within c.args.middle c.args.count c.args.sum c.requires.middle c.requires.count c.requires.sum in
    rw (one, to_z-of_z w128 _ fs) (fits _ (omega (arith, d)))

pub times-requires-2 : goal.times-requires-2
times-requires-2 c =
    let fm : FitsSigned w128 c.args.middle = c.ranges.middle in
    let fs : FitsSigned w128 c.args.sum = c.ranges.sum in
    record { middle = rw (to_z-of_z w128 _ fm) c.requires.middle; other = rw (to_z-of_z w128 _ fs) (omega arith) }

pub overflow_sub-result : goal.overflow_sub-result
overflow_sub-result c =
    let fq : FitsSigned w128 c.args.squares = c.ranges.squares in
    let f2 : FitsSigned w128 c.times-2.result = search rules in
    let two = product-is c.args.middle c.args.sum c.times-2.result c.ranges.middle c.ranges.sum f2 c.times-2.ensures.value in
    let d = apart-within c.args.middle c.args.count c.args.sum c.requires.middle c.requires.count c.requires.sum in
    let w = about-within c.args.middle c.args.squares c.args.sum ((c.args.middle *ℤ c.args.count) -ℤ c.args.sum) c.requires.middle c.requires.squares c.requires.sum d in
    rw (to_z-of_z w128 _ fq, two) (fits _ w.0)

pub times-requires-3 : goal.times-requires-3
times-requires-3 c =
    let fm : FitsSigned w128 c.args.middle = c.ranges.middle in
    let fs : FitsSigned w128 c.args.sum = c.ranges.sum in
    let f1 : FitsSigned w128 c.times.result = search rules in
    let one = product-is c.args.middle c.args.count c.times.result c.ranges.middle c.ranges.count f1 c.times.ensures.value in
    let d = apart-within c.args.middle c.args.count c.args.sum c.requires.middle c.requires.count c.requires.sum in
    let apart = apart-is c.args.middle c.args.count c.args.sum c.times.result c.requires.middle c.requires.count c.requires.sum one fs in
    record { middle = rw (to_z-of_z w128 _ fm) c.requires.middle; other = rw apart d }

-- what is left of the squares, and what is added to it
less : (c : goal.After-times-3) → to_z w128 (of_z w128 (to_z w128 (of_z w128 c.args.squares) -ℤ to_z w128 (of_z w128 c.times-2.result))) ≡ c.args.squares -ℤ (c.args.middle *ℤ c.args.sum)
less c =
    let fq : FitsSigned w128 c.args.squares = c.ranges.squares in
    let f2 : FitsSigned w128 c.times-2.result = search rules in
    let two = product-is c.args.middle c.args.sum c.times-2.result c.ranges.middle c.ranges.sum f2 c.times-2.ensures.value in
    let d = apart-within c.args.middle c.args.count c.args.sum c.requires.middle c.requires.count c.requires.sum in
    let w = about-within c.args.middle c.args.squares c.args.sum ((c.args.middle *ℤ c.args.count) -ℤ c.args.sum) c.requires.middle c.requires.squares c.requires.sum d in
    same _ _ (ap₂ (λ a b. a -ℤ b) (to_z-of_z w128 _ fq) two) w.0

more : (c : goal.After-times-3) → to_z w128 (of_z w128 c.times-3.result) ≡ c.args.middle *ℤ ((c.args.middle *ℤ c.args.count) -ℤ c.args.sum)
more c =
    let fm : FitsSigned w128 c.args.middle = c.ranges.middle in
    let fs : FitsSigned w128 c.args.sum = c.ranges.sum in
    let f1 : FitsSigned w128 c.times.result = search rules in
    let f3 : FitsSigned w128 c.times-3.result = search rules in
    let one = product-is c.args.middle c.args.count c.times.result c.ranges.middle c.ranges.count f1 c.times.ensures.value in
    to_z-of_z w128 _ f3 ∙ c.times-3.ensures.value
    ∙ ap₂ (λ a b. a *ℤ b) (to_z-of_z w128 _ fm) (apart-is c.args.middle c.args.count c.args.sum c.times.result c.requires.middle c.requires.count c.requires.sum one fs)

pub overflow_add-result : goal.overflow_add-result
overflow_add-result c =
    let d = apart-within c.args.middle c.args.count c.args.sum c.requires.middle c.requires.count c.requires.sum in
    let w = about-within c.args.middle c.args.squares c.args.sum ((c.args.middle *ℤ c.args.count) -ℤ c.args.sum) c.requires.middle c.requires.squares c.requires.sum d in
    rw (less c, more c) (fits _ w.1)

pub returns : goal.returns
returns c =
    let d = apart-within c.args.middle c.args.count c.args.sum c.requires.middle c.requires.count c.requires.sum in
    let w = about-within c.args.middle c.args.squares c.args.sum ((c.args.middle *ℤ c.args.count) -ℤ c.args.sum) c.requires.middle c.requires.squares c.requires.sum d in
    same _ _ (ap₂ (λ a b. a +ℤ b) (less c) (more c)) w.1
