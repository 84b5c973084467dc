use Rattle.std.proofs.Common.{◌≡◌, ◌<◌, ◌^◌, pos, ◌-ℤ◌, sum_by, rules, arith, ap, refl, ◌∙◌, FitsSigned, to_z, of_z}
use Rattle.std.specs.Int.{w128}
use Rattle.std.proofs.lemmas.Int.{to_z-of_z, to_z_pos}
use Rattle.pl_spec.specs.Cells.{present_values, total, count}
use Rattle.pl_pipeline.specs.Formula.{products, square}
use Rattle.pl_lanes.proofs.Cells.{few-present, total-few}
use Rattle.pl_factors.proofs.Squares.{squares-about}
use Rattle.pl_factors.proofs.deviations.squares_about.Goals as goal

pub about-requires-clause-sum : goal.about-requires-clause-sum
about-requires-clause-sum c =
    let xs = c.args.a.now in
    let fs : FitsSigned w128 c.args.sum = c.ranges.sum in
    rw (to_z-of_z w128 _ fs, c.requires.sum) (omega (arith, total-few xs c.requires.cells, few-present xs, c.requires.few))

pub about-requires-clause-count : goal.about-requires-clause-count
about-requires-clause-count c =
    let few = few-present c.args.a.now in
    let e : to_z w128 c.args.number ≡ pos c.args.number = to_z_pos w128 _ (omega arith) in
    rw e (omega (arith, c.requires.number, few, c.requires.few))

-- the sum of the squares, as it is computed
squares : (c : goal.After-about) → c.about.result ≡ pos (sum_by (λ x. square (x -ℤ c.args.middle)) (present_values c.args.a.now))
squares c =
    let xs = c.args.a.now in
    let few = few-present xs in
    let fm : FitsSigned w128 c.args.middle = c.ranges.middle in
    let fs : FitsSigned w128 c.args.sum = c.ranges.sum in
    let fq : FitsSigned w128 c.args.squares = c.ranges.squares in
    let m = to_z-of_z w128 c.args.middle fm in
    let q : to_z w128 (of_z w128 c.args.squares) ≡ total (products xs xs) = to_z-of_z w128 _ fq ∙ c.requires.squares in
    let s : to_z w128 (of_z w128 c.args.sum) ≡ total (present_values xs) = to_z-of_z w128 _ fs ∙ c.requires.sum in
    let e : to_z w128 c.args.number ≡ pos (count xs) = to_z_pos w128 _ (omega (arith, c.requires.number, few, c.requires.few)) ∙ ap pos c.requires.number in
    c.about.ensures ∙ rw (m, q, s, e) (squares-about c.args.middle xs)

pub overflow_cast-result : goal.overflow_cast-result
overflow_cast-result c =
    let fr : FitsSigned w128 c.about.result = search rules in
    let few : sum_by (λ x. square (x -ℤ c.args.middle)) (present_values c.args.a.now) < 2 ^ 127 = (rw (squares c) at fr).sfits in
    rw (to_z-of_z w128 _ fr, squares c) (search (rules, few))

pub returns : goal.returns
returns c =
    let fr : FitsSigned w128 c.about.result = search rules in
    rw (to_z-of_z w128 _ fr, squares c) refl
