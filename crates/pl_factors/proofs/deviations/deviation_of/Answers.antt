use Rattle.std.proofs.Common.{◌≡◌, ◌≤◌, ◌<◌, ◌/◌, ℕ, ℤ, List, rules, arith, ap, ap₂, ◌∙◌, pos, ◌-ℤ◌, unsigned_abs, FitsSigned, to_z, of_z, w64, length, sum_by, ne_eqb, nat_eq, false}
use Rattle.std.specs.Int.{w128}
use Rattle.std.proofs.lemmas.Int.{to_z-of_z, to_z_pos}
use Rattle.pl_spec.specs.Limits.{most_window}
use Rattle.pl_spec.specs.Rounding.{div_round, isqrt, to_cell}
use Rattle.pl_spec.specs.Cells.{present_values, total, count}
use Rattle.pl_pipeline.specs.Formula.{square, spread}
use Rattle.pl_lanes.proofs.Cells.{few-present, total-few}
use Rattle.pl_fixed.proofs.RoundingLemmas.{div_round-few}
use Rattle.pl_factors.proofs.Kept.{kept_cell}
use Rattle.pl_factors.proofs.deviations.deviation_of.Goals as goal

-- the middle that the code computes
middle : (r s : ℤ) (n : ℕ) (xs : List ℤ) → FitsSigned w128 s → length xs ≤ most_window → s ≡ total (present_values xs) → n ≡ count xs
    → r ≡ div_round (to_z w128 (of_z w128 s)) (unsigned_abs (to_z w128 n)) → r ≡ div_round (total (present_values xs)) (count xs)
middle r s n xs fs few sum number is =
    let e : to_z w128 n ≡ pos (count xs) = to_z_pos w128 n (omega (arith, number, few-present xs, few)) ∙ ap pos number in
    is ∙ ap₂ (λ t k. div_round t (unsigned_abs k)) (to_z-of_z w128 s fs ∙ sum) e

pub squares_about-spread-requires-clause-middle : goal.squares_about-spread-requires-clause-middle
squares_about-spread-requires-clause-middle c =
    let xs = c.args.a.now in
    let fd : FitsSigned w128 c.div_round-middle.result = search rules in
    let mid : c.div_round-middle.result ≡ div_round (total (present_values xs)) (count xs)
    = middle _ _ _ xs c.ranges.sum c.requires.few c.requires.sum c.requires.number c.div_round-middle.ensures.value in
    let none = c.if-number-eq0.false in
    let some : 0 < count xs = omega (arith, c.requires.number) in
    rw (to_z-of_z w128 _ fd, mid) (div_round-few (total (present_values xs)) (count xs) some (total-few xs c.requires.cells))

pub returns-clause-value : goal.returns-clause-value
returns-clause-value c =
    let xs = c.args.a.now in
    let ps = present_values xs in
    let fd : FitsSigned w128 c.div_round-middle.result = search rules in
    let fr : FitsSigned w64 c.to_cell.result = search rules in
    let m = div_round (total ps) (length ps) in
    let mid : c.div_round-middle.result ≡ m = middle _ _ _ xs c.ranges.sum c.requires.few c.requires.sum c.requires.number c.div_round-middle.ensures.value in
    let squares : c.squares_about-spread.result ≡ sum_by (λ x. square (x -ℤ m)) ps = c.squares_about-spread.ensures ∙ ap (λ k. sum_by (λ x. square (x -ℤ k)) ps) (to_z-of_z w128 _ fd ∙ mid) in
    let root : c.isqrt.result ≡ spread ps = c.isqrt.ensures.value ∙ ap₂ (λ v n. isqrt (v / n)) squares c.requires.number in
    let wide : to_z w128 c.isqrt.result ≡ pos c.isqrt.result = to_z_pos w128 _ (omega arith) in
    let none = c.if-number-eq0.false in
    let some : nat_eq (count xs) 0 ≡ false = ne_eqb _ _ (λ z. none (c.requires.number ∙ z)) in
    rw some (to_z-of_z w64 _ fr ∙ c.to_cell.ensures.value ∙ ap to_cell (wide ∙ ap pos root))

pub returns-clause-cell : goal.returns-clause-cell
returns-clause-cell c = kept_cell _ c.to_cell.ensures.cell
