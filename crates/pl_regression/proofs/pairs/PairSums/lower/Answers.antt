use Rattle.std.proofs.Common.{◌≡◌, ◌∙◌, ℤ, pos, ◌+ℤ◌, ◌-ℤ◌, rules, arith, ap, ap₂, FitsSigned, to_z}
use Rattle.std.specs.Int.{w128}
use Rattle.std.proofs.lemmas.Int.{ints, to_z-of_z, to_z_pos}
use Rattle.pl_pipeline.specs.Formula.{PairSums}
use Rattle.pl_regression.proofs.Placing.{IsLowered, lowered_is}
use Rattle.pl_regression.proofs.pairs.PairSums.lower.Goals as goal

pub returns : goal.returns
returns c =
    let view = c.self.view_is in
    let number : c.self.inside.number ≡ c.args.self.now.number = ap (λ (s : PairSums). s.number) view in
    let x = ap (λ (s : PairSums). s.x) view in
    let y = ap (λ (s : PairSums). s.y) view in
    let xx = ap (λ (s : PairSums). s.xx) view in
    let xy = ap (λ (s : PairSums). s.xy) view in
    let n : to_z w128 c.self.inside.number ≡ pos c.self.inside.number = to_z_pos w128 _ (omega (arith, number, c.requires.number)) in
    let fx : FitsSigned w128 c.self.inside.x = search rules in
    let fy : FitsSigned w128 c.self.inside.y = search rules in
    let fxx : FitsSigned w128 c.self.inside.xx = search rules in
    let fxy : FitsSigned w128 c.self.inside.xy = search rules in
    let f1 : FitsSigned w128 c.minus-once.result = search rules in
    let f2 : FitsSigned w128 c.minus-twice.result = search rules in
    let f3 : FitsSigned w128 c.plus-self-inside.result = search rules in
    let f4 : FitsSigned w128 c.minus-self-inside.result = search rules in
    let f5 : FitsSigned w128 c.minus-self-inside-2.result = search rules in
    let once = simp to_z-of_z at c.minus-once.ensures in
    let twice = simp to_z-of_z at c.minus-twice.ensures in
    let plus = simp (to_z-of_z, n) at c.plus-self-inside.ensures in
    let mixed = simp to_z-of_z at c.minus-self-inside.ensures in
    let less = simp (to_z-of_z, n) at c.minus-self-inside-2.ensures in
    let h : IsLowered c.args.self.now _ = record {
      number = number;
      sx = to_z-of_z w128 _ f5 ∙ omega (arith, ints, less, x, number);
      sy = y;
      sxx = to_z-of_z w128 _ f3 ∙ plus
          ∙ ap₂ (λ (a b : ℤ). a +ℤ b) (twice ∙ ap₂ (λ (a b : ℤ). a -ℤ b) (once ∙ ap₂ (λ (a b : ℤ). a -ℤ b) xx x) x) (ap pos number);
      syy = ap (λ (s : PairSums). s.yy) view;
      sxy = to_z-of_z w128 _ f4 ∙ omega (arith, ints, mixed, xy, y);
    } in
    lowered_is c.args.self.now _ h
