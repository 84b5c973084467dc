use Rattle.std.proofs.Common.{◌*ℤ◌, FitsSigned, w64, to_z, of_z, rules, ap, ◌-◌}
use Rattle.std.proofs.lemmas.Int.{to_z-of_z}
use Rattle.pl_pipeline.specs.Formula.{PairSums}
use Rattle.pl_regression.proofs.Adding.{removed_none, removed_is, IsWithoutPair, one_gone, both_there, minus_is}
use Rattle.pl_regression.proofs.pairs.PairSums.remove.Goals as goal

pub returns-then-x-eq-MISSING : goal.returns-then-x-eq-MISSING
returns-then-x-eq-MISSING c = removed_none c.args.self.now c.args.x c.args.y (one_gone c.args.x c.args.y c.ranges.x c.ranges.y c.then-x-eq-MISSING.either)

pub returns : goal.returns
returns c =
    let fx : FitsSigned w64 c.args.x = c.ranges.x in
    let fy : FitsSigned w64 c.args.y = c.ranges.y in
    let there = both_there c.args.x c.args.y fx fy (c.if-x-eq-MISSING.false, c.if-y-eq-MISSING.false) in
    let view = c.self.view_is in
    let h : IsWithoutPair c.args.self.now c.args.x c.args.y _ = record {
      there_x = there.0;
      there_y = there.1;
      number = ap (λ (s : PairSums). s.number - 1) view;
      sx = minus_is c.self.inside.x c.args.self.now.x (to_z w64 (of_z w64 c.args.x)) c.args.x c.minus-self-inside.result (search rules) (search rules) (search rules) (ap (λ (s : PairSums). s.x) view) (to_z-of_z w64 _ fx) c.minus-self-inside.ensures;
      sy = minus_is c.self.inside.y c.args.self.now.y (to_z w64 (of_z w64 c.args.y)) c.args.y c.minus-self-inside-2.result (search rules) (search rules) (search rules) (ap (λ (s : PairSums). s.y) view) (to_z-of_z w64 _ fy) c.minus-self-inside-2.ensures;
      sxx = minus_is c.self.inside.xx c.args.self.now.xx c.product.result (c.args.x *ℤ c.args.x) c.minus-self-inside-3.result (search rules) (search rules) (search rules) (ap (λ (s : PairSums). s.xx) view) (simp to_z-of_z at c.product.ensures.value) c.minus-self-inside-3.ensures;
      syy = minus_is c.self.inside.yy c.args.self.now.yy c.product-2.result (c.args.y *ℤ c.args.y) c.minus-self-inside-4.result (search rules) (search rules) (search rules) (ap (λ (s : PairSums). s.yy) view) (simp to_z-of_z at c.product-2.ensures.value) c.minus-self-inside-4.ensures;
      sxy = minus_is c.self.inside.xy c.args.self.now.xy c.product-3.result (c.args.x *ℤ c.args.y) c.minus-self-inside-5.result (search rules) (search rules) (search rules) (ap (λ (s : PairSums). s.xy) view) (simp to_z-of_z at c.product-3.ensures.value) c.minus-self-inside-5.ensures;
    } in
    removed_is c.args.self.now c.args.x c.args.y _ h
