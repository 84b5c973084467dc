use Rattle.std.proofs.Common.{◌≡◌, rules, arith, get_or, pos, w64, FitsSigned}
use Rattle.std.proofs.lemmas.Int.{to_z-of_z}
use Rattle.pl_terms.specs.Kinds.{kind_of}
use Rattle.pl_values.specs.Families.{code_flag}
use Rattle.pl_values.proofs.Written.{one_given}
use Rattle.pl_values.proofs.labels.label_test_values.Goals as goal

pub loop-i-preserved : goal.loop-i-preserved
loop-i-preserved c =
    let x : FitsSigned w64 (get_or c.args.codes.now c.loop-i.i (pos 0)) = search rules in
    let v : FitsSigned w64 c.label_test_value.result = search rules in
    let value = simp to_z-of_z at c.label_test_value.ensures in
    rw (to_z-of_z w64 _ v) (one_given (λ k y. y ≡ code_flag c.args.labels.now.texts (kind_of c.args.kind.now) (get_or c.args.codes.now k (pos 0))) c.loop-i.i c.loop-i.out c.label_test_value.result
    c.loop-i.invariant (omega (arith, c.loop-i-test.true)) value)

pub label_test_value-requires-clause-code : goal.label_test_value-requires-clause-code
label_test_value-requires-clause-code c =
    let x : FitsSigned w64 (get_or c.args.codes.now c.loop-i.i (pos 0)) = search rules in
    rw (to_z-of_z w64 _ x) (c.requires.codes c.loop-i.i (omega (arith, c.loop-i-test.true, c.loop-i.auto.out, c.requires.many)))
