use Rattle.std.proofs.Common.{◌≡◌, ◌<◌, ◌∙◌, sym, suc, length, arith, Some, None}
use Rattle.pl_derivation.proofs.Numbers.{missing_said, minus_said, one_answer, negated}
use Rattle.pl_derivation.proofs.number.negative_of.Goals as goal

pub returns-then-is_empty-clause-only : goal.returns-then-is_empty-clause-only
returns-then-is_empty-clause-only c = λ x h e. missing_said c.args.digits.now x (grind arith) h e

pub returns-in-None-clause-only : goal.returns-in-None-clause-only
returns-in-None-clause-only c = λ x h e.
    let some : 0 < length c.args.digits.now = grind arith in
    let said = minus_said c.args.digits.now x some h e in
    absurd (let bad : None ≡ Some (suc said.0) = sym c.in-None.is ∙ c.read_whole.ensures.only (suc said.0) said.1 said.3 in cc)

pub returns-then-size-eq0-clause-only : goal.returns-then-size-eq0-clause-only
returns-then-size-eq0-clause-only c = λ x h e.
    let some : 0 < length c.args.digits.now = grind arith in
    let said = minus_said c.args.digits.now x some h e in
    let same : c.in-Some.size ≡ suc said.0 = one_answer c.read_whole.result c.in-Some.size (suc said.0) c.in-Some.is (c.read_whole.ensures.only (suc said.0) said.1 said.3) in
    absurd (omega arith)

pub returns-else-size-eq0-clause-only : goal.returns-else-size-eq0-clause-only
returns-else-size-eq0-clause-only c = λ x h e.
    let some : 0 < length c.args.digits.now = grind arith in
    let said = minus_said c.args.digits.now x some h e in
    let same : c.in-Some.size ≡ suc said.0 = one_answer c.read_whole.result c.in-Some.size (suc said.0) c.in-Some.is (c.read_whole.ensures.only (suc said.0) said.1 said.3) in
    negated c.in-Some.size said.0 x same said.1 said.2
