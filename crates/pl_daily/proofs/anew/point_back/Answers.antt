use Rattle.std.proofs.Common.{◌≡◌, ◌∙◌, ap, sym, subst, refl, rules, arith, pos, [], ◌∷◌, get_or, FitsSigned, w64}
use Rattle.std.proofs.lemmas.Int.{to_z-of_z}
use Rattle.pl_pipeline.specs.Kind.{Kind}
use Rattle.pl_pointwise.specs.Operands.{AreOperands, IsOperation, operation}
use Rattle.pl_daily.specs.Earlier.{IsSeenGiven}
use Rattle.pl_daily.specs.TermDays.{node_at}
use Rattle.pl_daily.proofs.Renewed.{point_asks, point_given}
use Rattle.pl_daily.proofs.anew.point_back.Goals as goal

pub pointwise-requires-clause-kind : goal.pointwise-requires-clause-kind
pointwise-requires-clause-kind c =
    let t = c.args.term_day.now in
    let v = c.requires.held.0 in
    let held = c.requires.held.2 in
    let asks = point_asks t v c.requires.held.1 c.args.i c.args.after _ _ _ (c.operand_back-first.ensures.value v held) (c.operand_back-second.ensures.value v held) (c.operand_back-third.ensures.value v held)
    c.operand_back-first.ensures.cell c.operand_back-second.ensures.cell c.operand_back-third.ensures.cell c.requires.kind.0 c.requires.kind.1 c.requires.kind.2 in
    subst IsOperation (sym c.kind_of.ensures) asks.0

pub pointwise-requires-clause-operands : goal.pointwise-requires-clause-operands
pointwise-requires-clause-operands c =
    let t = c.args.term_day.now in
    let v = c.requires.held.0 in
    let held = c.requires.held.2 in
    let fa : FitsSigned w64 c.operand_back-first.result = search rules in
    let fb : FitsSigned w64 c.operand_back-second.result = search rules in
    let fc : FitsSigned w64 c.operand_back-third.result = search rules in
    let asks = point_asks t v c.requires.held.1 c.args.i c.args.after _ _ _ (c.operand_back-first.ensures.value v held) (c.operand_back-second.ensures.value v held) (c.operand_back-third.ensures.value v held)
    c.operand_back-first.ensures.cell c.operand_back-second.ensures.cell c.operand_back-third.ensures.cell c.requires.kind.0 c.requires.kind.1 c.requires.kind.2 in
    rw (to_z-of_z w64 _ fa, to_z-of_z w64 _ fb, to_z-of_z w64 _ fc)
    (subst (λ (k : Kind). AreOperands k (c.operand_back-first.result ∷ []) (c.operand_back-second.result ∷ []) (c.operand_back-third.result ∷ []) 1) (sym c.kind_of.ensures) asks.1)

pub returns-clause-value : goal.returns-clause-value
returns-clause-value c =
    let t = c.args.term_day.now in
    let x = c.operand_back-first.result in
    let y = c.operand_back-second.result in
    let z = c.operand_back-third.result in
    let fa : FitsSigned w64 c.operand_back-first.result = search rules in
    let fb : FitsSigned w64 c.operand_back-second.result = search rules in
    let fc : FitsSigned w64 c.operand_back-third.result = search rules in
    let fr : FitsSigned w64 (get_or c.pointwise.new.out 0 (pos 0)) = search rules in
    let is : get_or c.pointwise.new.out 0 (pos 0) ≡ operation (node_at t).kind x y z = c.pointwise.ensures.values 0 (omega arith) ∙ rw (to_z-of_z w64 _ fa, to_z-of_z w64 _ fb, to_z-of_z w64 _ fc) refl ∙ ap (λ (k : Kind). operation k x y z) c.kind_of.ensures in
    λ v day held.
    rw (to_z-of_z w64 _ fr)
    (subst (IsSeenGiven t v c.args.i c.args.after) (sym is)
    (point_given t v day c.args.i c.args.after x y z (c.operand_back-first.ensures.value v held) (c.operand_back-second.ensures.value v held) (c.operand_back-third.ensures.value v held)
    c.operand_back-first.ensures.cell c.operand_back-second.ensures.cell c.operand_back-third.ensures.cell c.requires.kind.0 c.requires.kind.1 c.requires.kind.2))
