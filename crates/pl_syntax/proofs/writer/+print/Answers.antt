use Rattle.std.proofs.Common.{◌∙◌}
use Rattle.std.specs.Prelude.{codes}
use Rattle.std.proofs.lemmas.Result.{on_ok_weaker}
use Rattle.pl_syntax.specs.Plain.{plain, args_tree}
use Rattle.pl_syntax.specs.Canonical.{args_text}
use Rattle.std.proofs.Common.{◌++◌}
use Rattle.pl_syntax.proofs.Arguments.{more_text, begun_text, ended_text}
use Rattle.pl_syntax.proofs.Operands.{binary_written, method_written}
use Rattle.pl_syntax.proofs.writer.+print.Goals as goal

pub put_args-loop-arg-init : goal.put_args-loop-arg-init
put_args-loop-arg-init t c = begun_text c.args.list.now c.deref-arg-items.result.now c.args.out.now.items c.put.new.out.items c.deref-arg-items.ensures.value c.in_ok-put.ensures

pub put_args-loop-arg-preserved : goal.put_args-loop-arg-preserved
put_args-loop-arg-preserved t c =
    more_text c.loop-arg.first c.deref-arg-items.result.now c.loop-arg.arg-index c.arg-item.result c.loop-arg.out.items c.separate.new.out.items c.put_name.new.out.items c.put_expr.new.out.items (codes ")") (c.args.out.now.items ++ args_text (args_tree c.args.list.now))
    c.loop-arg-test.true c.arg-item.is c.in_ok-separate.ensures c.in_ok-put_name.ensures c.in_ok-put_expr.ensures c.loop-arg.invariant

pub put_args-returns : goal.put_args-returns
put_args-returns t c =
    on_ok_weaker c.put-2.result (λ e. e ∙ ended_text c.loop-arg.first c.deref-arg-items.result.now c.loop-arg.arg-index c.loop-arg.out.items (codes ")") (c.args.out.now.items ++ args_text (args_tree c.args.list.now)) c.loop-arg-test.false c.loop-arg.invariant) c.put-2.ensures

pub put_expr-returns-in_ok-put-in-Binary : goal.put_expr-returns-in_ok-put-in-Binary
put_expr-returns-in_ok-put-in-Binary t c =
    let b = c.in-Binary in
    rw b.is
    (on_ok_weaker c.put_placed-in-Binary-2.result (λ e. binary_written b.sign c.args.expr.now.place (plain b.left.value) (plain b.right.value) c.left_level_of.result c.right_level_of.result c.binary_bytes.result.now
    c.args.out.now.items c.put_placed-in-Binary.new.out.items c.put-in-Binary.new.out.items c.put_placed-in-Binary-2.new.out.items
    c.left_level_of.ensures c.right_level_of.ensures c.binary_bytes.ensures (rw c.deref-in-Binary.ensures at c.in_ok-put_placed-in-Binary.ensures) c.in_ok-put-in-Binary.ensures e) (rw c.deref-in-Binary-2.ensures at c.put_placed-in-Binary-2.ensures))

pub put_expr-returns-in-Some : goal.put_expr-returns-in-Some
put_expr-returns-in-Some t c =
    let m = c.in-Member in
    rw (m.is, c.in-Some.is)
    (on_ok_weaker c.put_args-in-Some.result (λ e. method_written c.args.expr.now.place (plain m.object.value) m.name (args_tree c.in-Some.args)
    c.args.out.now.items c.put_placed-in-Member.new.out.items c.put_dotted.new.out.items c.put_args-in-Some.new.out.items
    (rw c.deref-in-Member.ensures at c.in_ok-put_placed-in-Member.ensures) (rw c.bytes-in-Member.ensures at c.in_ok-put_dotted-in-Member.ensures) e) c.put_args-in-Some.ensures)
