use Rattle.std.proofs.Common.{◌∙◌, ap, map, subst, sym}
use Rattle.std.proofs.lemmas.List.Sorted.{All-permutation}
use Rattle.std.proofs.lemmas.Result.{IfOk-weaker}
use Rattle.pl_adjust.specs.Columns.{IsByPlace}
use Rattle.pl_adjust.specs.Rows.{row_of}
use Rattle.pl_adjust.proofs.Made.{Puts}
use Rattle.pl_adjust.proofs.Adjustments.of_rows.Goals as goal

pub of_sorted-requires-clause-sorted : goal.of_sorted-requires-clause-sorted
of_sorted-requires-clause-sorted c = rw c.deref.ensures.value c.in_ok-sorted.ensures.sorted

pub of_sorted-requires-clause-cells : goal.of_sorted-requires-clause-cells
of_sorted-requires-clause-cells c =
    rw c.deref.ensures.value (All-permutation Puts _ _ c.in_ok-sorted.ensures.same c.requires)

pub returns : goal.returns
returns c =
    let same = ap (map row_of) c.deref.ensures.value in
    let rows = map row_of c.args.rows.items in
    IfOk-weaker c.of_sorted.result _ _ (λ m e. subst (IsByPlace rows) (sym (e ∙ same)) c.in_ok-sorted.ensures)
    c.of_sorted.ensures
