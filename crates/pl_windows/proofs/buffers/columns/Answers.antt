use Rattle.std.proofs.Common.{◌∙◌, ◌++◌, ◌∷◌, [], List, ℕ, ap, sym}
use Rattle.pl_spec.proofs.Ranges.{range-next}
use Rattle.pl_windows.proofs.buffers.columns.Goals as goal

pub loop-col-preserved : goal.loop-col-preserved
loop-col-preserved c =
    c.in_ok-push.ensures.items ∙ ap (λ (l : List ℕ). l ++ c.loop-col.col ∷ []) c.loop-col.invariant ∙ sym (range-next c.loop-col.col)
