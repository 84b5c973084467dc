use Rattle.std.proofs.Common.{◌≡◌, ◌++◌, ◌∙◌, ap, sym, length, take, drop}
use Rattle.std.proofs.Math.Seq.{take-append_seam}
use Rattle.std.proofs.lemmas.Result.{IfOk-from_err}
use Rattle.pl_planner.proofs.uses.gather.Goals as goal

pub returns-in_err-uses : goal.returns-in_err-uses
returns-in_err-uses c = record { uses = IfOk-from_err _ _ c.from_residual.ensures.0; extras = IfOk-from_err _ _ c.from_residual.ensures.0 }

pub returns : goal.returns
returns c =
    let new = c.ask_down.new.uses in
    let rest = drop (length new) c.in_ok-uses.uses.items in
    let long : c.in_ok-uses.uses.len ≡ length new = sym c.deref_mut.ensures.len ∙ sym c.ask_down.auto.uses in
    let back = ap (λ n. take n (new ++ rest)) long ∙ take-append_seam new rest in
    record { uses = rw back c.ask_down.ensures.uses; extras = rw back c.ask_down.ensures.extras }
