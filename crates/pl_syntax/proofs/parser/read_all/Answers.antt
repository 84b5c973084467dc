use Rattle.std.proofs.Common.{arith, refl, sym, ap, subst, ◌∙◌, Err}
use Rattle.std.proofs.lemmas.Result.{err_from_is_err_and}
use Rattle.pl_syntax.specs.Parsing.{Outcome}
use Rattle.pl_syntax.proofs.Verdicts.{on_token, at_step_fault, at_bad, at_end, end_sound, end_known, out_of_memory}
use Rattle.pl_syntax.proofs.parser.read_all.Goals as goal

pub loop-place-init : goal.loop-place-init
loop-place-init c = record {
  goes = λ ts tail x. record { tokens = ts; reads = x; same = refl; told = refl };
  room = record { line = omega arith; col = omega arith };
  few = omega arith;
}

pub loop-place-preserved : goal.loop-place-preserved
loop-place-preserved c =
    let b = rw c.in-Ok-Token.field-0-is at c.in-Ok-Token.ensures in
    let h = c.in_ok-progress-in-Ok-Token.ensures in
    record { goes = on_token c.loop-place.invariant.goes b h.0 h.1 h.2; room = b.room; few = c.in_ok-progress-in-Ok-Token.progress.few }

pub returns-in-Err : goal.returns-in-Err
returns-in-Err c = out_of_memory c.args.bytes.now

pub returns-in_err-progress-in-Ok-Token : goal.returns-in_err-progress-in-Ok-Token
returns-in_err-progress-in-Ok-Token c =
    let r = err_from_is_err_and c.from_residual.result c.from_residual.ensures.1 in
    let o = at_step_fault _ _ c.loop-place.invariant.goes (rw c.in-Ok-Token.field-0-is at c.in-Ok-Token.ensures) c.in_err-progress-in-Ok-Token.ensures in
    subst (λ z. Outcome c.args.bytes.now z) (sym (r.1 ∙ ap (λ e. Err e) r.2)) o

pub returns-in-Ok-Bad : goal.returns-in-Ok-Bad
returns-in-Ok-Bad c = at_bad c.loop-place.invariant.goes (rw c.in-Ok-Bad.field-0-is at c.in-Ok-Bad.ensures)

pub returns-in-Ok-End : goal.returns-in-Ok-End
returns-in-Ok-End c = at_end c.loop-place.invariant.goes (rw c.in-Ok-End.field-0-is at c.in-Ok-End.ensures) c.finish.ensures.ends c.finish.ensures.version

pub finish-requires-clause-sound : goal.finish-requires-clause-sound
finish-requires-clause-sound c = end_sound c.loop-place.invariant.goes (rw c.in-Ok-End.field-0-is at c.in-Ok-End.ensures)

pub finish-requires-clause-known : goal.finish-requires-clause-known
finish-requires-clause-known c = end_known c.loop-place.invariant.goes (rw c.in-Ok-End.field-0-is at c.in-Ok-End.ensures)
