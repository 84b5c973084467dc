-- What causes a status, and what is left of parts that are not used.
use Rattle.std.proofs.Common.{◌≡◌, ℕ, Bool, Option, Result, Ok, Err, IfErr, refl, arith}
use Rattle.pl_outside.specs.Left.{Leaves, LeavesSink, IsUntouched}
use Rattle.pl_load.specs.declared.fault.Fault.{Fault}
use Rattle.pl_load.specs.declared.fault.Fault.TheVariants.{Usage, Unread, Unloaded, Unwritten}
use Rattle.pl_load.specs.Faults.{status_of, judged_status}
use Rattle.pl_cli.specs.declared.commands.Stats.{Stats}
use Rattle.pl_cli.specs.Commands.{IsCaused, fault_of}

pub record IsCausedBy (usage shelf keeper out kept : Type 0) (status : ℕ) : Type 0 where
  pub refused : status ≡ 2 → usage
  pub unread : status ≡ 7 → shelf
  pub unloaded : status ≡ 8 → keeper
  pub unwritten : status ≡ 9 → out
  pub same : ¬ (status ≡ 0) → ¬ (status ≡ 9) → kept

module _ (usage shelf keeper out kept : Type 0) where
  refused : (f : Fault) → IsCaused usage shelf keeper out kept f → status_of f ≡ 2 → usage
  refused Usage h e = h.1
  refused f h e = absurd (omega arith)

  unread : (f : Fault) → IsCaused usage shelf keeper out kept f → status_of f ≡ 7 → shelf
  unread (Unread file) h e = h.1
  unread f h e = absurd (omega arith)

  unloaded : (f : Fault) → IsCaused usage shelf keeper out kept f → status_of f ≡ 8 → keeper
  unloaded (Unloaded table) h e = h.1
  unloaded f h e = absurd (omega arith)

  unwritten : (f : Fault) → IsCaused usage shelf keeper out kept f → status_of f ≡ 9 → out
  unwritten Unwritten h e = h
  unwritten f h e = absurd (omega arith)

  same : (f : Fault) → IsCaused usage shelf keeper out kept f → ¬ (status_of f ≡ 9) → kept
  same Usage h w = h.0
  same (Unread file) h w = h.0
  same (Unloaded table) h w = h.0
  same Unwritten h w = absurd (w refl)
  same f h w = h

  pub by-answer : (r : Result (Option Stats) Fault) (status : ℕ) → status ≡ judged_status (fault_of r) → IfErr r (IsCaused usage shelf keeper out kept)
      → IsCausedBy usage shelf keeper out kept status
  by-answer (Ok x) status e h =
      let zero : status ≡ 0 = e in
      record {
        refused = λ i. absurd (omega arith);
        unread = λ i. absurd (omega arith);
        unloaded = λ i. absurd (omega arith);
        unwritten = λ i. absurd (omega arith);
        same = λ z w. absurd (z zero);
      }
  by-answer (Err f) status e h =
      rw e record { refused = refused f h; unread = unread f h; unloaded = unloaded f h; unwritten = unwritten f h; same = λ z. same f h }

-- ---- what is left of parts that are not used

pub part-left : {S A : Type 0} (tells : S → Option A) (sound : S → Bool) (faults : S → ℕ) (part : S) → Leaves tells sound faults part part
part-left tells sound faults part = record { keeps = refl; stays = refl; later = omega arith }

pub part-alone : {S : Type 0} (faults calls : S → ℕ) (part : S) → IsUntouched faults calls part part
part-alone faults calls part = record { no_fault = refl; no_call = refl }

pub sink-left : {S : Type 0} (sound : S → Bool) (faults : S → ℕ) (sink : S) → LeavesSink sound faults sink sink
sink-left sound faults sink = record { stays = refl; later = omega arith }
