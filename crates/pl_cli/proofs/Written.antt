-- A text that was written by a call with another answer.
use Rattle.std.proofs.Common.{ℕ, List, Option, Bool, Ok, Err, refl}
use Rattle.pl_outside.specs.Taken.{Writes}

pub writes-ok : {S T E U F : Type 0} {taken : S → Option (List ℕ)} {faults : S → ℕ} {sound : S → Bool} {room : S → ℕ} {old new : S} {text : List ℕ} {x : T} {y : U}
    → Writes {E = E} taken faults sound room old new text (Ok x) → Writes {E = F} taken faults sound room old new text (Ok y)
writes-ok w =
    record { all = w.all; prefix = tt; failed = tt; later = w.later; stays = w.stays; room_left = w.room_left; blameless = λ s r. (refl, (w.blameless s r).1) }

pub writes-err : {S T E U F : Type 0} {taken : S → Option (List ℕ)} {faults : S → ℕ} {sound : S → Bool} {room : S → ℕ} {old new : S} {text : List ℕ} {e : E} {f : F}
    → Writes {T = T} taken faults sound room old new text (Err e) → Writes {T = U} taken faults sound room old new text (Err f)
writes-err w =
    record { all = tt; prefix = w.prefix; failed = w.failed; later = w.later; stays = w.stays; room_left = λ s. tt; blameless = λ s r. absurd (cc (w.blameless s r).0) }
