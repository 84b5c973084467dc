-- A text in two pieces.
use Rattle.std.proofs.Common.{◌++◌, ℕ, List, [], Option, Bool, Result, Ok, Err, sym}
use Rattle.std.proofs.lemmas.List.{append-nil}
use Rattle.pl_outside.specs.Taken.{Writes}
use Rattle.pl_outside.proofs.Pieces.{writing-start, writing-more, writing-end, writing-over, writing-stop}

-- after all of the first piece the second one is written
pub writes-two : {S T E U F : Type 0} {taken : S → Option (List ℕ)} {faults : S → ℕ} {sound : S → Bool} {room : S → ℕ} {old mid new : S} (first second : List ℕ) {x : T} (r : Result U F)
    → Writes {E = E} taken faults sound room old mid first (Ok x) → Writes taken faults sound room mid new second r
    → Writes taken faults sound room old new (first ++ second) r
writes-two {taken = taken} {faults = faults} {sound = sound} {room = room} {old = old} first second (Ok y) h k =
    writing-end (writing-more second [] (writing-over (sym (append-nil second)) (writing-more first second (writing-start taken faults sound room old (first ++ second)) h)) k)
writes-two {taken = taken} {faults = faults} {sound = sound} {room = room} {old = old} first second (Err e) h k =
    writing-stop second [] (writing-over (sym (append-nil second)) (writing-more first second (writing-start taken faults sound room old (first ++ second)) h)) k

-- the first piece fails
pub writes-first : {S T E U F : Type 0} {taken : S → Option (List ℕ)} {faults : S → ℕ} {sound : S → Bool} {room : S → ℕ} {old new : S} (first second : List ℕ) {e : E} {f : F}
    → Writes {T = T} taken faults sound room old new first (Err e) → Writes {T = U} taken faults sound room old new (first ++ second) (Err f)
writes-first {taken = taken} {faults = faults} {sound = sound} {room = room} {old = old} first second h =
    writing-stop first second (writing-start taken faults sound room old (first ++ second)) h
