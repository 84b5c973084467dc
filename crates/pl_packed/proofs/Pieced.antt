-- Two texts that are written one after the other.
use Rattle.std.proofs.Common.{ℕ, List, [], ◌++◌, Option, Bool, Result, Ok, Err, sym}
use Rattle.std.proofs.lemmas.List.{append-nil}
use Rattle.pl_outside.specs.Taken.{Writes}
use Rattle.pl_outside.proofs.Pieces.{Writing, writing-start, writing-more, writing-end, writing-stop, writing-over}

pub writes-cut : {S T E U F : Type 0} {taken : S → Option (List ℕ)} {faults : S → ℕ} {sound : S → Bool} {room : S → ℕ} {old new : S} (a b : List ℕ) {e : E} {f : F}
    → Writes {T = T} taken faults sound room old new a (Err e) → Writes {T = U} taken faults sound room old new (a ++ b) (Err f)
writes-cut {taken = taken} {faults = faults} {sound = sound} {room = room} {old = old} a b w = writing-stop a b (writing-start taken faults sound room old (a ++ b)) w

pub writes-two : {S T E U F : Type 0} {taken : S → Option (List ℕ)} {faults : S → ℕ} {sound : S → Bool} {room : S → ℕ} {old mid new : S} (a b : List ℕ) {x : T} {r : Result U F}
    → Writes {E = E} taken faults sound room old mid a (Ok x) → Writes taken faults sound room mid new b r → Writes taken faults sound room old new (a ++ b) r
writes-two {T = T} {E = E} {U = U} {F = F} {taken = taken} {faults = faults} {sound = sound} {room = room} {old = old} {mid = mid} {new = new} a b {r = r} first second = here r second
  where
    front : Writing taken faults sound room old mid (a ++ b) (b ++ [])
    front = writing-over (sym (append-nil b)) (writing-more a b (writing-start taken faults sound room old (a ++ b)) first)

    here : (r : Result U F) → Writes taken faults sound room mid new b r → Writes taken faults sound room old new (a ++ b) r
    here (Ok y) w = writing-end (writing-more b [] front w)
    here (Err f) w = writing-stop b [] front w
