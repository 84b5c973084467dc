-- A text that is written piece by piece.
use Rattle.std.proofs.Common.{◌≡◌, ◌≤◌, ◌+◌, ◌++◌, ℕ, List, [], Option, Bool, IsTrue, Result, Ok, Err, length, take, arith, append_assoc, length-append, refl, ap, subst, ◌∙◌}
use Rattle.std.proofs.lemmas.Grind.{common_steps}
use Rattle.std.proofs.lemmas.List.{take-append-le}
use Rattle.std.proofs.Math.Seq.{take-append-add}
use Rattle.pl_outside.specs.Taken.{IsWrittenIn, TakesAll, Writes}
use Rattle.pl_outside.proofs.Counting.{Rose-later}
use Rattle.pl_outside.proofs.Takes.{takes-none, takes-more}

-- some of the text was written since old, and this is left
pub record Writing {S : Type 0} (taken : S → Option (List ℕ)) (faults : S → ℕ) (sound : S → Bool) (room : S → ℕ)
    (old now : S) (text left : List ℕ) : Type 0 where
  pub front : (done : List ℕ) × TakesAll (taken old) (taken now) done × (done ++ left ≡ text)
  pub later : faults old ≤ faults now
  pub stays : sound now ≡ sound old
  pub room_left : IsTrue (sound old) → room now + length text ≡ room old + length left
  pub quiet : IsTrue (sound old) → length text ≤ room old → faults now ≡ faults old

front-take : (done piece left : List ℕ) (n : ℕ) → n ≤ length piece → take (length done + n) (done ++ (piece ++ left)) ≡ done ++ take n piece
front-take done piece left n h = take-append-add done (piece ++ left) n ∙ ap (λ t. done ++ t) (take-append-le n piece left h)

prefix-length : (done piece left text : List ℕ) (n : ℕ) → n ≤ length piece → done ++ (piece ++ left) ≡ text → length done + n ≤ length text
prefix-length done piece left text n h e = rw (← e) (omega (arith, length-append done (piece ++ left), length-append piece left))

pub writing-start : {S : Type 0} (taken : S → Option (List ℕ)) (faults : S → ℕ) (sound : S → Bool) (room : S → ℕ) (old : S) (text : List ℕ)
    → Writing taken faults sound room old old text text
writing-start taken faults sound room old text =
    record {
      front = ([], takes-none (taken old), refl);
      later = omega arith;
      stays = refl;
      room_left = λ s. refl;
      quiet = λ s fits. refl;
    }

pub writing-more : {S T E : Type 0} {taken : S → Option (List ℕ)} {faults : S → ℕ} {sound : S → Bool} {room : S → ℕ} {old mid new : S} {text : List ℕ} (piece left : List ℕ) {x : T}
    → Writing taken faults sound room old mid text (piece ++ left) → Writes {E = E} taken faults sound room mid new piece (Ok x)
    → Writing taken faults sound room old new text left
writing-more {taken = taken} {faults = faults} {sound = sound} {room = room} {old = old} {mid = mid} {new = new} {text = text} piece left h w =
    record {
      front = (h.front.0 ++ piece, takes-more (taken old) (taken mid) (taken new) h.front.0 piece h.front.1 w.all, rw append_assoc h.front.2);
      later = omega (arith, h.later, w.later);
      stays = w.stays ∙ h.stays;
      room_left = λ s. omega (arith, h.room_left s, w.room_left (rw h.stays s), length-append piece left);
      quiet = λ s fits.
          let room_mid : length piece ≤ room mid = omega (arith, h.room_left s, length-append piece left) in
          (w.blameless (rw h.stays s) room_mid).1 ∙ h.quiet s fits;
    }

pub writing-end : {S T E : Type 0} {taken : S → Option (List ℕ)} {faults : S → ℕ} {sound : S → Bool} {room : S → ℕ} {old new : S} {text : List ℕ} {x : T}
    → Writing taken faults sound room old new text [] → Writes {E = E} taken faults sound room old new text (Ok x)
writing-end {taken = taken} {faults = faults} {sound = sound} {room = room} {old = old} {new = new} {text = text} h =
    record {
      all = let e : h.front.0 ≡ text = grind (arith, common_steps, h.front.2) in rw (← e) h.front.1;
      prefix = tt;
      failed = tt;
      later = h.later;
      stays = h.stays;
      room_left = λ s. omega (arith, h.room_left s);
      blameless = λ s fits. (refl, h.quiet s fits);
    }

pub writing-stop : {S T E U F : Type 0} {taken : S → Option (List ℕ)} {faults : S → ℕ} {sound : S → Bool} {room : S → ℕ} {old mid new : S} {text : List ℕ} (piece left : List ℕ) {e : E} {f : F}
    → Writing taken faults sound room old mid text (piece ++ left) → Writes {T = T} taken faults sound room mid new piece (Err e)
    → Writes {T = U} taken faults sound room old new text (Err f)
writing-stop {taken = taken} {faults = faults} {sound = sound} {room = room} {old = old} {mid = mid} {new = new} {text = text} piece left h w =
    record {
      all = tt;
      prefix =
          let n = w.prefix.0 in
          let e : take (length h.front.0 + n) text ≡ h.front.0 ++ take n piece =
          rw (← h.front.2) (front-take h.front.0 piece left n w.prefix.1) in (
            length h.front.0 + n,
            prefix-length h.front.0 piece left text n w.prefix.1 h.front.2,
            rw e (takes-more (taken old) (taken mid) (taken new) h.front.0 (take n piece) h.front.1 w.prefix.2),
          );
      failed = Rose-later (faults old) (faults mid) (faults new) h.later w.failed;
      later = omega (arith, h.later, w.later);
      stays = w.stays ∙ h.stays;
      room_left = λ s. tt;
      blameless = λ s fits.
          let room_mid : length piece ≤ room mid = omega (arith, h.room_left s, length-append piece left) in
          absurd (cc (w.blameless (rw h.stays s) room_mid).0);
    }

-- the same with the text, or what is left of it, spelled another way
pub writing-over : {S : Type 0} {taken : S → Option (List ℕ)} {faults : S → ℕ} {sound : S → Bool} {room : S → ℕ} {old now : S} {text left other : List ℕ}
    → left ≡ other → Writing taken faults sound room old now text left → Writing taken faults sound room old now text other
writing-over {taken = taken} {faults = faults} {sound = sound} {room = room} {old = old} {now = now} {text = text} e h = subst (λ xs. Writing taken faults sound room old now text xs) e h

pub writes-over : {S T E : Type 0} {taken : S → Option (List ℕ)} {faults : S → ℕ} {sound : S → Bool} {room : S → ℕ} {old new : S} {text other : List ℕ} {r : Result T E}
    → text ≡ other → Writes taken faults sound room old new text r → Writes taken faults sound room old new other r
writes-over {taken = taken} {faults = faults} {sound = sound} {room = room} {old = old} {new = new} {r = r} e h = subst (λ xs. Writes taken faults sound room old new xs r) e h

-- ---- in how many pieces

pub written-none : {S : Type 0} {whole : S → Bool} {calls : S → ℕ} {old : S} {n : ℕ} → n ≡ 0 → IsWrittenIn whole calls old old n
written-none {n = n} none = record { stays = refl; counted = λ w. omega arith }

pub written-more : {S : Type 0} {whole : S → Bool} {calls : S → ℕ} {old mid new : S} {m n k : ℕ}
    → IsWrittenIn whole calls old mid m → IsWrittenIn whole calls mid new n → k ≡ m + n → IsWrittenIn whole calls old new k
written-more {m = m} {n = n} {k = k} first second sum =
    record {
      stays = second.stays ∙ first.stays;
      counted = λ w. omega (arith, first.counted w, second.counted (rw first.stays w), sum);
    }
