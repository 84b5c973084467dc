-- A file that is handed on: the bytes so far.
use Rattle.std.proofs.Common.{◌≡◌, ℕ, zero, suc, ◌+◌, ◌≤◌, ◌==◌, ◌&&◌, nat_lt, false, List, ◌∷◌, ◌++◌, length, take, Option, refl, sym, ap, ◌∙◌, arith, append_assoc, length-append, length-take}
use Rattle.std.specs.Prelude.{Result, Ok, Err, IfOk}
use Rattle.std.specs.Option.{ForSome}
use Rattle.std.proofs.lemmas.Bool.Decides.{nat_tests}
use Rattle.std.proofs.lemmas.List.{take-append-le}
use Rattle.pl_outside.specs.Logs.{Given, begins, gives}
use Rattle.pl_outside.specs.Takes.{IsTaken}
use Rattle.pl_outside.specs.declared.reading.ReadError.{ReadError}

-- so many bytes were given and taken
pub record IsHandedOn (count : ℕ) (Took RestIs Gave : List ℕ → Type 0) : Type 0 where
  pub bytes : List ℕ
  pub counted : length bytes ≡ count
  pub took : Took bytes
  pub rest : RestIs bytes
  pub gave : Gave bytes

-- what is left of the file behind them
abbrev pub RestIs : {F : Type 0} → Option F → List ℕ → List ℕ → List ℕ → Type 0
RestIs holds whole left bytes = ForSome holds (λ files. whole ≡ bytes ++ left)

-- the file that was begun last was given so far
abbrev pub Gave : List Given → List Given → List ℕ → Type 0
Gave old new bytes = (files : List Given) (name : List ℕ) → old ≡ begins files name → new ≡ record { name = name; bytes = bytes; ended = false } ∷ files

not-none : (n : ℕ) → ¬ (n ≡ 0) → (n == 0) ≡ false
not-none zero h = absurd (h refl)
not-none (suc n) h = grind (arith, nat_tests)

-- one piece more is given and taken
pub handed-on-more : {F : Type 0} (count got : ℕ) (Took : List ℕ → Type 0) (More : List ℕ → Type 0) (holds later : Option F) (whole left rest : List ℕ)
    (first old new : List Given) (buffer tail : List ℕ) → (h : IsHandedOn count Took (RestIs holds whole left) (Gave first old))
    → got ≤ length buffer → ¬ (got ≡ 0)
    → later ≡ holds → ForSome later (λ files. left ≡ take got buffer ++ rest)
    → new ≡ gives old (take got buffer) (got == 0 && nat_lt 0 (length buffer))
    → More (h.bytes ++ take got (buffer ++ tail))
    → IsHandedOn (count + got) More (RestIs holds whole rest) (Gave first new)
handed-on-more count got Took More holds later whole left rest first old new buffer tail h few some same piece logged more = record {
  bytes = h.bytes ++ take got buffer;
  counted = omega (arith, h.counted, length-append h.bytes (take got buffer), length-take got buffer);
  took = rw (take-append-le got buffer tail few) at more;
  rest = λ files f. h.rest files f ∙ ap (λ l. h.bytes ++ l) (piece files (same ∙ f)) ∙ sym (append_assoc h.bytes (take got buffer) rest);
  gave = λ files name was. logged ∙ rw (h.gave files name was, not-none got some) refl;
}

-- ---- a file from its beginning

pub taken-begun : {T : Type 0} {cap : ℕ} {old new : List Given} {name : List ℕ} {Took Held Other : List ℕ → Type 0} (result : Result T ReadError)
    → IsTaken cap old new name Took Held result → ((bytes : List ℕ) → Held bytes → Other bytes) → IsTaken cap old new name Took Other result
taken-begun {T} {cap} {old} {new} {name} {Took} {Held} {Other} result h other = record {
  file = h.file;
  added = h.added;
  named = h.named;
  ended = h.ended;
  within = h.within;
  taken = h.taken;
  held = IfOk-other result h.held;
  too_long = h.too_long;
}
  where
    IfOk-other : (r : Result T ReadError) → IfOk r (λ _. Held h.file.bytes) → IfOk r (λ _. Other h.file.bytes)
    IfOk-other (Ok x) it = other h.file.bytes it
    IfOk-other (Err e) it = tt
