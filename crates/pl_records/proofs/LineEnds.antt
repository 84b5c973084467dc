-- The places of a quote and of line ends in a text.
use Rattle.std.proofs.Common.{◌≡◌, ℕ, zero, suc, ◌<◌, ◌==◌, ◌&&◌, ◌||◌, List, [], ◌∷◌, length, get_or, Bool, true, false, not, refl, sym, ◌∙◌, arith, Option, Some, None}
use Rattle.std.specs.List.{list_all}
use Rattle.std.specs.Option.{is_some}
use Rattle.memchr.specs.Find.{IsFirstByte, IsLastByte, is_byte, is_byte2}
use Rattle.pl_records.specs.Plain.{is_line_end}
use Rattle.pl_records.specs.WholeRecords.{is_unquoted, IsLastLineEnd}

other-false : (b : Bool) → ¬ (b ≡ true) → b ≡ false
other-false true h = absurd (h refl)
other-false false h = refl

all-unquoted : (text : List ℕ) → ((k : ℕ) → k < length text → ¬ ((get_or text k 0 == 34) ≡ true)) → list_all is_unquoted text ≡ true
all-unquoted [] h = refl
all-unquoted (c ∷ cs) h = rw (other-false (c == 34) (h 0 (omega arith))) (all-unquoted cs (λ k l. h (suc k) (omega (arith, l))))

one-quoted : (text : List ℕ) (k : ℕ) → k < length text → (get_or text k 0 == 34) ≡ true → list_all is_unquoted text ≡ false
one-quoted [] k l e = absurd (omega (arith, l))
one-quoted (c ∷ cs) zero l e = rw e refl
one-quoted (c ∷ cs) (suc k) l e = rw (one-quoted cs k (omega (arith, l)) e) (and-none (is_unquoted c))
  where
    and-none : (b : Bool) → (b && false) ≡ false
    and-none true = refl
    and-none false = refl

not-false : (b : Bool) → false ≡ not b → b ≡ true
not-false true e = refl
not-false false e = absurd (cc)

not-true : (b : Bool) → true ≡ not b → b ≡ false
not-true true e = absurd (cc)
not-true false e = refl

pub no-quote : (text : List ℕ) (o : Option ℕ) (none : Bool) → IsFirstByte (is_byte 34) text o → is_some o ≡ not none → none ≡ list_all is_unquoted text
no-quote text None none h e = not-false none e ∙ sym (all-unquoted text (λ k l. h k (omega arith) l))
no-quote text (Some k) none h e = not-true none e ∙ sym (one-quoted text k h.0.high h.1)

swapped : (b : ℕ) → is_byte2 10 13 b ≡ is_line_end b
swapped b = or-swap (b == 10) (b == 13)
  where
    or-swap : (x y : Bool) → (x || y) ≡ (y || x)
    or-swap true true = refl
    or-swap true false = refl
    or-swap false true = refl
    or-swap false false = refl

pub last-end : (text : List ℕ) (o : Option ℕ) → IsLastByte (is_byte2 10 13) text o → IsLastLineEnd text o
last-end text None h = λ i l. other-false (is_line_end (get_or text i 0)) (rw (← swapped (get_or text i 0)) (h i (omega arith) l))
last-end text (Some n) h = (
  h.0.high,
  sym (swapped (get_or text n 0)) ∙ h.1,
  λ i l m. other-false (is_line_end (get_or text i 0)) (rw (← swapped (get_or text i 0)) (h.0.after i (omega (arith, l)) m)),
)
