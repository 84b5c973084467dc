-- How long the fields of labels are, and how large their codes.
use Rattle.std.proofs.Common.{◌≡◌, ℕ, ◌+◌, ◌*◌, ◌<◌, ◌≤◌, ◌==◌, Bool, true, false, if◌then◌else◌, ℤ, pos, List, [], ◌∷◌, length, refl, sym, ap, ◌∙◌, arith, length-append, inl, inr, FitsSigned, w64, of_z, to_z}
use lib.Dec.{eqb}
use Rattle.std.specs.Prelude.{unsigned_abs}
use Rattle.std.proofs.lemmas.Bool.Decides.{nat_tests, Decides-int_eq}
use Rattle.std.proofs.lemmas.Int.{ints, to_z-of_z}
use Rattle.pl_spec.specs.Cells.{is_true}
use Rattle.std.specs.Prelude.{flat_map}
use Rattle.std.specs.List.{list_any}
use Rattle.pl_spec.specs.Rounding.{MISSING, is_missing}
use Rattle.pl_spec.specs.Lines.{quote, quoted_byte, calls_for_quotes}
use Rattle.pl_values.specs.Families.{IsCode}

byte-long : (b : ℕ) (c : Bool) → (b == 34) ≡ c → length (quoted_byte b) ≤ 2
byte-long b true e = rw e (omega arith)
byte-long b false e = rw e (omega arith)

bytes-long : (t : List ℕ) → length (flat_map quoted_byte t) ≤ 2 * length t
bytes-long [] = omega arith
bytes-long (b ∷ bs) = omega (arith, length-append (quoted_byte b) (flat_map quoted_byte bs), byte-long b (b == 34) refl, bytes-long bs)

pub quote-long : (t : List ℕ) → length (quote t) ≤ 2 * length t + 2
quote-long t = here (list_any calls_for_quotes t) refl
  where
    here : (c : Bool) → list_any calls_for_quotes t ≡ c → length (quote t) ≤ 2 * length t + 2
    here true e = rw e (omega (arith, length-append (flat_map quoted_byte t) (34 ∷ []), bytes-long t))
    here false e = rw e (omega arith)

-- the code of a label is within the texts
pub code-within : (texts : List (List ℕ)) (x : ℤ) → IsCode texts x → (x ≡ MISSING → ⊥) → unsigned_abs x < length texts
code-within texts x (inl e) h = absurd (h e)
code-within texts x (inr n) h = rw n.1 n.2

pub not-missing : (x : ℤ) → FitsSigned w64 x → (of_z w64 x ≡ 9223372036854775808 → ⊥) → x ≡ MISSING → ⊥
not-missing x f h e = h (rw e refl)

pub is-missing : (x : ℤ) → FitsSigned w64 x → of_z w64 x ≡ 9223372036854775808 → x ≡ MISSING
is-missing x f h = sym (to_z-of_z w64 x f) ∙ ap (to_z w64) h

-- a cell is 1 where it is true
pub one-is : (x : ℤ) → FitsSigned w64 x → eqb (of_z w64 x) 1 ≡ is_true x
one-is x f = grind (arith, ints, nat_tests)

pub one-true : (x : ℤ) → FitsSigned w64 x → of_z w64 x ≡ 1 → is_true x ≡ true
one-true x f h = grind (arith, ints, nat_tests)

pub one-false : (x : ℤ) → FitsSigned w64 x → (of_z w64 x ≡ 1 → ⊥) → is_true x ≡ false
one-false x f h = grind (arith, ints, nat_tests)

pub present-is : (x : ℤ) → (x ≡ MISSING → ⊥) → x ≡ (if is_missing x then pos 0 else x)
present-is x h = here (is_missing x) refl
  where
    here : (b : Bool) → is_missing x ≡ b → x ≡ (if b then pos 0 else x)
    here true e = absurd (h ((Decides-int_eq x MISSING).0 e))
    here false e = refl
