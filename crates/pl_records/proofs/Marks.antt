-- A bit for each byte that may end a field.
use Rattle.std.proofs.Common.{◌≡◌, ℕ, ◌+◌, ◌-◌, ◌/◌, ◌%◌, ◌^◌, ◌<◌, ◌≤◌, List, length, map, get_or, Bool, true, false, cond, leb, refl, sym, ap, ◌∙◌, subst, arith, inl, inr, w64}
use Rattle.std.specs.Int.{bit_at, trailing_zeros}
use Rattle.std.specs.Simd.Lanes.{chunk, mask_l}
use Rattle.std.proofs.lemmas.Bool.{cases_lt, leb-false}
use Rattle.std.proofs.lemmas.List.{get_or-map, length-map}
use Rattle.std.proofs.lemmas.Nat.{shr-shr}
use Rattle.std.proofs.lemmas.Nat.Bits.{bit_at-trailing_zeros, bit_at-zero}
use Rattle.std.proofs.lemmas.Simd.{bit_mask_l, length-chunk, get_or-chunk}
use Rattle.std.proofs.Math.ListN.{get_or-eq_default}
use Rattle.pl_records.specs.PlainCuts.{is_low, IsCutTo}
use Rattle.pl_records.proofs.PlainLines.{cut-over}

-- a bit is set for no byte from the end on, and for each byte before it that is not above the comma
pub record AreMarks (text : List ℕ) (from end marks : ℕ) : Type 0 where
  pub marked : (k : ℕ) → bit_at marks k ≡ 1 → from + k < end
  pub plain : (k : ℕ) → from + k < end → bit_at marks k ≡ 0 → 44 < get_or text (from + k) 0

abbrev bit_value : Bool → ℕ
bit_value b = cond b 1 0

bit_of : (b : Bool) → bit_value b ≡ 1 → b ≡ true
bit_of true e = refl
bit_of false e = absurd (omega arith)

no_bit_of : (b : Bool) → bit_value b ≡ 0 → b ≡ false
no_bit_of true e = absurd (omega arith)
no_bit_of false e = refl

pub marks_new : (text : List ℕ) (from marks : ℕ) → from + 16 ≤ length text → marks ≡ mask_l (map is_low (chunk from 16 text)) → AreMarks text from (from + 16) marks
marks_new text from marks room e = record { marked = marked; plain = plain }
  where
    bytes : List ℕ
    bytes = chunk from 16 text

    long : length (map is_low bytes) ≡ 16
    long = length-map bytes is_low ∙ length-chunk from 16 text room

    bit : (k : ℕ) → bit_at marks k ≡ bit_value (get_or (map is_low bytes) k false)
    bit k = ap (λ n. bit_at n k) e ∙ bit_mask_l (map is_low bytes) k

    marked : (k : ℕ) → bit_at marks k ≡ 1 → from + k < from + 16
    marked k set = elim (cases_lt k 16) [
      | inl lt ↦ omega arith
      | inr ge ↦
          let yes_ : get_or (map is_low bytes) k false ≡ true = bit_of _ (sym (bit k) ∙ set) in
          let no_ : get_or (map is_low bytes) k false ≡ false = get_or-eq_default (map is_low bytes) false (omega (arith, long)) in
          absurd (let bad : true ≡ false = sym yes_ ∙ no_ in cc)
    ]

    plain : (k : ℕ) → from + k < from + 16 → bit_at marks k ≡ 0 → 44 < get_or text (from + k) 0
    plain k within clear =
        let lt : k < 16 = omega arith in
        let no_ : get_or (map is_low bytes) k false ≡ false = no_bit_of _ (sym (bit k) ∙ clear) in
        let inside : k < length bytes = omega (arith, length-chunk from 16 text room) in
        let test : leb (get_or bytes k 0) 44 ≡ false = sym (get_or-map is_low bytes k 0 false inside) ∙ no_ in
        let high : 44 < get_or bytes k 0 = leb-false (get_or bytes k 0) 44 test in
        let own : get_or bytes k 0 ≡ get_or text (from + k) 0 = get_or-chunk from 16 text k 0 lt in
        omega (arith, high, own)

-- the lowest bit, and the bytes before its own
pub record IsFirst (text : List ℕ) (from end z : ℕ) : Type 0 where
  pub within : from + z < end
  pub plain : (k : ℕ) → k < z → 44 < get_or text (from + k) 0

pub first_mark : (text : List ℕ) (from end marks : ℕ) → AreMarks text from end marks → 0 < marks → marks < 2 ^ 64 → IsFirst text from end (trailing_zeros w64 marks)
first_mark text from end marks are some fits =
    let low = bit_at-trailing_zeros w64 marks some fits in
    let within : from + trailing_zeros w64 marks < end = are.marked (trailing_zeros w64 marks) low.1 in
    record { within = within; plain = λ k h. are.plain k (omega (arith, within, h)) (low.2 k h) }

-- the marks of the bytes after one
pub marks_rest : (text : List ℕ) (from end marks z : ℕ) → AreMarks text from end marks → AreMarks text (from + z + 1) end (marks / 2 ^ z / 2 ^ 1)
marks_rest text from end marks z are = record {
  marked = λ k set. (let it = are.marked (z + (1 + k)) (sym (bit k) ∙ set) in omega (arith, it));
  plain = λ k within clear.
      let same : from + (z + (1 + k)) ≡ from + z + 1 + k = omega arith in
      let it = are.plain (z + (1 + k)) (omega (arith, within)) (sym (bit k) ∙ clear) in
      subst (λ i. 44 < get_or text i 0) same it;
}
  where
    bit : (k : ℕ) → bit_at (marks / 2 ^ z / 2 ^ 1) k ≡ bit_at marks (z + (1 + k))
    bit k = ap (λ x. x % 2) (shr-shr (marks / 2 ^ z) 1 k ∙ shr-shr marks z (1 + k))

-- a record up to the first mark, and up to the end where there is none
pub cut_to_mark : (text : List ℕ) (fields : List (List ℕ)) (start from end z : ℕ) → end ≤ length text → IsFirst text from end z → IsCutTo text fields start from → IsCutTo text fields start (from + z)
cut_to_mark text fields start from end z inside first h = (let within = first.within in cut-over text fields start from z (omega (arith, within, inside)) first.plain h)

pub cut_to_end : (text : List ℕ) (fields : List (List ℕ)) (start from end : ℕ) → from ≤ end → end ≤ length text → AreMarks text from end 0 → IsCutTo text fields start from → IsCutTo text fields start end
cut_to_end text fields start from end low inside are h =
    let all : from + (end - from) ≡ end = omega arith in
    subst (IsCutTo text fields start) all (cut-over text fields start from (end - from) (omega (arith, inside, all)) (λ k l. are.plain k (omega (arith, l)) (bit_at-zero k)) h)
