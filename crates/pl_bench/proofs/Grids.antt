-- Lists of one length, one after the other, and numbers in order.
use Rattle.std.proofs.Common.{◌≡◌, ℕ, zero, suc, ◌+◌, ◌*◌, ◌<◌, ◌≤◌, List, [], ◌∷◌, ◌++◌, length, get_or, map, refl, ap, ◌∙◌, arith, length-append}
use Rattle.std.specs.Prelude.{flat_map}
use Rattle.std.specs.List.{range_with_len, All}
use Rattle.std.proofs.lemmas.List.{append-nil, get_or_append_left, get_or-append-add}
use Rattle.std.proofs.lemmas.List.Concat.{flat_map-append}
use Rattle.std.proofs.lemmas.List.FromFn.{length-range_with_len, get_or-range_with_len, map-range_with_len_more}
use Rattle.pl_spec.proofs.Ranges.{range-more}

pub map-more : {X : Type 0} (f : ℕ → X) (n : ℕ) → map f (range_with_len 0 (n + 1)) ≡ map f (range_with_len 0 n) ++ f n ∷ []
map-more f n = map-range_with_len_more f 0 n n (omega arith)

pub grid-more : {X : Type 0} (f : ℕ → List X) (n : ℕ) → flat_map f (range_with_len 0 (n + 1)) ≡ flat_map f (range_with_len 0 n) ++ f n
grid-more f n =
    let e : 0 + n ≡ n = omega arith in
    ap (flat_map f) (range-more 0 n ∙ ap (λ (k : ℕ). range_with_len 0 n ++ k ∷ []) e)
    ∙ flat_map-append f (range_with_len 0 n) (n ∷ [])
    ∙ ap (λ xs. flat_map f (range_with_len 0 n) ++ xs) (append-nil (f n))

pub length-grid : {X : Type 0} (f : ℕ → List X) (m : ℕ) → ((k : ℕ) → length (f k) ≡ m) → (a n : ℕ) → length (flat_map f (range_with_len a n)) ≡ n * m
length-grid f m e a zero = omega arith
length-grid f m e a (suc n) = omega (arith, length-append (f a) (flat_map f (range_with_len (a + 1) n)), e a, length-grid f m e (a + 1) n)

-- element j of list k
pub get_or-grid : {X : Type 0} (f : ℕ → List X) (m : ℕ) → ((k : ℕ) → length (f k) ≡ m) → (a n k j i : ℕ) (d : X) → k < n → j < m → i ≡ k * m + j
    → get_or (flat_map f (range_with_len a n)) i d ≡ get_or (f (a + k)) j d
get_or-grid f m e a zero k j i d h l at = absurd (omega arith)
get_or-grid f m e a (suc n) zero j i d h l at =
    let inside : i < length (f a) = omega (arith, e a) in
    let place : i ≡ j = omega arith in
    let first : a ≡ a + 0 = omega arith in
    get_or_append_left (f a) (flat_map f (range_with_len (a + 1) n)) d i inside
    ∙ ap (λ (p : ℕ). get_or (f a) p d) place
    ∙ ap (λ (p : ℕ). get_or (f p) j d) first
get_or-grid f m e a (suc n) (suc k) j i d h l at =
    let place : i ≡ length (f a) + (k * m + j) = omega (arith, e a) in
    let next : a + 1 + k ≡ a + suc k = omega arith in
    ap (λ (p : ℕ). get_or (f a ++ flat_map f (range_with_len (a + 1) n)) p d) place
    ∙ get_or-append-add (f a) (flat_map f (range_with_len (a + 1) n)) (k * m + j) d
    ∙ get_or-grid f m e (a + 1) n k j (k * m + j) d (omega arith) l refl
    ∙ ap (λ (p : ℕ). get_or (f p) j d) next

pub within : (P : ℕ → Type 0) (a n : ℕ) → ((k : ℕ) → a ≤ k → k < a + n → P k) → All P (range_with_len a n)
within P a n all i d l =
    let few : i < n = omega (arith, length-range_with_len a n) in
    let at = get_or-range_with_len a n i d few in
    rw at (all (a + i) (omega arith) (omega arith))
