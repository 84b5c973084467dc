-- The numbers of a range.
use Rattle.std.proofs.Common.{◌≡◌, ℕ, zero, suc, ◌+◌, ◌<◌, Bool, true, false, cond, List, [], ◌∷◌, ◌++◌, length, filter, get_or, AllPairs, append-nil, ◌∙◌, ap, arith}
use Rattle.std.specs.List.{range_with_len}
use Rattle.std.proofs.lemmas.List.Elements.{filter-append}
use Rattle.std.proofs.lemmas.List.FromFn.{length-range_with_len, get_or-range_with_len}

pub range-snoc : (a n : ℕ) → range_with_len a (suc n) ≡ range_with_len a n ++ (a + n) ∷ []
range-snoc a zero = let e : a ≡ a + 0 = omega arith in ap (λ (k : ℕ). k ∷ []) e
range-snoc a (suc n) =
    let e : a + 1 + n ≡ a + suc n = omega arith in
    ap (λ (ks : List ℕ). a ∷ ks) (range-snoc (a + 1) n ∙ ap (λ (k : ℕ). range_with_len (a + 1) n ++ k ∷ []) e)

pub range-more : (a n : ℕ) → range_with_len a (n + 1) ≡ range_with_len a n ++ (a + n) ∷ []
range-more a n = let e : n + 1 ≡ suc n = omega arith in ap (range_with_len a) e ∙ range-snoc a n

-- of the numbers from 0
pub range-next : (n : ℕ) → range_with_len 0 (n + 1) ≡ range_with_len 0 n ++ n ∷ []
range-next n = let e : 0 + n ≡ n = omega arith in range-more 0 n ∙ ap (λ (k : ℕ). range_with_len 0 n ++ k ∷ []) e

pub range-split : (a m n : ℕ) → range_with_len a (m + n) ≡ range_with_len a m ++ range_with_len (a + m) n
range-split a zero n = grind arith
range-split a (suc m) n =
    let count : suc m + n ≡ suc (m + n) = omega arith in
    let rest = range-split (a + 1) m n in
    let from : a + 1 + m ≡ a + suc m = omega arith in
    ap (range_with_len a) count ∙ ap (λ l. a ∷ l) rest ∙ ap (λ k. (a ∷ range_with_len (a + 1) m) ++ range_with_len k n) from

pub range-rises : (a n : ℕ) → AllPairs (λ j k. j < k) (range_with_len a n)
range-rises a n i j d l m =
    let long : length (range_with_len a n) ≡ n = length-range_with_len a n in
    let first : get_or (range_with_len a n) i d ≡ a + i = get_or-range_with_len a n i d (omega (arith, long)) in
    let second : get_or (range_with_len a n) j d ≡ a + j = get_or-range_with_len a n j d (omega (arith, long)) in
    omega (arith, first, second)

-- ---- those that pass a test, and one number more

filter-next : (p : ℕ → Bool) (n : ℕ) → filter p (range_with_len 0 (n + 1)) ≡ filter p (range_with_len 0 n) ++ filter p (n ∷ [])
filter-next p n = ap (filter p) (range-next n) ∙ filter-append p (range_with_len 0 n) (n ∷ [])

pub filter-with : (p : ℕ → Bool) (n : ℕ) → p n ≡ true → filter p (range_with_len 0 (n + 1)) ≡ filter p (range_with_len 0 n) ++ n ∷ []
filter-with p n e = filter-next p n ∙ ap (λ (b : Bool). filter p (range_with_len 0 n) ++ cond b (n ∷ []) []) e

pub filter-without : (p : ℕ → Bool) (n : ℕ) → p n ≡ false → filter p (range_with_len 0 (n + 1)) ≡ filter p (range_with_len 0 n)
filter-without p n e = filter-next p n ∙ ap (λ (b : Bool). filter p (range_with_len 0 n) ++ cond b (n ∷ []) []) e ∙ append-nil (filter p (range_with_len 0 n))
