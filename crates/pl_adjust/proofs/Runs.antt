-- A filter that keeps the elements between two places.
use Rattle.std.proofs.Common.{◌≡◌, ℕ, zero, suc, ◌<◌, ◌≤◌, Bool, true, false, List, [], ◌∷◌, length, get_or, take, drop, refl, ap, arith}
use Rattle.std.specs.List.{filter}

pub filter-none : {X : Type 0} (t : X → Bool) (xs : List X) → ((k : ℕ) (d : X) → k < length xs → t (get_or xs k d) ≡ false) → filter t xs ≡ []
filter-none t [] out = refl
filter-none t (x ∷ xs) out =
    let first : t x ≡ false = out 0 x (omega arith) in rw first (filter-none t xs (λ k d h. out (suc k) d (omega arith)))

filter-front : {X : Type 0} (t : X → Bool) (n : ℕ) (xs : List X) → n ≤ length xs → ((k : ℕ) (d : X) → k < n → t (get_or xs k d) ≡ true)
    → ((k : ℕ) (d : X) → n ≤ k → k < length xs → t (get_or xs k d) ≡ false) → filter t xs ≡ take n xs
filter-front t zero xs h in_run out = filter-none t xs (λ k d. out k d (omega arith))
filter-front t (suc n) [] h in_run out = refl
filter-front t (suc n) (x ∷ xs) h in_run out =
    let first : t x ≡ true = in_run 0 x (omega arith) in
    rw first (ap (λ l. x ∷ l) (filter-front t n xs (omega arith) (λ k d l. in_run (suc k) d (omega arith)) (λ k d l m. out (suc k) d (omega arith) (omega arith))))

-- the test passes from one place up to another, and nowhere else
pub filter-run : {X : Type 0} (t : X → Bool) (from n : ℕ) (xs : List X) → from ≤ length xs → n ≤ length (drop from xs)
    → ((k : ℕ) (d : X) → k < from → t (get_or xs k d) ≡ false)
    → ((k : ℕ) (d : X) → k < n → t (get_or (drop from xs) k d) ≡ true)
    → ((k : ℕ) (d : X) → n ≤ k → k < length (drop from xs) → t (get_or (drop from xs) k d) ≡ false) → filter t xs ≡ take n (drop from xs)
filter-run t zero n xs h l before in_run out = filter-front t n xs l in_run out
filter-run t (suc from) n [] h l before in_run out = absurd (omega arith)
filter-run t (suc from) n (x ∷ xs) h l before in_run out =
    let first : t x ≡ false = before 0 x (omega arith) in
    rw first (filter-run t from n xs (omega arith) l (λ k d m. before (suc k) d (omega arith)) in_run out)
