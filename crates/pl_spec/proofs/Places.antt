-- Places in lists.
use Rattle.std.proofs.Common.{◌≡◌, ◌≢◌, ℕ, zero, suc, ◌+◌, ◌<◌, ◌≤◌, ◌==◌, Bool, true, false, not, cond, List, [], ◌∷◌, length, get_or, Some, None, refl, ◌∙◌, ap, arith, nat_lt, inl, inr, ◌*◌}
use Rattle.std.specs.List.{prefix_len, position, position_or_len, AllPairs}
use Rattle.std.specs.List.Sorted.{IsPartitionPoint, IsPartitionedBy}
use Rattle.std.proofs.lemmas.Bool.{cases_lt}
use Rattle.std.proofs.lemmas.Bool.Decides.{nat_tests}
use Rattle.std.proofs.lemmas.Nat.{mul-le}

-- the place of row i and column j is one of the n rows of m places
pub row-within : (i n m j : ℕ) → i < n → j < m → i * m + j < n * m
row-within i n m j h l = let r = mul-le (i + 1) m n m (omega arith) (omega arith) in let e : (i + 1) * m ≡ i * m + m = omega arith in omega (arith, r, e)

pub prefix_from_point : {A : Type 0} (p : A → Bool) (xs : List A) (n : ℕ) → n ≤ length xs → IsPartitionPoint (λ y. p y ≡ true) (λ y. p y ≡ false) xs n → prefix_len p xs ≡ n
prefix_from_point p [] n h point = omega arith
prefix_from_point p (x ∷ xs) zero h point = let no : p x ≡ false = point.1 0 x (omega arith) (omega arith) in rw no refl
prefix_from_point p (x ∷ xs) (suc n) h point =
    let yes : p x ≡ true = point.0 0 x (omega arith) (omega arith) in
    let rest : prefix_len p xs ≡ n = prefix_from_point p xs n (omega arith) (λ k d l m. point.0 (suc k) d (omega arith) (omega arith), λ k d l m. point.1 (suc k) d (omega arith) (omega arith)) in
    rw yes (omega (arith, rest))

pub prefix_same : {A : Type 0} (p q : A → Bool) → ((x : A) → p x ≡ q x) → (xs : List A) → prefix_len p xs ≡ prefix_len q xs
prefix_same p q h [] = refl
prefix_same p q h (x ∷ xs) = ap (λ b. cond b (1 + prefix_len p xs) 0) (h x) ∙ ap (λ n. cond (q x) (1 + n) 0) (prefix_same p q h xs)

pub first_at : {A : Type 0} (p : A → Bool) (xs : List A) (i : ℕ) (d : A) → i < length xs → p (get_or xs i d) ≡ true → ((k : ℕ) → k < i → p (get_or xs k d) ≡ false) → position_or_len p xs ≡ i
first_at p [] i d h t f = absurd (omega arith)
first_at p (x ∷ xs) zero d h t f = rw t refl
first_at p (x ∷ xs) (suc i) d h t f =
    let no : p x ≡ false = f 0 (omega arith) in
    let rest : position_or_len p xs ≡ i = first_at p xs i d (omega arith) t (λ k l. f (suc k) (omega arith)) in
    rw no (omega (arith, rest))

pub is_at : {A : Type 0} (p : A → Bool) (xs : List A) (i : ℕ) (d : A) → i < length xs → p (get_or xs i d) ≡ true → ((k : ℕ) → k < i → p (get_or xs k d) ≡ false) → position p xs ≡ Some i
is_at p xs i d h t f =
    let e : position_or_len p xs ≡ i = first_at p xs i d h t f in
    let u : nat_lt i (length xs) ≡ true = grind (arith, nat_tests) in rw (e, u) refl

pub past_all : {A : Type 0} (p : A → Bool) (xs : List A) (d : A) → ((k : ℕ) → k < length xs → p (get_or xs k d) ≡ false) → position_or_len p xs ≡ length xs
past_all p [] d f = refl
past_all p (x ∷ xs) d f =
    let no : p x ≡ false = f 0 (omega arith) in
    let rest : position_or_len p xs ≡ length xs = past_all p xs d (λ k l. f (suc k) (omega arith)) in
    rw no (omega (arith, rest))

pub is_nowhere : {A : Type 0} (p : A → Bool) (xs : List A) (d : A) → ((k : ℕ) → k < length xs → p (get_or xs k d) ≡ false) → position p xs ≡ None
is_nowhere p xs d f =
    let e : position_or_len p xs ≡ length xs = past_all p xs d f in
    let u : nat_lt (length xs) (length xs) ≡ false = grind (arith, nat_tests) in rw (e, u) refl

pub none_pass : {A : Type 0} (p : A → Bool) (xs : List A) → length xs ≤ position_or_len p xs → (k : ℕ) (d : A) → k < length xs → p (get_or xs k d) ≡ false
none_pass p [] e k d h = absurd (omega arith)
none_pass {A} p (x ∷ xs) e k d h = here (p x) refl e k h (none_pass p xs)
  where
    here : (b : Bool) → p x ≡ b → suc (length xs) ≤ cond (not b) (1 + position_or_len p xs) 0 → (k : ℕ) → k < suc (length xs)
        → (length xs ≤ position_or_len p xs → (k : ℕ) (d : A) → k < length xs → p (get_or xs k d) ≡ false) → p (get_or (x ∷ xs) k d) ≡ false
    here true t e k h more = absurd (omega arith)
    here false t e zero h more = t
    here false t e (suc k) h more = more (omega arith) k d (omega arith)

pub nowhere : {A : Type 0} (p : A → Bool) (xs : List A) → position p xs ≡ None → (k : ℕ) (d : A) → k < length xs → p (get_or xs k d) ≡ false
nowhere p xs e = none_pass p xs (elim (cases_lt (position_or_len p xs) (length xs)) [
  | inl l ↦ (let t : nat_lt (position_or_len p xs) (length xs) ≡ true = grind (arith, nat_tests) in
      let no : Some (position_or_len p xs) ≡ None = rw t at e in absurd (let bad : Some (position_or_len p xs) ≡ None = no in cc))
  | inr g ↦ g
])

-- ---- rows whose keys rise

pub rising_at : {A : Type 0} (key : A → ℕ) (xs : List A) → AllPairs (λ a b. key a < key b) xs → (i j : ℕ) (d : A) → i ≤ j → j < length xs → key (get_or xs i d) ≤ key (get_or xs j d)
rising_at key xs up i j d h l = elim (cases_lt i j) [
  | inl p ↦ (let q : key (get_or xs i d) < key (get_or xs j d) = up i j d p l in omega arith)
  | inr p ↦ (let same : i ≡ j = omega arith in let q : key (get_or xs i d) ≡ key (get_or xs j d) = ap (λ k. key (get_or xs k d)) same in omega arith)
]

pub parted_by : {A : Type 0} (key : A → ℕ) (k : ℕ) (xs : List A) → AllPairs (λ a b. key a < key b) xs → IsPartitionedBy (λ x. nat_lt (key x) k) xs
parted_by key k xs up i j d h l t =
    let le : key (get_or xs i d) ≤ key (get_or xs j d) = rising_at key xs up i j d h l in
    let lt : key (get_or xs j d) < k = grind (arith, nat_tests) in
    let lt' : key (get_or xs i d) < k = omega arith in grind (arith, nat_tests)

below_key : (a k : ℕ) → nat_lt a k ≡ true → (a == k) ≡ false
below_key a k t = grind (arith, nat_tests)

-- the row of a key is at the point, or nowhere
pub key_found : {A : Type 0} (key : A → ℕ) (k : ℕ) (xs : List A) (n : ℕ) (d : A) → n < length xs → IsPartitionPoint (λ x. nat_lt (key x) k ≡ true) (λ x. nat_lt (key x) k ≡ false) xs n
    → key (get_or xs n d) ≡ k → position (λ x. key x == k) xs ≡ Some n
key_found key k xs n d h point e =
    is_at (λ x. key x == k) xs n d h (grind (arith, nat_tests)) (λ i l. below_key (key (get_or xs i d)) k (point.0 i d (omega arith) l))

pub key_other : {A : Type 0} (key : A → ℕ) (k : ℕ) (xs : List A) (n : ℕ) (d : A) → AllPairs (λ a b. key a < key b) xs
    → IsPartitionPoint (λ x. nat_lt (key x) k ≡ true) (λ x. nat_lt (key x) k ≡ false) xs n → (n < length xs → key (get_or xs n d) ≢ k) → position (λ x. key x == k) xs ≡ None
key_other key k xs n d up point ne =
    is_nowhere (λ x. key x == k) xs d (λ i l. elim (cases_lt i n) [
      | inl lt ↦ below_key (key (get_or xs i d)) k (point.0 i d (omega arith) lt)
      | inr ge ↦ (let inside : n < length xs = omega arith in
          let other : key (get_or xs n d) ≢ k = ne inside in
          let no : nat_lt (key (get_or xs n d)) k ≡ false = point.1 n d (omega arith) inside in
          over (key (get_or xs n d)) (key (get_or xs i d)) other no (rising_at key xs up n i d ge l))
    ])
  where
    over : (a b : ℕ) → a ≢ k → nat_lt a k ≡ false → a ≤ b → (b == k) ≡ false
    over a b ne f le = let g : k ≤ a = grind (arith, nat_tests) in let h : k < b = (omega arith) in grind (arith, nat_tests)
