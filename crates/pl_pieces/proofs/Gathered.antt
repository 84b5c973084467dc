-- The rows of each asset, gathered asset by asset.
use Rattle.std.proofs.Common.{◌≡◌, ℕ, zero, suc, ◌+◌, ◌<◌, ◌≤◌, ◌==◌, not, Bool, true, false, cond, List, [], ◌∷◌, ◌++◌, filter, length, get_or, All, AllPairs, Some, None, refl, sym, ◌∙◌, ap, arith, append-nil, length-append, eq-eqb, eqb-true}
use Rattle.std.specs.List.{flat_map}
use Rattle.std.proofs.lemmas.Bool.{ne_eqb}
use Rattle.std.proofs.lemmas.List.Elements.{filter-append}
use Rattle.pl_spec.specs.declared.AssetRow.{AssetRow}
use Rattle.pl_spec.proofs.Lists.{filter-filter}
use Rattle.pl_lifetimes.specs.Assets.{HasSid}

abbrev ascend : List AssetRow → Type 0
ascend assets = AllPairs (λ a b. a.sid < b.sid) assets

rest-ascend : (a : AssetRow) (rest : List AssetRow) → ascend (a ∷ rest) → ascend rest
rest-ascend a rest up i j d m l = up (suc i) (suc j) d (omega arith) (omega arith)

first-less : (a : AssetRow) (rest : List AssetRow) → ascend (a ∷ rest) → All (λ b. a.sid < b.sid) rest
first-less a rest up k d l = up 0 (suc k) d (omega arith) (omega arith)

-- ---- the assets of a sid

pub none-of : (sid : ℕ) (assets : List AssetRow) → All (λ b. (b.sid == sid) ≡ false) assets → filter (λ b. b.sid == sid) assets ≡ []
none-of sid [] h = refl
none-of sid (b ∷ bs) h = rw (h 0 b (omega arith)) (none-of sid bs (λ k d l. h (suc k) d (omega arith)))

one-of : (assets : List AssetRow) → ascend assets → (sid col : ℕ) → HasSid assets col sid → (a : AssetRow) × (filter (λ b. b.sid == sid) assets ≡ a ∷ []) × (a.sid ≡ sid)
one-of [] up sid col h = absurd (let bad : None ≡ Some sid = h in cc)
one-of (a ∷ rest) up sid zero h =
    let same : a.sid ≡ sid = (let e : Some a.sid ≡ Some sid = h in cc) in
    let others : All (λ b. (b.sid == sid) ≡ false) rest = λ k d l. ne_eqb _ _ (λ e. let less : a.sid < (get_or rest k d).sid = first-less a rest up k d l in let eq : (get_or rest k d).sid ≡ sid = e in omega arith) in
    (a, rw (eq-eqb a.sid sid same) (ap (λ l. a ∷ l) (none-of sid rest others)), same)
one-of (a ∷ rest) up sid (suc col) h =
    let it = one-of rest (rest-ascend a rest up) sid col h in
    let other : (a.sid == sid) ≡ false = ne_eqb a.sid sid (λ e. differs it.0 it.1 it.2 e) in
    (it.0, rw other it.1, it.2)
  where
    differs : (b : AssetRow) → filter (λ c. c.sid == sid) rest ≡ b ∷ [] → b.sid ≡ sid → a.sid ≡ sid → ⊥
    differs b is same e =
        let none : filter (λ c. c.sid == sid) rest ≡ [] = none-of sid rest (λ k d l. ne_eqb _ _ (λ f. let less : a.sid < (get_or rest k d).sid = first-less a rest up k d l in let eq : (get_or rest k d).sid ≡ sid = f in omega arith)) in
        let bad : [] ≡ b ∷ [] = sym none ∙ is in cc

-- ---- rows of theirs

module _ {A : Type 0} (sid : A → ℕ) (f : AssetRow → List A) (own : (a : AssetRow) → All (λ x. sid x ≡ a.sid) (f a)) where
  kept-of : (s : ℕ) (t : Bool) (a : AssetRow) → (a.sid == s) ≡ t → filter (λ x. sid x == s) (f a) ≡ cond t (f a) []
  kept-of s true a e = all-kept (f a) (own a)
    where
      all-kept : (xs : List A) → All (λ x. sid x ≡ a.sid) xs → filter (λ x. sid x == s) xs ≡ xs
      all-kept [] h = refl
      all-kept (x ∷ xs) h = rw (eq-eqb (sid x) s (h 0 x (omega arith) ∙ eqb-true a.sid s e)) (ap (λ l. x ∷ l) (all-kept xs (λ k d l. h (suc k) d (omega arith))))
  kept-of s false a e = none-kept (f a) (own a)
    where
      none-kept : (xs : List A) → All (λ x. sid x ≡ a.sid) xs → filter (λ x. sid x == s) xs ≡ []
      none-kept [] h = refl
      none-kept (x ∷ xs) h = rw (ap (λ n. n == s) (h 0 x (omega arith)) ∙ e) (none-kept xs (λ k d l. h (suc k) d (omega arith)))

  -- those of a sid are those of its assets
  pub of-sid : (s : ℕ) (assets : List AssetRow) → filter (λ x. sid x == s) (flat_map f assets) ≡ flat_map f (filter (λ a. a.sid == s) assets)
  of-sid s [] = refl
  of-sid s (a ∷ rest) =
      filter-append (λ x. sid x == s) (f a) (flat_map f rest)
      ∙ ap (λ l. l ++ filter (λ x. sid x == s) (flat_map f rest)) (kept-of s (a.sid == s) a refl)
      ∙ ap (λ l. cond (a.sid == s) (f a) [] ++ l) (of-sid s rest)
      ∙ either (a.sid == s)
    where
      either : (t : Bool) → cond t (f a) [] ++ flat_map f (filter (λ b. b.sid == s) rest) ≡ flat_map f (cond t (a ∷ filter (λ b. b.sid == s) rest) (filter (λ b. b.sid == s) rest))
      either true = refl
      either false = refl

  pub of-one-sid : (assets : List AssetRow) → ascend assets → (s col : ℕ) → HasSid assets col s → (a : AssetRow) × (filter (λ x. sid x == s) (flat_map f assets) ≡ f a) × (a.sid ≡ s)
  of-one-sid assets up s col h =
      let it = one-of assets up s col h in
      (it.0, of-sid s assets ∙ ap (flat_map f) it.1 ∙ append-nil (f it.0), it.2)

-- ---- how many they are

apart-length : {A : Type 0} (p : A → Bool) (xs : List A) → length (filter p xs) + length (filter (λ x. not (p x)) xs) ≡ length xs
apart-length p [] = refl
apart-length {A} p (x ∷ xs) = here (p x) (apart-length p xs)
  where
    here : (t : Bool) → length (filter p xs) + length (filter (λ y. not (p y)) xs) ≡ length xs
        → length (cond t (x ∷ filter p xs) (filter p xs)) + length (cond (not t) (x ∷ filter (λ y. not (p y)) xs) (filter (λ y. not (p y)) xs)) ≡ suc (length xs)
    here true e = omega arith
    here false e = omega arith

module _ {A : Type 0} (sid : A → ℕ) where
  abbrev those : List A → AssetRow → List A
  those xs a = filter (λ x. sid x == a.sid) xs

  others : (s : ℕ) (xs : List A) (rest : List AssetRow) → All (λ b. s < b.sid) rest → flat_map (those (filter (λ x. not (sid x == s)) xs)) rest ≡ flat_map (those xs) rest
  others s xs [] h = refl
  others s xs (b ∷ bs) h =
      let above : s < b.sid = h 0 b (omega arith) in
      ap (λ l. l ++ flat_map (those (filter (λ x. not (sid x == s)) xs)) bs)
      (filter-filter (λ x. sid x == b.sid) (λ x. not (sid x == s)) (λ x e. ap not (ne_eqb (sid x) s (λ f. let g : sid x ≡ b.sid = eqb-true (sid x) b.sid e in omega arith))) xs)
      ∙ ap (λ l. those xs b ++ l) (others s xs bs (λ k d l. h (suc k) d (omega arith)))

  -- rows of each asset are no more than all rows
  pub few-gathered : (assets : List AssetRow) → ascend assets → (xs : List A) → length (flat_map (those xs) assets) ≤ length xs
  few-gathered [] up xs = omega arith
  few-gathered (a ∷ rest) up xs =
      let left : List A = filter (λ x. not (sid x == a.sid)) xs in
      let more : length (flat_map (those left) rest) ≤ length left = few-gathered rest (rest-ascend a rest up) left in
      let same : length (flat_map (those left) rest) ≡ length (flat_map (those xs) rest) = ap length (others a.sid xs rest (first-less a rest up)) in
      let all : length (those xs a) + length left ≡ length xs = apart-length (λ x. sid x == a.sid) xs in
      omega (arith, length-append (those xs a) (flat_map (those xs) rest))
