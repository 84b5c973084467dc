-- The order of rows of labels by their keys.
use native.Mathlib.Numerals.{unary_clauses}
use Rattle.std.proofs.Common.{AllPairs, ◌≡◌, ℕ, zero, suc, ◌+◌, ◌*◌, ◌-◌, ◌<◌, ◌≤◌, ◌^◌, nat_le, true, false, ℤ, pos, ◌+ℤ◌, ◌≤ℤ◌, List, [], ◌∷◌, ◌++◌, length, get_or, All, Some, None, FitsSigned, w32, refl, sym, ap, ◌∙◌, arith, inl, inr, length-append, unsigned_abs, option_map, unwrap_or}
use Rattle.std.specs.Prelude.{Contains}
use Rattle.std.specs.List.Sorted.{IsPartitionedBy}
use Rattle.std.proofs.Math.Seq.{get_or-append_seam}
use Rattle.std.proofs.lemmas.Int.{ints}
use Rattle.std.proofs.lemmas.Bool.{cases_lt}
use Rattle.std.proofs.lemmas.Bool.Decides.{nat_tests}
use Rattle.std.proofs.lemmas.List.{get_or_append_left, get_or_default}
use Rattle.std.proofs.lemmas.List.Sorted.{All-permutation, Contains-permutation}
use Rattle.std.proofs.lemmas.Option.{slice_get-get_or}
use Rattle.pl_records.specs.Sorted.{HasOwnKeys, sorted_by}
use Rattle.pl_records.proofs.Sorts.{sorted-rises, sorted-permutes}
use Rattle.pl_spec.proofs.Places.{rising_at}
use Rattle.pl_spec.proofs.Signed.{pos-unsigned_abs, from_first, to_last}
use Rattle.pl_assets.specs.LabelPlaces.{HasStarted, IsLastStarted, IsOrder, IsPlace, KeyPoint, key, key_at, key_of, numbers}
use Rattle.pl_assets.specs.declared.labels.rows.Place.{Place}

-- ---- the number of a day

day_at : ℤ → ℕ
day_at d = unsigned_abs (d +ℤ pos (2 ^ 31))

day_is : (d : ℤ) → FitsSigned w32 d → pos (day_at d) ≡ d +ℤ pos (2 ^ 31)
unfolding day_at
day_is d h = pos-unsigned_abs (d +ℤ pos (2 ^ 31)) (from_first d h)

day_small : (d : ℤ) → FitsSigned w32 d → day_at d < 2 ^ 32
day_small d h = let e : pos (day_at d) ≡ d +ℤ pos (2 ^ 31) = day_is d h in let l : (d +ℤ pos (2 ^ 31)) ≤ℤ pos (2 ^ 32 - 1) = to_last d h in omega (arith, ints)

days_rise : (d e : ℤ) → FitsSigned w32 d → FitsSigned w32 e → d ≤ℤ e → day_at d ≤ day_at e
days_rise d e f g h =
    let p : pos (day_at d) ≡ d +ℤ pos (2 ^ 31) = day_is d f in
    let q : pos (day_at e) ≡ e +ℤ pos (2 ^ 31) = day_is e g in omega (arith, ints)

days_back : (d e : ℤ) → FitsSigned w32 d → FitsSigned w32 e → day_at d ≤ day_at e → d ≤ℤ e
days_back d e f g h =
    let p : pos (day_at d) ≡ d +ℤ pos (2 ^ 31) = day_is d f in
    let q : pos (day_at e) ≡ e +ℤ pos (2 ^ 31) = day_is e g in omega (arith, ints)

-- ---- keys

-- what lies between two keys of one name and column is of these too
between : (n c a b m k : ℕ) (d e f : ℕ) → c < 2 ^ 64 → k < 2 ^ 64 → d < 2 ^ 32 → e < 2 ^ 32 → f < 2 ^ 32
    → n * 2 ^ 96 + c * 2 ^ 32 + d ≤ m * 2 ^ 96 + k * 2 ^ 32 + e → m * 2 ^ 96 + k * 2 ^ 32 + e ≤ n * 2 ^ 96 + c * 2 ^ 32 + f → (m ≡ n) × (k ≡ c)
between n c a b m k d e f small_c small_k small_d small_e small_f low high = (omega arith, omega arith)

pub same_key : (n c : ℕ) (x : ℤ) (m k : ℕ) (y : ℤ) → c < 2 ^ 32 → k < 2 ^ 64 → FitsSigned w32 x → FitsSigned w32 y → key n c x ≡ key m k y → (n ≡ m) × (c ≡ k) × (x ≡ y)
unfolding day_at
same_key n c x m k y small_c small_k fits_x fits_y e =
    let a : day_at x < 2 ^ 32 = day_small x fits_x in
    let b : day_at y < 2 ^ 32 = day_small y fits_y in
    let p : pos (day_at x) ≡ x +ℤ pos (2 ^ 31) = day_is x fits_x in
    let q : pos (day_at y) ≡ y +ℤ pos (2 ^ 31) = day_is y fits_y in
    let same = between m k (day_at y) (day_at y) n c (day_at y) (day_at x) (day_at y) small_k (omega arith) b a b (omega (arith, e)) (omega (arith, e)) in
    let days : day_at x ≡ day_at y = omega (arith, e, same.0, same.1) in
    (same.0, same.1, omega (arith, ints))

-- what lies between two keys of one name and column is of these too
pub keys_between : (n c : ℕ) (x : ℤ) (m k : ℕ) (y z : ℤ) → c < 2 ^ 64 → k < 2 ^ 64 → FitsSigned w32 x → FitsSigned w32 y → FitsSigned w32 z → key n c x ≤ key m k y → key m k y ≤ key n c z → (m ≡ n) × (k ≡ c)
unfolding day_at
keys_between n c x m k y z small_c small_k fits_x fits_y fits_z low high =
    between n c (day_at x) (day_at z) m k (day_at x) (day_at y) (day_at z) small_c small_k (day_small x fits_x) (day_small y fits_y) (day_small z fits_z) low high

-- of one name and column the keys stand as the days
pub keys_rise : (n c : ℕ) (x y : ℤ) → FitsSigned w32 x → FitsSigned w32 y → x ≤ℤ y → key n c x ≤ key n c y
unfolding day_at
keys_rise n c x y fits_x fits_y h = let days : day_at x ≤ day_at y = days_rise x y fits_x fits_y h in omega arith

pub keys_back : (n c : ℕ) (x y : ℤ) → FitsSigned w32 x → FitsSigned w32 y → key n c x ≤ key n c y → x ≤ℤ y
unfolding day_at
keys_back n c x y fits_x fits_y h = days_back x y fits_x fits_y (omega arith)

pub key_there : (places : List Place) (i : ℕ) (d : Place) → i < length places → key_at places i ≡ key_of (get_or places i d)
unfolding key_at
key_there places i d h = ap (λ o. unwrap_or (option_map key_of o) 0) (slice_get-get_or places i d h)

blank : Place
blank = record { name = 0; col = 0; start = pos 0; code = None }

-- ---- the numbers of all rows

pub length-numbers : (n : ℕ) → length (numbers n) ≡ n
unfolding numbers
length-numbers zero = refl
length-numbers (suc n) = omega (arith, length-append (numbers n) (n ∷ []), length-numbers n)

pub numbers_more : (n : ℕ) → numbers n ++ n ∷ [] ≡ numbers (n + 1)
unfolding numbers
numbers_more n = simp unary_clauses refl

get_or-numbers : (n k d : ℕ) → k < n → get_or (numbers n) k d ≡ k
unfolding numbers
get_or-numbers zero k d h = absurd (omega arith)
get_or-numbers (suc n) k d h = elim (cases_lt k n) [
  | inl l ↦ get_or_append_left (numbers n) (n ∷ []) d k (omega (arith, length-numbers n)) ∙ get_or-numbers n k d l
  | inr g ↦ (let same : k ≡ n = omega arith in
      let last : get_or (numbers n ++ n ∷ []) (length (numbers n)) d ≡ n = get_or-append_seam (numbers n) n [] d in
      ap (λ i. get_or (numbers n ++ n ∷ []) i d) (same ∙ sym (length-numbers n)) ∙ last ∙ sym same)
]

all_numbers : (n : ℕ) → All (λ i. i < n) (numbers n)
all_numbers n k d h = let inside : k < n = omega (arith, length-numbers n) in rw (get_or-numbers n k d inside) inside

each_number : (n i : ℕ) → i < n → Contains (numbers n) i
each_number n i h = (i, omega (arith, length-numbers n), get_or-numbers n i i h)

pub own_numbers : (places : List Place) → HasOwnKeys key_of places → HasOwnKeys (key_at places) (numbers (length places))
own_numbers places own =
    record {
      apart = λ i j d h l same. (let inside : j < length places = omega (arith, l, length-numbers (length places)) in
          own.apart i j blank h inside (sym (its_key i d (omega arith)) ∙ same ∙ its_key j d inside));
    }
  where
    its_key : (k d : ℕ) → k < length places → key_at places (get_or (numbers (length places)) k d) ≡ key_of (get_or places k blank)
    its_key k d l = ap (key_at places) (get_or-numbers (length places) k d l) ∙ key_there places k blank l

pub order_made : (places : List Place) (order : List ℕ) → HasOwnKeys key_of places → order ≡ sorted_by (key_at places) (numbers (length places)) → IsOrder places (length places) order
order_made places order own sorted =
    rw sorted record {
      ascend = sorted-rises (key_at places) (numbers (length places)) (own_numbers places own);
      within = All-permutation (λ i. i < length places) (numbers (length places)) _ (sorted-permutes (key_at places) (numbers (length places))) (all_numbers (length places));
      all = λ i h. Contains-permutation (numbers (length places)) _ i (sorted-permutes (key_at places) (numbers (length places))) (each_number (length places) i h);
    }

-- ---- places in the order

pub parted : {A : Type 0} (rank : A → ℕ) (k : ℕ) (xs : List A) → AllPairs (λ x y. rank x < rank y) xs → IsPartitionedBy (λ x. nat_le (rank x) k) xs
parted rank k xs up i j d h l t =
    let le : rank (get_or xs i d) ≤ rank (get_or xs j d) = rising_at rank xs up i j d h l in
    let low : rank (get_or xs j d) ≤ k = grind (arith, nat_tests) in
    let both : rank (get_or xs i d) ≤ k = omega arith in grind (arith, nat_tests)

-- ---- the row that started last

module _ (places : List Place) (order : List ℕ) (names texts : List (List ℕ)) (all : All (IsPlace names texts) places) (sorted : IsOrder places (length places) order) (name col : ℕ) (day : ℤ) (small : col < 2 ^ 64) (fits : FitsSigned w32 day) (n : ℕ) (point : KeyPoint places (key name col day) order n) where
  is_place : (q : Place) → Contains places q → IsPlace names texts q
  is_place q h = rw h.2 at (all h.0 q h.1)

  not_above : (q : Place) → Contains places q → HasStarted name col day q → key_of q ≤ key name col day
  unfolding day_at
  not_above q h s =
      let days : day_at q.start ≤ day_at day = days_rise q.start day (is_place q h).day fits s.started in
      let a : q.name ≡ name = s.same_name in
      let b : q.col ≡ col = s.same_col in omega arith

  -- its place in the order
  place_of : (q : Place) → Contains places q → (j : ℕ) × (j < length order) × (key_at places (get_or order j 0) ≡ key_of q)
  place_of q h =
      let it = sorted.all h.0 h.1 in
      (it.0, it.1, ap (key_at places) (get_or_default order it.0 0 h.0 it.1 ∙ it.2) ∙ key_there places h.0 q h.1 ∙ ap key_of h.2)

  before_point : (q : Place) → Contains places q → HasStarted name col day q → (j : ℕ) × (j < n) × (j < length order) × (key_at places (get_or order j 0) ≡ key_of q)
  before_point q h s =
      let it = place_of q h in
      elim (cases_lt it.0 n) [
        | inl l ↦ (it.0, l, it.1, it.2)
        | inr g ↦ absurd (above it.0 (point.1 it.0 0 g it.1) it.2)
      ]
    where
      above : (j : ℕ) → nat_le (key_at places (get_or order j 0)) (key name col day) ≡ false → key_at places (get_or order j 0) ≡ key_of q → ⊥
      above j t e = let le : key_of q ≤ key name col day = not_above q h s in let t' : nat_le (key_of q) (key name col day) ≡ false = rw e at t in grind (arith, nat_tests)

  pub none_started : n ≡ 0 → (q : Place) → Contains places q → HasStarted name col day q → ⊥
  none_started e q h s = let it = before_point q h s in omega (arith, it.1)

  module _ (p : Place) (inside : 0 < n) (within : n ≤ length order) (at : p ≡ get_or places (get_or order (n - 1) 0) p) where
    known : get_or order (n - 1) 0 < length places
    known = sorted.within (n - 1) 0 (omega arith)

    there : Contains places p
    there = (get_or order (n - 1) 0, known, sym at)

    its_key : key_at places (get_or order (n - 1) 0) ≡ key_of p
    its_key = key_there places (get_or order (n - 1) 0) p known ∙ ap key_of (sym at)

    low : key_of p ≤ key name col day
    low = let t : nat_le (key_of p) (key name col day) ≡ true = rw its_key at (point.0 (n - 1) 0 (omega arith) (omega arith)) in grind (arith, nat_tests)

    not_later : (q : Place) → Contains places q → HasStarted name col day q → key_of q ≤ key_of p
    not_later q h s =
        let it = before_point q h s in
        let le : key_at places (get_or order it.0 0) ≤ key_at places (get_or order (n - 1) 0) = rising_at (key_at places) order sorted.ascend it.0 (n - 1) 0 (omega (arith, it.1)) (omega arith) in
        rw (← it.3, ← its_key) le

    pub other_started : (p.name ≡ name → p.col ≡ col → ⊥) → (q : Place) → Contains places q → HasStarted name col day q → ⊥
    unfolding day_at
    other_started other q h s =
        let of_q = is_place q h in
        let of_p = is_place p there in
        let a : q.name ≡ name = s.same_name in
        let b : q.col ≡ col = s.same_col in
        let first : key_of q ≤ key_of p = not_later q h s in
        let same = between name col (day_at q.start) (day_at p.start) p.name p.col (day_at q.start) (day_at p.start) (day_at day) small (let c : p.col < 2 ^ 32 = of_p.col in omega arith)
        (day_small q.start of_q.day) (day_small p.start of_p.day) (day_small day fits) (rw (a, b) at first) low in
        other same.0 same.1

    has_started : p.name ≡ name → p.col ≡ col → HasStarted name col day p
    unfolding day_at
    has_started a b =
        record {
          same_name = a;
          same_col = b;
          started = days_back p.start day (is_place p there).day fits (let l : key_of p ≤ key name col day = low in omega arith);
        }

    started_last : p.name ≡ name → p.col ≡ col → (q : Place) → Contains places q → HasStarted name col day q → q.start ≤ℤ p.start
    unfolding day_at
    started_last a b q h s =
        let first : key_of q ≤ key_of p = not_later q h s in
        let e : q.name ≡ name = s.same_name in
        let f : q.col ≡ col = s.same_col in
        days_back q.start p.start (is_place q h).day (is_place p there).day (omega arith)

    pub found_last : p.name ≡ name → p.col ≡ col → IsLastStarted places name col day (Some p)
    found_last a b = (there, has_started a b, started_last a b)
