-- The tables of two files behind each other.
use Rattle.std.proofs.Common.{◌≡◌, ℕ, suc, ◌+◌, ◌-◌, ◌*◌, ◌<◌, ◌≤◌, ◌^◌, Bool, true, false, ℤ, Option, Some, None, is_some, take, append_assoc, pos, ◌+ℤ◌, ◌≤ℤ◌, List, [], ◌∷◌, ◌++◌, length, length-append, map, get_or, All, AllPairs, FitsSigned, w32, unsigned_abs, refl, sym, ap, ◌∙◌, arith}
use Rattle.std.specs.List.{list_any, position}
use Rattle.pl_assets.specs.Labels.{with_text}
use Rattle.std.specs.Str.{bytes_eq}
use Rattle.std.proofs.Math.Seq.{get_or-append-add}
use Rattle.std.proofs.lemmas.Int.{ints}
use Rattle.std.proofs.lemmas.List.{get_or_append_left, length-map, length-take, map-append, take_more}
use Rattle.std.proofs.lemmas.List.Elements.{All-append, All-map}
use Rattle.std.proofs.lemmas.List.Folds.{list_any-append, list_any_at}
use Rattle.std.proofs.lemmas.List.Kept.{AllPairs-cons}
use Rattle.pl_spec.specs.Dates.{IsDay}
use Rattle.pl_spec.specs.Limits.{most_numbers}
use Rattle.pl_spec.specs.Parts.{ColumnNumber}
use Rattle.pl_spec.specs.Rounding.{IsCell}
use Rattle.pl_spec.proofs.Signed.{pos-unsigned_abs, from_first, to_last}
use Rattle.pl_records.proofs.RuleTables.{not_true}
use Rattle.pl_assets.proofs.FirstSeen.{Once, equal_text, front_more, same_text}
use Rattle.pl_assets.proofs.TextLists.{any_there, none_there}
use Rattle.pl_numbers.specs.Beside.{both, is_among}
use Rattle.pl_numbers.specs.NumberPlaces.{IsPlace, IsTable, key_of, row_at, shown_rows, table_in}
use Rattle.pl_numbers.specs.BesidePlaces.{moved}
use Rattle.pl_numbers.specs.declared.rows.Place.{Place}
use Rattle.pl_numbers.specs.declared.rows.NumberRows.{NumberRows}

-- ---- lists

pub pairs-append : {X : Type 0} (R : X → X → Type 0) (xs ys : List X) → AllPairs R xs → AllPairs R ys → All (λ x. All (R x) ys) xs → AllPairs R (xs ++ ys)
pairs-append R [] ys p q across = q
pairs-append R (x ∷ xs) ys p q across =
    AllPairs-cons R x (xs ++ ys) (All-append (R x) xs ys (λ k d l. p 0 (suc k) d (omega arith) (omega arith)) (across 0 x (omega arith)))
    (pairs-append R xs ys (λ i j d l m. p (suc i) (suc j) d (omega arith) (omega arith)) q (λ k d l. across (suc k) d (omega arith)))

pairs-map : {X Y : Type 0} (R : Y → Y → Type 0) (f : X → Y) (xs : List X) → AllPairs (λ x y. R (f x) (f y)) xs → AllPairs R (map f xs)
pairs-map R f [] h = λ i j d lt l. absurd (omega arith)
pairs-map R f (x ∷ xs) h =
    AllPairs-cons R (f x) (map f xs) (All-map (R (f x)) f xs (λ k d l. h 0 (suc k) d (omega arith) (omega arith)))
    (pairs-map R f xs (λ i j d lt l. h (suc i) (suc j) d (omega arith) (omega arith)))

-- ---- names

apart : (first other : List (List ℕ)) → list_any (is_among first) other ≡ false → All (λ x. All (λ y. bytes_eq x y ≡ false) other) first
apart first other h i d l j e m = not_true _ (λ same.
    let x = get_or first i d in
    let y = get_or other j e in
    let is : x ≡ y = same_text x y same in
    let there : list_any (bytes_eq y) first ≡ true = list_any_at (bytes_eq y) first i d l (rw is (equal_text y)) in
    let bad : true ≡ false = sym (list_any_at (is_among first) other j e m there) ∙ h in cc)

pub names_once : (first other : List (List ℕ)) → Once first → Once other → list_any (is_among first) other ≡ false → AllPairs (λ x y. bytes_eq x y ≡ false) (first ++ other)
names_once first other f o h = pairs-append (λ x y. bytes_eq x y ≡ false) first other f o (apart first other h)

-- a text has a place exactly where it is among the names
pub found-among : (p : List ℕ → Bool) (xs : List (List ℕ)) (o : Option ℕ) → o ≡ position p xs → is_some o ≡ list_any p xs
found-among p xs None e = sym (none_there p xs (sym e))
found-among p xs (Some n) e = sym (any_there p xs n (sym e))

-- the next of some texts that differ is new among the first ones and among others that have none of them
fresh : (ys : List (List ℕ)) (n : ℕ) → Once ys → n < length ys → list_any (bytes_eq (get_or ys n [])) (take n ys) ≡ false
fresh ys n once l = not_true _ (λ t.
    let same : take n ys ≡ take (n + 1) ys = rw t at (front_more ys n once l) in
    absurd (omega (arith, ap length same, length-take n ys, length-take (n + 1) ys)))

other-text : (xs ys : List (List ℕ)) (n : ℕ) → list_any (is_among xs) ys ≡ false → n < length ys → list_any (bytes_eq (get_or ys n [])) xs ≡ false
other-text xs ys n parted l = not_true _ (λ t. let bad : true ≡ false = sym (list_any_at (is_among xs) ys n [] l t) ∙ parted in absurd (cc))

pub text-joins : (xs ys : List (List ℕ)) (n : ℕ) → Once ys → list_any (is_among xs) ys ≡ false → n < length ys
    → with_text (xs ++ take n ys) (get_or ys n []) ≡ xs ++ take (n + 1) ys
text-joins xs ys n once parted l =
    let new : list_any (bytes_eq (get_or ys n [])) (xs ++ take n ys) ≡ false =
    rw (list_any-append (bytes_eq (get_or ys n [])) xs (take n ys), other-text xs ys n parted l, fresh ys n once l) refl in
    rw new (append_assoc xs (take n ys) (get_or ys n [] ∷ []) ∙ ap (λ zs. xs ++ zs) (sym (take_more ys n [] l)))

-- ---- keys

day_small : (d : ℤ) → FitsSigned w32 d → unsigned_abs (d +ℤ pos (2 ^ 31)) < 2 ^ 32
day_small d h =
    let e : pos (unsigned_abs (d +ℤ pos (2 ^ 31))) ≡ d +ℤ pos (2 ^ 31) = pos-unsigned_abs (d +ℤ pos (2 ^ 31)) (from_first d h) in
    let l : (d +ℤ pos (2 ^ 31)) ≤ℤ pos (2 ^ 32 - 1) = to_last d h in
    omega (arith, ints)

key_moved : (count : ℕ) (p : Place) → key_of (moved count p) ≡ count * 2 ^ 96 + key_of p
key_moved count p = omega arith

key_low : (names : List (List ℕ)) (p : Place) → IsPlace names p → key_of p < length names * 2 ^ 96
key_low names p h =
    let name : p.name < length names = h.name in
    let col : p.col < 2 ^ 32 = h.col in
    let day : unsigned_abs (p.known +ℤ pos (2 ^ 31)) < 2 ^ 32 = day_small p.known h.day in
    omega arith

-- ---- the tables

module _ (first other new : NumberRows) (f : IsTable first) (o : IsTable other) (names : new.names ≡ first.names ++ other.names)
    (places : new.places.items ≡ first.places.items ++ map (moved (length first.names)) other.places.items) where
  abbrev count : ℕ
  count = length first.names

  place_left : (p : Place) → IsPlace first.names p → IsPlace (first.names ++ other.names) p
  place_left p h = record { name = (let small : p.name < length first.names = h.name in omega (arith, length-append first.names other.names)); col = h.col; day = h.day }

  place_right : (p : Place) → IsPlace other.names p → IsPlace (first.names ++ other.names) (moved count p)
  place_right p h = record { name = (let small : p.name < length other.names = h.name in omega (arith, length-append first.names other.names)); col = h.col; day = h.day }

  lefts : (ps : List Place) → All (IsPlace first.names) ps → map (row_at (first.names ++ other.names)) ps ≡ map (row_at first.names) ps
  lefts [] h = refl
  lefts (p ∷ ps) h =
      let here : IsPlace first.names p = h 0 p (omega arith) in
      ap (λ n. record { name = n; col = p.col; known = p.known; value = p.value } ∷ map (row_at (first.names ++ other.names)) ps) (get_or_append_left first.names other.names [] p.name here.name)
      ∙ ap (λ rs. row_at first.names p ∷ rs) (lefts ps (λ k d l. h (suc k) d (omega arith)))

  rights : (ps : List Place) → map (row_at (first.names ++ other.names)) (map (moved count) ps) ≡ map (row_at other.names) ps
  rights [] = refl
  rights (p ∷ ps) =
      ap (λ n. record { name = n; col = p.col; known = p.known; value = p.value } ∷ map (row_at (first.names ++ other.names)) (map (moved count) ps)) (get_or-append-add first.names other.names p.name [])
      ∙ ap (λ rs. row_at other.names p ∷ rs) (rights ps)

  rows_joined : shown_rows new ≡ shown_rows first ++ shown_rows other
  rows_joined =
      rw (names, places) (map-append (row_at (first.names ++ other.names)) first.places.items (map (moved count) other.places.items)
      ∙ ap (λ rs. rs ++ map (row_at (first.names ++ other.names)) (map (moved count) other.places.items)) (lefts first.places.items f.places)
      ∙ ap (λ rs. shown_rows first ++ rs) (rights other.places.items))

  pub table_joined : table_in new ≡ both (table_in first) (table_in other)
  table_joined =
      ap (λ l. record { names = l; rows = shown_rows new }) names
      ∙ ap (λ l. record { names = first.names ++ other.names; rows = l }) rows_joined

  rise : AllPairs (λ p q. key_of p < key_of q) (first.places.items ++ map (moved count) other.places.items)
  rise = pairs-append (λ p q. key_of p < key_of q) first.places.items (map (moved count) other.places.items) f.rise
      (pairs-map (λ p q. key_of p < key_of q) (moved count) other.places.items (λ i j d lt l.
      let p = get_or other.places.items i d in
      let q = get_or other.places.items j d in
      let less : key_of p < key_of q = o.rise i j d lt l in omega (arith, key_moved count p, key_moved count q)))
      (λ k d l. All-map (λ q. key_of (get_or first.places.items k d) < key_of q) (moved count) other.places.items (λ i e m.
      let p = get_or first.places.items k d in
      let q = get_or other.places.items i e in
      omega (arith, key_low first.names p (f.places k d l), key_moved count q)))

  pub joined_table : list_any (is_among first.names) other.names ≡ false → length first.names + length other.names ≤ most_numbers
      → length first.places.items + length other.places.items ≤ most_numbers → IsTable new
  joined_table parted few_names few =
      record {
        places = rw (names, places) (All-append (IsPlace (first.names ++ other.names)) first.places.items (map (moved count) other.places.items)
            (λ k d l. place_left (get_or first.places.items k d) (f.places k d l))
            (All-map (IsPlace (first.names ++ other.names)) (moved count) other.places.items (λ k d l. place_right (get_or other.places.items k d) (o.places k d l))));
        names = rw names (names_once first.names other.names f.names o.names parted);
        rise = rw places rise;
        few = rw places (omega (arith, length-append first.places.items (map (moved count) other.places.items), length-map other.places.items (moved count)));
        few_names = rw names (omega (arith, length-append first.names other.names));
        cells = rw places (All-append (λ (p : Place). IsCell p.value) first.places.items (map (moved count) other.places.items) f.cells
            (All-map (λ (p : Place). IsCell p.value) (moved count) other.places.items o.cells));
        days = rw places (All-append (λ (p : Place). IsDay p.known) first.places.items (map (moved count) other.places.items) f.days
            (All-map (λ (p : Place). IsDay p.known) (moved count) other.places.items o.days));
      }
