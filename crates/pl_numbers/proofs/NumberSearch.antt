-- The number of a column on a day, found by keys.
use Rattle.std.proofs.Common.{◌≡◌, ℕ, ◌-◌, ◌<◌, ◌≤◌, ◌^◌, nat_le, true, false, ℤ, pos, negsuc, ◌≤ℤ◌, ◌<ℤ◌, List, [], length, map, get_or, Option, Some, None, option_map, unwrap_or, slice_get, neg_ℤ, FitsSigned, w32, refl, sym, ap, ◌∙◌, arith, inl, inr}
use Rattle.std.specs.Prelude.{Contains}
use Rattle.std.proofs.lemmas.Int.{ints}
use Rattle.std.proofs.lemmas.Bool.{cases_lt}
use Rattle.std.proofs.lemmas.Bool.Decides.{nat_tests}
use Rattle.std.proofs.lemmas.Option.{get_or_from_slice_get, slice_get_within}
use Rattle.pl_calendar.specs.Days.{AreDays}
use Rattle.pl_spec.specs.Dates.{IsDay}
use Rattle.pl_spec.specs.Numbers.{NumberRow, NumbersOnce, is_number_of, read_of}
use Rattle.pl_spec.specs.Rounding.{MISSING}
use Rattle.pl_spec.proofs.Places.{rising_at}
use Rattle.pl_assets.specs.LabelPlaces.{key}
use Rattle.pl_assets.proofs.FirstSeen.{one_place}
use Rattle.pl_assets.proofs.LabelOrder.{keys_back, keys_between, keys_rise}
use Rattle.pl_assets.proofs.Dated.{by-tells, contains_mapped, mapped_contains, once-mapped}
use Rattle.std.proofs.lemmas.List.{get_or_default}
use Rattle.pl_spec.specs.Parts.{ColumnNumber}
use Rattle.pl_spec.specs.declared.Figure.{Figure}
use Rattle.pl_spec.specs.declared.Figure.TheVariants as figure
use Rattle.pl_numbers.specs.Numbers.{bare, by_column, known_on, number_on}
use Rattle.pl_numbers.specs.NumberPlaces.{AllLow, IsNewest, IsPlace, IsTable, KeyPoint, Rise, key_of, row_at, shown_rows}
use Rattle.pl_numbers.specs.declared.rows.Place.{Place}
use Rattle.pl_numbers.specs.declared.rows.NumberRows.{NumberRows}
use Rattle.pl_numbers.proofs.NumberKeys.{numbers, numbers_said}
use Rattle.pl_numbers.proofs.NumberTables.{are_numbers}
use Rattle.pl_numbers.proofs.NumbersFound.{last_found, last_none}

blank : Place
blank = record { name = 0; col = 0; known = pos 0; value = pos 0 }

blank_row : ColumnNumber
blank_row = record { name = []; col = 0; known = pos 0; value = pos 0 }

-- the row is of the name and the column, and was known by the day
pub record IsOf (number col : ℕ) (day : ℤ) (p : Place) : Type 0 where
  pub same_name : p.name ≡ number
  pub same_col : p.col ≡ col
  pub by_then : p.known ≤ℤ day

module _ (t : NumberRows) (table : IsTable t) where
  seen_row : Place → NumberRow
  seen_row p = by_column (row_at t.names p)

  is_place : (q : Place) → Contains t.places.items q → IsPlace t.names q
  is_place q h = rw h.2 at (table.places h.0 q h.1)

  there : (p : Place) → Contains t.places.items p → Contains (map by_column (shown_rows t)) (seen_row p)
  unfolding seen_row
  there p h = contains_mapped by_column (shown_rows t) (row_at t.names p) (contains_mapped (row_at t.names) t.places.items p h)

  from_place : (q : NumberRow) → Contains (map by_column (shown_rows t)) q → (p : Place) × Contains t.places.items p × (seen_row p ≡ q)
  unfolding seen_row
  from_place q h =
      let first = mapped_contains by_column (shown_rows t) q blank_row h in
      let second = mapped_contains (row_at t.names) t.places.items first.0 blank first.1 in
      (second.0, second.1, ap by_column second.2 ∙ first.2)

  rows_once : NumbersOnce (map by_column (shown_rows t))
  rows_once = once-mapped numbers numbers_said by_column (λ r. (refl, refl, refl)) blank_row (shown_rows t) (are_numbers t table).once

  module _ (number col : ℕ) (day : ℤ) (inside : number < length t.names) (small : col < 2 ^ 64) (fits : FitsSigned w32 day) where
    abbrev WasKnown : Place → Type 0
    WasKnown p = IsOf number col day p

    is_row : (p : Place) → WasKnown p → is_number_of (get_or t.names number []) col day (seen_row p) ≡ true
    unfolding seen_row
    is_row p h = (by-tells numbers_said (get_or t.names number []) col day (seen_row p)).1 (ap (λ n. get_or t.names n []) h.same_name, h.same_col, h.by_then)

    row_is : (p : Place) → Contains t.places.items p → is_number_of (get_or t.names number []) col day (seen_row p) ≡ true → WasKnown p
    unfolding seen_row
    row_is p h e =
        let it = (by-tells numbers_said (get_or t.names number []) col day (seen_row p)).0 e in
        record { same_name = one_place t.names p.name number table.names (is_place p h).name inside it.0; same_col = it.1; by_then = it.2 }

    low_key : (q : Place) → Contains t.places.items q → WasKnown q → key_of q ≤ key number col day
    low_key q h s =
        let n : q.name ≡ number = s.same_name in
        let c : q.col ≡ col = s.same_col in
        let le : key number col q.known ≤ key number col day = keys_rise number col q.known day (is_place q h).day fits s.by_then in
        rw (n, c) le

    -- none was known
    pub no_newest : ((q : Place) → Contains t.places.items q → WasKnown q → ⊥) → IsNewest t number col day None
    no_newest none =
        sym (last_none (map by_column (shown_rows t)) (get_or t.names number []) col day
        (λ q in_rows e. let it = from_place q in_rows in none it.0 it.1 (row_is it.0 it.1 (ap (is_number_of (get_or t.names number []) col day) it.2 ∙ e))))

    module _ (n : ℕ) (within : n ≤ length t.places.items) (point : KeyPoint t.places.items (key number col day) n) where
      -- its place is below the point
      before_point : (q : Place) → Contains t.places.items q → WasKnown q → (i : ℕ) × (i < n) × (get_or t.places.items i q ≡ q)
      before_point q h s = elim (cases_lt h.0 n) [
        | inl lt ↦ (h.0, lt, h.2)
        | inr ge ↦ absurd (above (point.1 h.0 q ge h.1))
      ]
        where
          above : nat_le (key_of (get_or t.places.items h.0 q)) (key number col day) ≡ false → ⊥
          above f =
              let g : nat_le (key_of q) (key number col day) ≡ false = ap (λ x. nat_le (key_of x) (key number col day)) (sym h.2) ∙ f in
              let le : key_of q ≤ key number col day = low_key q h s in
              grind (arith, nat_tests)

      pub none_before : n ≡ 0 → (q : Place) → Contains t.places.items q → WasKnown q → ⊥
      none_before e q h s = let it = before_point q h s in omega (arith, it.1, e)

      module _ (p : Place) (some : 0 < n) (at : get_or t.places.items (n - 1) p ≡ p) where
        here : Contains t.places.items p
        here = (n - 1, omega arith, at)

        p_low : key_of p ≤ key number col day
        p_low =
            let f : nat_le (key_of (get_or t.places.items (n - 1) p)) (key number col day) ≡ true = point.0 (n - 1) p (omega arith) (omega arith) in
            let g : nat_le (key_of p) (key number col day) ≡ true = ap (λ x. nat_le (key_of x) (key number col day)) (sym at) ∙ f in
            grind (arith, nat_tests)

        -- no row that was known stands after it
        not_after : (q : Place) → Contains t.places.items q → WasKnown q → key_of q ≤ key_of p
        not_after q h s =
            let it = before_point q h s in
            let le : key_of (get_or t.places.items it.0 p) ≤ key_of (get_or t.places.items (n - 1) p) = rising_at key_of t.places.items table.rise it.0 (n - 1) p (omega (arith, it.1)) (omega arith) in
            let low : get_or t.places.items it.0 p ≡ q = get_or_default t.places.items it.0 p q (omega (arith, it.1, within)) ∙ it.2 in
            rw (low, at) at le

        pub other_before : (p.name ≡ number → p.col ≡ col → ⊥) → (q : Place) → Contains t.places.items q → WasKnown q → ⊥
        other_before other q h s =
            let a : q.name ≡ number = s.same_name in
            let b : q.col ≡ col = s.same_col in
            let of_p = is_place p here in
            let of_q = is_place q h in
            let first : key number col q.known ≤ key_of p = (let le : key_of q ≤ key_of p = not_after q h s in rw (a, b) at le) in
            let same = keys_between number col q.known p.name p.col p.known day small (let c : p.col < 2 ^ 32 = of_p.col in omega arith) of_q.day of_p.day fits first p_low in
            other same.0 same.1

        pub known_by_then : p.name ≡ number → p.col ≡ col → p.known ≤ℤ day
        known_by_then a b =
            let own_key : key number col p.known ≤ key number col day = (let le : key_of p ≤ key number col day = p_low in rw (a, b) at le) in
            keys_back number col p.known day (is_place p here).day fits own_key

        pub newest_found : p.name ≡ number → p.col ≡ col → IsNewest t number col day (Some p)
        unfolding seen_row
        newest_found a b =
            sym (last_found (map by_column (shown_rows t)) (get_or t.names number []) col day rows_once (seen_row p) (there p here) (is_row p was_known) latest)
          where
            was_known : WasKnown p
            was_known = record { same_name = a; same_col = b; by_then = known_by_then a b }

            latest : (q : NumberRow) → Contains (map by_column (shown_rows t)) q → is_number_of (get_or t.names number []) col day q ≡ true → q.known ≤ℤ p.known
            latest q in_rows e =
                let it = from_place q in_rows in
                let s : WasKnown it.0 = row_is it.0 it.1 (ap (is_number_of (get_or t.names number []) col day) it.2 ∙ e) in
                let le : key_of it.0 ≤ key_of p = not_after it.0 it.1 s in
                let c : it.0.name ≡ number = s.same_name in
                let d : it.0.col ≡ col = s.same_col in
                let between : key number col it.0.known ≤ key number col p.known = (rw (c, d, a, b) at le) in
                let back : it.0.known ≤ℤ p.known = keys_back number col it.0.known p.known (is_place it.0 it.1).day (is_place p here).day between in
                rw (ap (λ (x : NumberRow). x.known) it.2) at back

-- ---- what is asked of the row that was known last

read_bare : (f : Figure) (day : ℤ) (r : NumberRow) → read_of f day (bare r.value r.known) ≡ read_of f day r
read_bare figure.Value day r = refl
read_bare figure.Days day r = refl
read_bare figure.BusinessDays day r = refl

pub newest_value : (f : Figure) (t : NumberRows) (number col : ℕ) (day : ℤ) (place : Option Place) → IsNewest t number col day place
    → unwrap_or (option_map (λ p. read_of f day (bare p.value p.known)) place) MISSING ≡ number_on f (shown_rows t) (get_or t.names number []) col day
unfolding number_on
newest_value f t number col day None e = ap (λ o. unwrap_or (option_map (read_of f day) o) MISSING) e
newest_value f t number col day (Some p) e = read_bare f day (by_column (row_at t.names p)) ∙ ap (λ o. unwrap_or (option_map (read_of f day) o) MISSING) e

pub newest_known : (t : NumberRows) (number col : ℕ) (day : ℤ) (place : Option Place) → IsNewest t number col day place
    → option_map (λ p. p.known) place ≡ known_on (shown_rows t) (get_or t.names number []) col day
unfolding known_on
newest_known t number col day None e = ap (λ o. option_map (λ (r : NumberRow). r.known) o) e
newest_known t number col day (Some p) e = ap (λ o. option_map (λ (r : NumberRow). r.known) o) e

-- ---- going on from a place

-- from a place on whose row has a greater key, all have
pub point_here : (places : List Place) (k n : ℕ) (d : Place) → Rise places → AllLow places k n → n < length places → nat_le (key_of (get_or places n d)) k ≡ false → KeyPoint places k n
point_here places k n d up low inside high = (
  λ i x z l. (let le : key_of (get_or places i x) ≤ k = low i x l in grind (arith, nat_tests)),
  λ i x g l. (let first : nat_le (key_of (get_or places n x)) k ≡ false = ap (λ p. nat_le (key_of p) k) (get_or_default places n x d inside) ∙ high in
      let le : key_of (get_or places n x) ≤ key_of (get_or places i x) = rising_at key_of places up n i x g l in
      grind (arith, nat_tests)),
)

-- what lies below a point has no key greater than a later day's
pub low_later : (places : List Place) (name col : ℕ) (day later : ℤ) (n : ℕ) → FitsSigned w32 day → FitsSigned w32 later → day ≤ℤ later → KeyPoint places (key name col day) n → AllLow places (key name col later) n
low_later places name col day later n f g h point i d l =
    let t : nat_le (key_of (get_or places i d)) (key name col day) ≡ true = point.0 i d (omega arith) l in
    let le : key_of (get_or places i d) ≤ key name col day = grind (arith, nat_tests) in
    let up : key name col day ≤ key name col later = keys_rise name col day later f g h in
    omega (arith, le, up)

-- ---- days of sessions

pub fits_day : (day : ℤ) → IsDay day → FitsSigned w32 day
fits_day (pos n) h = let last : pos n ≤ℤ pos 84005 = h.last in record { sfits = omega (arith, ints) }
fits_day (negsuc n) h = let first : neg_ℤ (pos 25567) ≤ℤ negsuc n = h.first in record { sfits = omega (arith, ints) }

-- the day of a session
pub day_fits : (days : List ℤ) → AreDays days → (i : ℕ) (day : ℤ) → slice_get days i ≡ Some day → FitsSigned w32 day
day_fits days h i day e =
    let at : get_or days i day ≡ day = get_or_from_slice_get days i day day e in
    fits_day day (rw at at (h.dates i day (slice_get_within days i day e)))

pub days_stand : (days : List ℤ) → AreDays days → (i j : ℕ) (day later : ℤ) → i < j → slice_get days i ≡ Some day → slice_get days j ≡ Some later → day ≤ℤ later
days_stand days h i j day later lt e f =
    let up : get_or days i day <ℤ get_or days j day = h.ascend i j day lt (slice_get_within days j later f) in
    let low : get_or days i day ≡ day = get_or_from_slice_get days i day day e in
    let high : get_or days j day ≡ later = get_or_from_slice_get days j later day f in
    let rise : day <ℤ later = rw (low, high) at up in
    before day later rise
  where
    before : (x y : ℤ) → x <ℤ y → x ≤ℤ y
    before x y l = omega (arith, ints)
