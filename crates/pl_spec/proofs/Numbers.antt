-- Numbers are found by what was known, whatever comes later, and in whatever order.
use Rattle.std.proofs.Common.{◌≡◌, ℕ, Bool, true, ℤ, ◌≤ℤ◌, List, filter, find, option_map, unwrap_or, Contains, IsPermutation, ◌↔◌, refl, sym, ◌∙◌, ap, arith}
use Rattle.std.specs.List.{list_all}
use Rattle.std.specs.Int.RustNames.{int_le}
use Rattle.std.proofs.Math.Path.{fun_ext}
use Rattle.std.proofs.lemmas.Int.{ints}
use Rattle.std.proofs.lemmas.Bool.{eq-eqb, eqb-true, and_parts}
use Rattle.std.proofs.lemmas.Slice.Eq.{bytes_eq-Decides}
use Rattle.pl_spec.specs.Rounding.{MISSING}
use Rattle.pl_spec.specs.declared.Figure.{Figure}
use Rattle.pl_spec.specs.Numbers.{NumberRow, last_known, is_number_of, read_of, number_at, numbers_by, NumbersOnce, NumbersAreFound, NumbersLookBack}
use Rattle.pl_spec.proofs.Signed.{int_le-true, le-int_le, le-both}
use Rattle.pl_spec.proofs.Lists.{filter-filter}
use Rattle.pl_spec.proofs.Finds.{find-one, find-none, contains-filter, filter-contains, all-contains, contains-all}
use Rattle.pl_spec.proofs.Permuted.{filter-permuted, find-permuted, list_all-permuted}

abbrev pub is_last : List NumberRow → NumberRow → Bool
is_last rows r = list_all (λ q. int_le q.known r.known) rows

number_of : (name : List ℕ) (a : ℕ) (day : ℤ) (r : NumberRow) → is_number_of name a day r ≡ true → (r.name ≡ name) × (r.sid ≡ a)
number_of name a day r e =
    let front = and_parts _ _ (and_parts _ _ e).0 in
    ((bytes_eq-Decides r.name name).0 front.0, eqb-true r.sid a front.1)

number-counts : (name : List ℕ) (a : ℕ) (day : ℤ) (r : NumberRow) → (is_number_of name a day r ≡ true) ↔ ((r.name ≡ name) × (r.sid ≡ a) × (r.known ≤ℤ day))
number-counts name a day r = (
  λ e. let own = number_of name a day r e in (own.0, own.1, int_le-true r.known day (and_parts _ _ e).1),
  λ h. rw ((bytes_eq-Decides r.name name).1 h.0, eq-eqb r.sid a h.1, le-int_le r.known day h.2) refl,
)

-- of rows of one name and asset no two are known last
pub one_last : (rows : List NumberRow) → NumbersOnce rows → (name : List ℕ) (a : ℕ) (day : ℤ) (x y : NumberRow)
    → Contains (filter (is_number_of name a day) rows) x → Contains (filter (is_number_of name a day) rows) y
    → is_last (filter (is_number_of name a day) rows) x ≡ true → is_last (filter (is_number_of name a day) rows) y ≡ true → x ≡ y
one_last rows once name a day x y in_x in_y last_x last_y =
    let row_x = filter-contains (is_number_of name a day) rows x in_x in
    let row_y = filter-contains (is_number_of name a day) rows y in_y in
    let of_x = number_of name a day x row_x.1 in
    let of_y = number_of name a day y row_y.1 in
    let below : y.known ≤ℤ x.known = int_le-true y.known x.known (all-contains (λ q. int_le q.known x.known) (filter (is_number_of name a day) rows) last_x y in_y) in
    let above : x.known ≤ℤ y.known = int_le-true x.known y.known (all-contains (λ q. int_le q.known y.known) (filter (is_number_of name a day) rows) last_y x in_x) in
    once x y row_x.0 row_y.0 (of_x.0 ∙ sym of_y.0) (of_x.1 ∙ sym of_y.1) (le-both x.known y.known above below)

number-found : (rows : List NumberRow) → NumbersOnce rows → (name : List ℕ) (a : ℕ) (day : ℤ) → (r : NumberRow) → Contains rows r → is_number_of name a day r ≡ true
    → ((q : NumberRow) → Contains rows q → is_number_of name a day q ≡ true → q.known ≤ℤ r.known) → (f : Figure) → number_at f rows name a day ≡ read_of f day r
number-found rows once name a day r h e latest f = ap (λ o. unwrap_or (option_map (read_of f day) o) MISSING) (find-one (is_last us) us r here is_last_one one)
  where
    us : List NumberRow
    us = filter (is_number_of name a day) rows

    here : Contains us r
    here = contains-filter (is_number_of name a day) rows r h e

    is_last_one : is_last us r ≡ true
    is_last_one =
        contains-all (λ q. int_le q.known r.known) (filter (is_number_of name a day) rows)
        (λ q in_us. let place = filter-contains (is_number_of name a day) rows q in_us in le-int_le q.known r.known (latest q place.0 place.1))

    one : (y : NumberRow) → Contains us y → is_last us y ≡ true → y ≡ r
    one y in_us last = one_last rows once name a day y r in_us here last is_last_one

number-none : (rows : List NumberRow) (name : List ℕ) (a : ℕ) (day : ℤ) → ((q : NumberRow) → Contains rows q → is_number_of name a day q ≡ true → ⊥) → (f : Figure) → number_at f rows name a day ≡ MISSING
number-none rows name a day none f =
    ap (λ o. unwrap_or (option_map (read_of f day) o) MISSING)
    (find-none (is_last (filter (is_number_of name a day) rows)) (filter (is_number_of name a day) rows)
    (λ y in_us e. let place = filter-contains (is_number_of name a day) rows y in_us in none y place.0 place.1))

-- ---- what comes later

pub known_by : (name : List ℕ) (a : ℕ) (d day : ℤ) → d ≤ℤ day → (r : NumberRow) → is_number_of name a d r ≡ true → int_le r.known day ≡ true
known_by name a d day h r p = grind (arith, ints)

number-without : (rows : List NumberRow) (day : ℤ) (f : Figure) (name : List ℕ) (a : ℕ) (d : ℤ) → d ≤ℤ day → number_at f (numbers_by day rows) name a d ≡ number_at f rows name a d
number-without rows day f name a d h =
    ap (λ l. unwrap_or (option_map (read_of f d) (last_known l)) MISSING)
    (filter-filter (is_number_of name a d) (λ (r : NumberRow). int_le r.known day) (known_by name a d day h) rows)

number-agreeing : (rows others : List NumberRow) (day : ℤ) → numbers_by day rows ≡ numbers_by day others → (f : Figure) (name : List ℕ) (a : ℕ) (d : ℤ) → d ≤ℤ day → number_at f rows name a d ≡ number_at f others name a d
number-agreeing rows others day same f name a d h =
    sym (number-without rows day f name a d h) ∙ ap (λ l. number_at f l name a d) same ∙ number-without others day f name a d h

number-permuted : (rows others : List NumberRow) → NumbersOnce rows → IsPermutation rows others → (f : Figure) (name : List ℕ) (a : ℕ) (day : ℤ) → number_at f rows name a day ≡ number_at f others name a day
number-permuted rows others once moved f name a day = ap (λ o. unwrap_or (option_map (read_of f day) o) MISSING) last_same
  where
    us : List NumberRow
    us = filter (is_number_of name a day) rows

    vs : List NumberRow
    vs = filter (is_number_of name a day) others

    still : IsPermutation us vs
    still = filter-permuted (is_number_of name a day) rows others moved

    last_same : last_known us ≡ last_known vs
    last_same =
        find-permuted (is_last us) us vs still (one_last rows once name a day)
        ∙ ap (λ p. find p vs) (fun_ext (λ r. list_all-permuted (λ q. int_le q.known r.known) us vs still))

pub numbers_are_found : NumbersAreFound
numbers_are_found = record { counts = number-counts; found = number-found; none = number-none }

pub numbers_look_back : NumbersLookBack
numbers_look_back = record { without = number-without; agreeing = number-agreeing; in_any_order = number-permuted }
