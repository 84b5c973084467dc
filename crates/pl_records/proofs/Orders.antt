-- Records in another order are read as rows in another order.
use Rattle.std.proofs.Common.{◌≡◌, ℕ, ◌||◌, nat_le, Bool, true, false, List, [], ◌∷◌, ◌++◌, length, IsPermutation, Option, Some, None, Result, Ok, refl, sym, ◌∙◌, ap, subst, append_assoc, length-append, inl, inr, ◌⊎◌}
use Rattle.std.specs.List.{list_any}
use Rattle.std.specs.Option.{ok_or}
use Rattle.std.proofs.lemmas.Bool.{or_parts}
use Rattle.std.proofs.lemmas.List.Folds.{list_any-append}
use Rattle.std.proofs.lemmas.List.Sorted.{IsPermutation-refl, IsPermutation-sym, IsPermutation-trans, IsPermutation-append, IsPermutation-append_left, length_permutation, list_any-IsPermutation}
use Rattle.pl_records.specs.Reading.{Record, ◌>>=◌, rows_behind, rows_under, has_header}
use Rattle.pl_records.specs.RuleTable.{first_broken, has}
use Rattle.pl_records.specs.Sorted.{sorted_by, HasOwnKeys}
use Rattle.pl_records.proofs.Readings.{went_on, under_ok}
use Rattle.pl_records.proofs.RuleTables.{NoneFound, told_ok, ok_or-Ok, none-broken}
use Rattle.pl_records.proofs.Sorts.{sorted-are}
use Rattle.pl_spec.proofs.Permuted.{permuted, flipped}

both_not : (b c : Bool) → b ≡ false → c ≡ false → (b || (c || false)) ≡ false
both_not b c e f = rw (e, f) refl

-- How the test of a rule looks at the rows before: at how many they are, at whether one of them clashes with
-- the row of the record, or not at all.
abbrev pub Looks : {Row R : Type 0} → ℕ → (Row → Row → Bool) → (Record → Option Row) → (List Row → Record → R → Bool) → R → Type 0
Looks {Row} {R} most clash row_of breaks q =
    ((before : List Row) (r : Record) → breaks before r q ≡ nat_le most (length before))
    ⊎ (((before : List Row) (r : Record) → breaks before r q ≡ has (λ row. list_any (clash row) before) (row_of r))
    ⊎ ((before : List Row) (r : Record) → breaks before r q ≡ breaks [] r q))

module _ {Row R : Type 0} (most : ℕ) (clash : Row → Row → Bool) (row_of : Record → Option Row) (breaks : List Row → Record → R → Bool) (rules : List R) (bad_field : R)
    (says : List Row → Record → Result Row R)
    (table : (before : List Row) (r : Record) → says before r ≡ first_broken rules (breaks before r) (ok_or (row_of r) bad_field))
    (flips : (x y : Row) → clash x y ≡ clash y x)
    (looks : (q : R) → Looks most clash row_of breaks q) where
  -- rows before in another order leave each test as it is
  same_test : (before other : List Row) → IsPermutation before other → (r : Record) (q : R) → breaks before r q ≡ breaks other r q
  same_test before other m r q = here (looks q)
    where
      met : (o : Option Row) → has (λ row. list_any (clash row) before) o ≡ has (λ row. list_any (clash row) other) o
      met None = refl
      met (Some row) = list_any-IsPermutation (clash row) before other m

      here : Looks most clash row_of breaks q → breaks before r q ≡ breaks other r q
      here (inl many) = many before r ∙ ap (nat_le most) (sym (length_permutation before other m)) ∙ sym (many other r)
      here (inr (inl met_one)) = met_one before r ∙ met (row_of r) ∙ sym (met_one other r)
      here (inr (inr alone)) = alone before r ∙ sym (alone other r)

  same_found : (b c : R → Bool) → ((q : R) → b q ≡ c q) → (right : Result Row R) (qs : List R) → first_broken qs b right ≡ first_broken qs c right
  same_found b c same right [] = refl
  same_found b c same right (q ∷ qs) = rw (same q, same_found b c same right qs) refl

  -- and so the next row
  moved : (before other : List Row) → IsPermutation before other → (r : Record) (row : Row) → says before r ≡ Ok row → says other r ≡ Ok row
  moved before other m r row e =
      table other r ∙ sym (table before r ∙ same_found (breaks before r) (breaks other r) (same_test before other m r) (ok_or (row_of r) bad_field) rules) ∙ e

  -- what the tests of two records, one after the other, tell of the same the other way round
  crossed : (before : List Row) (r s : Record) (row other : Row) → row_of r ≡ Some row → row_of s ≡ Some other → (q : R) → breaks before r q ≡ false → breaks (before ++ row ∷ []) s q ≡ false
      → (breaks before s q ≡ false) × (breaks (before ++ other ∷ []) r q ≡ false)
  crossed before r s row other of_r of_s q f g = here (looks q)
    where
      here : Looks most clash row_of breaks q → (breaks before s q ≡ false) × (breaks (before ++ other ∷ []) r q ≡ false)
      here (inl many) =
          let as_many : length (before ++ other ∷ []) ≡ length (before ++ row ∷ []) = length-append before (other ∷ []) ∙ sym (length-append before (row ∷ [])) in (
            many before s ∙ sym (many before r) ∙ f,
            many (before ++ other ∷ []) r ∙ ap (nat_le most) as_many ∙ sym (many (before ++ row ∷ []) s) ∙ g,
          )
      here (inr (inl met)) =
          let first : list_any (clash row) before ≡ false = sym (met before r ∙ ap (has (λ x. list_any (clash x) before)) of_r) ∙ f in
          let second : list_any (clash other) (before ++ row ∷ []) ≡ false = sym (met (before ++ row ∷ []) s ∙ ap (has (λ x. list_any (clash x) (before ++ row ∷ []))) of_s) ∙ g in
          let apart = or_parts (list_any (clash other) before) (clash other row || false) (sym (list_any-append (clash other) before (row ∷ [])) ∙ second) in (
            met before s ∙ ap (has (λ x. list_any (clash x) before)) of_s ∙ apart.0,
            met (before ++ other ∷ []) r ∙ ap (has (λ x. list_any (clash x) (before ++ other ∷ []))) of_r
                ∙ list_any-append (clash row) before (other ∷ []) ∙ both_not (list_any (clash row) before) (clash row other) first (flips row other ∙ (or_parts (clash other row) false apart.1).0),
          )
      here (inr (inr alone)) = (alone before s ∙ sym (alone (before ++ row ∷ []) s) ∙ g, alone (before ++ other ∷ []) r ∙ sym (alone before r) ∙ f)

  all_crossed : (before : List Row) (r s : Record) (row other : Row) → row_of r ≡ Some row → row_of s ≡ Some other → (qs : List R)
      → NoneFound qs (breaks before r) → NoneFound qs (breaks (before ++ row ∷ []) s) → NoneFound qs (breaks before s) × NoneFound qs (breaks (before ++ other ∷ []) r)
  all_crossed before r s row other of_r of_s [] f g = (tt, tt)
  all_crossed before r s row other of_r of_s (q ∷ qs) f g =
      let one = crossed before r s row other of_r of_s q f.0 g.0 in
      let rest = all_crossed before r s row other of_r of_s qs f.1 g.1 in
      ((one.0, rest.0), (one.1, rest.1))

  -- of two records either may come first
  swapped : (before : List Row) (r s : Record) (row other : Row) → says before r ≡ Ok row → says (before ++ row ∷ []) s ≡ Ok other
      → (says before s ≡ Ok other) × (says (before ++ other ∷ []) r ≡ Ok row)
  swapped before r s row other e f =
      let k = told_ok rules (breaks before r) (ok_or (row_of r) bad_field) row (sym (table before r) ∙ e) in
      let l = told_ok rules (breaks (before ++ row ∷ []) s) (ok_or (row_of s) bad_field) other (sym (table (before ++ row ∷ []) s) ∙ f) in
      let it = all_crossed before r s row other (ok_or-Ok (row_of r) bad_field row k.1) (ok_or-Ok (row_of s) bad_field other l.1) rules k.0 l.0 in (
        table before s ∙ none-broken rules (breaks before s) (ok_or (row_of s) bad_field) it.0 ∙ l.1,
        table (before ++ other ∷ []) r ∙ none-broken rules (breaks (before ++ other ∷ []) r) (ok_or (row_of r) bad_field) it.1 ∙ k.1,
      )

  goes_on : (before : List Row) (r : Record) (rs : List Record) (row : Row) → says before r ≡ Ok row → rows_behind 2 says before (r ∷ rs) ≡ rows_behind 2 says (before ++ row ∷ []) rs
  unfolding rows_behind
  goes_on before r rs row e = rw e refl

  ended : (before rows : List Row) → rows_behind 2 says before [] ≡ Ok rows → before ≡ rows
  unfolding rows_behind
  ended before rows e = cc

  ends : (before : List Row) → rows_behind 2 says before [] ≡ Ok before
  unfolding rows_behind
  ends before = refl

  -- the others are read after such rows too, as the same rows in some order
  abbrev ReadsAlike : List Record → List Record → Type 0
  ReadsAlike records others = (before earlier : List Row) → IsPermutation before earlier → (rows : List Row) → rows_behind 2 says before records ≡ Ok rows
      → (found : List Row) × (rows_behind 2 says earlier others ≡ Ok found) × IsPermutation rows found

  same : (records : List Record) → ReadsAlike records records
  same [] before earlier m rows e = let is : before ≡ rows = ended before rows e in (earlier, ends earlier, subst (λ l. IsPermutation l earlier) is m)
  same (r ∷ rs) before earlier m rows e =
      let it = went_on 2 says before r rs rows e in
      let rest = same rs (before ++ it.0 ∷ []) (earlier ++ it.0 ∷ []) (IsPermutation-append_left (it.0 ∷ []) before earlier m) rows it.2 in
      (rest.0, goes_on earlier r rs it.0 (moved before earlier m r it.0 it.1) ∙ rest.1, rest.2)

  chain : (xs ys zs : List Record) → ReadsAlike xs ys → ReadsAlike ys zs → ReadsAlike xs zs
  chain xs ys zs f g before earlier m rows e =
      let a = f before earlier m rows e in
      let b = g earlier earlier (IsPermutation-refl earlier) a.0 a.1 in
      (b.0, b.1, IsPermutation-trans rows a.0 b.0 a.2 b.2)

  under : (r : Record) (xs ys : List Record) → ReadsAlike xs ys → ReadsAlike (r ∷ xs) (r ∷ ys)
  under r xs ys f before earlier m rows e =
      let it = went_on 2 says before r xs rows e in
      let rest = f (before ++ it.0 ∷ []) (earlier ++ it.0 ∷ []) (IsPermutation-append_left (it.0 ∷ []) before earlier m) rows it.2 in
      (rest.0, goes_on earlier r ys it.0 (moved before earlier m r it.0 it.1) ∙ rest.1, rest.2)

  last_two : (before earlier : List Row) → IsPermutation before earlier → (x y : Row) → IsPermutation ((before ++ x ∷ []) ++ y ∷ []) ((earlier ++ y ∷ []) ++ x ∷ [])
  last_two before earlier m x y =
      rw (append_assoc before (x ∷ []) (y ∷ []), append_assoc earlier (y ∷ []) (x ∷ []))
      (IsPermutation-append before earlier (x ∷ y ∷ []) (y ∷ x ∷ []) m (flipped x y []))

  flip : (r q : Record) (xs : List Record) → ReadsAlike (r ∷ q ∷ xs) (q ∷ r ∷ xs)
  flip r q xs before earlier m rows e =
      let one = went_on 2 says before r (q ∷ xs) rows e in
      let two = went_on 2 says (before ++ one.0 ∷ []) q xs rows one.2 in
      let either = swapped before r q one.0 two.0 one.1 two.1 in
      let rest = same xs ((before ++ one.0 ∷ []) ++ two.0 ∷ []) ((earlier ++ two.0 ∷ []) ++ one.0 ∷ []) (last_two before earlier m one.0 two.0) rows two.2 in (
        rest.0,
        goes_on earlier q (r ∷ xs) two.0 (moved before earlier m q two.0 either.0)
            ∙ goes_on (earlier ++ two.0 ∷ []) r xs one.0 (moved (before ++ two.0 ∷ []) (earlier ++ two.0 ∷ []) (IsPermutation-append_left (two.0 ∷ []) before earlier m) r one.0 either.1)
            ∙ rest.1,
        rest.2,
      )

  -- Records after the first, the header, are in another order read as the same rows in some order.
  pub under-permuted : (names : Record) (bad : R) (first : Record) (records others : List Record) → IsPermutation records others → (rows : List Row)
      → rows_under names bad says (first ∷ records) ≡ Ok rows → (found : List Row) × (rows_under names bad says (first ∷ others) ≡ Ok found) × IsPermutation rows found
  under-permuted names bad first records others m rows e =
      let read = under_ok names bad says (first ∷ records) rows e in
      let named : has_header names (first ∷ others) ≡ true = read.0 in
      let it = permuted ReadsAlike same chain under flip records others m [] [] (IsPermutation-refl []) rows read.1 in
      (it.0, rw named it.1, it.2)

  -- and as the same rows, where they are brought into the order of keys of their own
  pub under-sorted : (key : Row → ℕ) (names : Record) (bad : R) → ((rs : List Record) (rows : List Row) → rows_under names bad says rs ≡ Ok rows → HasOwnKeys key rows)
      → (first : Record) (records others : List Record) → IsPermutation records others → (sorted : List Row)
      → (rows_under names bad says (first ∷ records) >>= λ rows. Ok (sorted_by key rows)) ≡ Ok sorted
      → (rows_under names bad says (first ∷ others) >>= λ rows. Ok (sorted_by key rows)) ≡ Ok sorted
  under-sorted key names bad own first records others m sorted e =
      let it = (sorted-are key (rows_under names bad says (first ∷ records)) sorted (own (first ∷ records))).0 e in
      let found = under-permuted names bad first records others m it.0 it.1 in
      (sorted-are key (rows_under names bad says (first ∷ others)) sorted (own (first ∷ others))).1
      (found.0, found.1, IsPermutation-trans found.0 it.0 sorted (IsPermutation-sym it.0 found.0 found.2) it.2, it.3)
