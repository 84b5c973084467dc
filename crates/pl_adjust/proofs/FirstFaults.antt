-- The first fault of a walk, in plain words.
use Rattle.std.proofs.Common.{◌≡◌, ◌↔◌, ℕ, zero, suc, ◌+◌, ◌<◌, ◌≤◌, ◌/◌, nat_le, Bool, true, false, ◌&&◌, if◌then◌else◌, ℤ, pos, negsuc, ◌<ℤ◌, ◌≤ℤ◌, List, [], ◌∷◌, ◌++◌, length, slice_get, Option, Some, None, Ok, Err, refl, sym, ◌∙◌, ap, arith, zero-add, add-zero}
use Rattle.std.specs.Int.RustNames.{int_le}
use Rattle.std.specs.Option.{option_or}
use Rattle.std.proofs.lemmas.Bool.{and_parts}
use Rattle.std.proofs.lemmas.Bool.Decides.{nat_tests}
use Rattle.std.proofs.lemmas.Int.{ints}
use Rattle.pl_records.proofs.RuleTables.{not_true}
use Rattle.pl_spec.specs.declared.AssetRow.{AssetRow}
use Rattle.pl_spec.specs.declared.RawAdjust.{RawAdjust}
use Rattle.pl_spec.specs.Parts.{ColumnAdjustment}
use Rattle.pl_spec.specs.Limits.{most_adjustments}
use Rattle.pl_adjust.specs.Columns.{by_place}
use Rattle.pl_adjust.specs.Tables.{adjustments_in, of_walk, ok_unless}
use Rattle.pl_adjust.specs.Walk.{Fault, TooMany, BadEffective, BadRatio, TableRow, fault_at, first_fault, is_effective, is_part, walk}
use Rattle.pl_adjust.specs.Rules.{AreRight, HasRatio, IsEffective, IsFaultOf, IsFirstFault, IsRight}
use Rattle.pl_adjust.proofs.Walks.{first_fault-append}

-- ---- the tests of a row

day_by : (d : ℕ) → int_le (pos d) (pos 84005) ≡ true → d ≤ 84005
day_by d e = let h : pos d ≤ℤ pos 84005 = grind (arith, ints) in omega (arith, ints)

day_from : (d : ℕ) → int_le (negsuc 25566) (negsuc d) ≡ true → d ≤ 25566
day_from d e = let h : negsuc 25566 ≤ℤ negsuc d = grind (arith, ints) in omega (arith, ints)

effective_if : (time : ℤ) → is_effective time ≡ true → IsEffective time
effective_if (pos t) e =
    let few : t / 86400 ≤ 84005 = day_by (t / 86400) (and_parts (int_le (negsuc 25566) (pos (t / 86400))) (int_le (pos (t / 86400)) (pos 84005)) e).1 in
    let small : t < 7258118400 = omega arith in
    record { from = omega (arith, ints); before = omega (arith, ints) }
effective_if (negsuc t) e =
    let few : t / 86400 ≤ 25566 = day_from (t / 86400) (and_parts (int_le (negsuc 25566) (negsuc (t / 86400))) (int_le (negsuc (t / 86400)) (pos 84005)) e).0 in
    let small : t ≤ 2208988799 = omega arith in
    record { from = omega (arith, ints); before = omega (arith, ints) }

effective_from : (time : ℤ) → IsEffective time → is_effective time ≡ true
effective_from (pos t) h =
    let before : pos t <ℤ pos 7258118400 = h.before in
    let small : t < 7258118400 = omega (arith, ints) in
    let few : t / 86400 ≤ 84005 = omega arith in days (t / 86400) few
  where
    days : (d : ℕ) → d ≤ 84005 → (int_le (negsuc 25566) (pos d) && int_le (pos d) (pos 84005)) ≡ true
    days d few = grind (arith, ints)
effective_from (negsuc t) h =
    let from : negsuc 2208988799 ≤ℤ negsuc t = h.from in
    let small : t ≤ 2208988799 = omega (arith, ints) in
    let few : t / 86400 ≤ 25566 = omega arith in days (t / 86400) few
  where
    days : (d : ℕ) → d ≤ 25566 → (int_le (negsuc 25566) (negsuc d) && int_le (negsuc d) (pos 84005)) ≡ true
    days d few = grind (arith, ints)

part_if : (n : ℤ) → is_part n ≡ true → (pos 1 ≤ℤ n) × (n ≤ℤ pos 1000000000)
part_if n e = let both = and_parts (int_le (pos 1) n) (int_le n (pos 1000000000)) e in (low both.0, high both.1)
  where
    low : int_le (pos 1) n ≡ true → pos 1 ≤ℤ n
    low e = grind (arith, ints)

    high : int_le n (pos 1000000000) ≡ true → n ≤ℤ pos 1000000000
    high e = grind (arith, ints)

part_from : (n : ℤ) → pos 1 ≤ℤ n → n ≤ℤ pos 1000000000 → is_part n ≡ true
part_from n l h = grind (arith, ints)

ratio_if : (r : RawAdjust) → (is_part r.num && is_part r.den) ≡ true → HasRatio r
ratio_if r e = let both = and_parts (is_part r.num) (is_part r.den) e in record { num = part_if r.num both.0; den = part_if r.den both.1 }

ratio_from : (r : RawAdjust) → HasRatio r → (is_part r.num && is_part r.den) ≡ true
ratio_from r h = rw (part_from r.num h.num.0 h.num.1, part_from r.den h.den.0 h.den.1) refl

few_rows : (n : ℕ) → nat_le most_adjustments n ≡ false → n < most_adjustments
few_rows n e = grind (arith, nat_tests)

many_rows : (n : ℕ) → nat_le most_adjustments n ≡ true → most_adjustments ≤ n
many_rows n e = grind (arith, nat_tests)

-- ---- the fault of a row

module _ (n : ℕ) (r : TableRow) where
  abbrev said : Bool → Bool → Bool → Option Fault
  said many effective ratio = if many then Some TooMany else if effective then (if ratio then None else Some (BadRatio r.table r.row.id)) else Some (BadEffective r.table r.row.id)

  is_right : fault_at n r ≡ None → IsRight n r
  unfolding fault_at
  is_right e = here (nat_le most_adjustments n) (is_effective r.row.effective) (is_part r.row.num && is_part r.row.den) refl refl refl e
    where
      here : (a b c : Bool) → nat_le most_adjustments n ≡ a → is_effective r.row.effective ≡ b → (is_part r.row.num && is_part r.row.den) ≡ c → said a b c ≡ None → IsRight n r
      here true b c t u v e = absurd (let bad : Some TooMany ≡ None = e in cc)
      here false true true t u v e = record { room = few_rows n t; effective = effective_if r.row.effective u; ratio = ratio_if r.row v }
      here false true false t u v e = absurd (let bad : Some (BadRatio r.table r.row.id) ≡ None = e in cc)
      here false false c t u v e = absurd (let bad : Some (BadEffective r.table r.row.id) ≡ None = e in cc)

  right_is : IsRight n r → fault_at n r ≡ None
  unfolding fault_at
  right_is h =
      let room : n < most_adjustments = h.room in
      let t : nat_le most_adjustments n ≡ false = grind (arith, nat_tests) in
      rw (t, effective_from r.row.effective h.effective, ratio_from r.row h.ratio) refl

  is_fault : (f : Fault) → fault_at n r ≡ Some f → IsFaultOf n r f
  unfolding fault_at
  is_fault f e = here (nat_le most_adjustments n) (is_effective r.row.effective) (is_part r.row.num && is_part r.row.den) refl refl refl e
    where
      here : (a b c : Bool) → nat_le most_adjustments n ≡ a → is_effective r.row.effective ≡ b → (is_part r.row.num && is_part r.row.den) ≡ c → said a b c ≡ Some f → IsFaultOf n r f
      here true b c t u v e = let same : TooMany ≡ f = cc in rw (← same) (many_rows n t)
      here false true true t u v e = absurd (let bad : None ≡ Some f = e in cc)
      here false true false t u v e =
          let same : BadRatio r.table r.row.id ≡ f = cc in
          rw (← same) (few_rows n t, effective_if r.row.effective u, (λ h. let yes' : (is_part r.row.num && is_part r.row.den) ≡ true = ratio_from r.row h in let bad : true ≡ false = sym yes' ∙ v in cc), refl, refl)
      here false false c t u v e =
          let same : BadEffective r.table r.row.id ≡ f = cc in
          rw (← same) (few_rows n t, (λ h. let yes' : is_effective r.row.effective ≡ true = effective_from r.row.effective h in let bad : true ≡ false = sym yes' ∙ u in cc), refl, refl)

  fault_is : (f : Fault) → IsFaultOf n r f → fault_at n r ≡ Some f
  unfolding fault_at
  fault_is TooMany h = let t : nat_le most_adjustments n ≡ true = grind (arith, nat_tests) in rw t refl
  fault_is (BadEffective table id) h =
      let room : n < most_adjustments = h.0 in
      let t : nat_le most_adjustments n ≡ false = grind (arith, nat_tests) in
      rw (t, not_true (is_effective r.row.effective) (λ e. h.1 (effective_if r.row.effective e))) (ap (λ x. Some (BadEffective x r.row.id)) (sym h.2) ∙ ap (λ i. Some (BadEffective table i)) (sym h.3))
  fault_is (BadRatio table id) h =
      let room : n < most_adjustments = h.0 in
      let t : nat_le most_adjustments n ≡ false = grind (arith, nat_tests) in
      rw (t, effective_from r.row.effective h.1, not_true (is_part r.row.num && is_part r.row.den) (λ e. h.2 (ratio_if r.row e))) (ap (λ x. Some (BadRatio x r.row.id)) (sym h.3) ∙ ap (λ i. Some (BadRatio table i)) (sym h.4))

-- ---- the rows of a walk

AreRightFrom : ℕ → List TableRow → Type 0
AreRightFrom n rows = (k : ℕ) (r : TableRow) → slice_get rows k ≡ Some r → IsRight (n + k) r

all_right : (n : ℕ) (rows : List TableRow) → first_fault n rows ≡ None → AreRightFrom n rows
unfolding first_fault AreRightFrom
all_right n [] e k r g = absurd (let bad : None ≡ Some r = g in cc)
all_right n (x ∷ rows) e k r g = here (fault_at n x) refl e k g (all_right (suc n) rows)
  where
    here : (o : Option Fault) → fault_at n x ≡ o → option_or o (first_fault (suc n) rows) ≡ None → (k : ℕ) → slice_get (x ∷ rows) k ≡ Some r
        → (first_fault (suc n) rows ≡ None → (k : ℕ) (r : TableRow) → slice_get rows k ≡ Some r → IsRight (suc n + k) r) → IsRight (n + k) r
    here (Some f) was e k g more = absurd (let bad : Some f ≡ None = e in cc)
    here None was e zero g more = let same : x ≡ r = (let it : Some x ≡ Some r = g in cc) in rw (add-zero n, ← same) (is_right n x was)
    here None was e (suc k) g more = let next : n + suc k ≡ suc n + k = omega arith in rw next (more e k r g)

right_all : (n : ℕ) (rows : List TableRow) → AreRightFrom n rows → first_fault n rows ≡ None
unfolding first_fault AreRightFrom
right_all n [] h = refl
right_all n (x ∷ rows) h =
    let first : fault_at n x ≡ None = right_is n x (rw add-zero at (h zero x refl)) in
    rw first (right_all (suc n) rows (λ k r g. let next : suc n + k ≡ n + suc k = omega arith in rw next (h (suc k) r g)))

record FaultsFrom (n : ℕ) (rows : List TableRow) (fault : Fault) : Type 0 where
  front : List TableRow
  faulty : TableRow
  back : List TableRow
  parts : rows ≡ front ++ faulty ∷ back
  right : first_fault n front ≡ None
  breaks : fault_at (n + length front) faulty ≡ Some fault

find_fault : (n : ℕ) (rows : List TableRow) (fault : Fault) → first_fault n rows ≡ Some fault → FaultsFrom n rows fault
unfolding first_fault
find_fault n [] fault e = absurd (let bad : None ≡ Some fault = e in cc)
find_fault n (x ∷ rows) fault e = here (fault_at n x) refl e (find_fault (suc n) rows fault)
  where
    here : (o : Option Fault) → fault_at n x ≡ o → option_or o (first_fault (suc n) rows) ≡ Some fault → (first_fault (suc n) rows ≡ Some fault → FaultsFrom (suc n) rows fault) → FaultsFrom n (x ∷ rows) fault
    here (Some f) was e more = record { front = []; faulty = x; back = rows; parts = refl; right = refl; breaks = rw add-zero (was ∙ e) }
    here None was e more =
        let it = more e in
        let next : n + suc (length it.front) ≡ suc n + length it.front = omega arith in
        record { front = x ∷ it.front; faulty = it.faulty; back = it.back; parts = ap (λ l. x ∷ l) it.parts; right = rw was it.right; breaks = rw next it.breaks }

module _ (rows : List TableRow) where
  pub right-is : (first_fault 0 rows ≡ None) ↔ AreRight rows
  unfolding AreRightFrom
  right-is = ((λ e k r g. rw zero-add at (all_right 0 rows e k r g)), (λ h. right_all 0 rows (λ k r g. rw zero-add (h k r g))))

module _ (rows : List TableRow) (fault : Fault) where
  there : first_fault 0 rows ≡ Some fault → IsFirstFault rows fault
  there e =
      let it = find_fault 0 rows fault e in
      record { front = it.front; faulty = it.faulty; back = it.back; parts = it.parts; right = (right-is it.front).0 it.right; breaks = is_fault (length it.front) it.faulty fault (rw zero-add at it.breaks) }

  back : IsFirstFault rows fault → first_fault 0 rows ≡ Some fault
  unfolding first_fault
  back h =
      ap (first_fault 0) h.parts
      ∙ first_fault-append 0 h.front (h.faulty ∷ h.back)
      ∙ ap (λ o. option_or o (first_fault (0 + length h.front) (h.faulty ∷ h.back))) ((right-is h.front).1 h.right)
      ∙ ap (λ o. option_or o (first_fault (suc (0 + length h.front)) h.back)) (fault_is (0 + length h.front) h.faulty fault (rw zero-add h.breaks))

  pub fault-is : (first_fault 0 rows ≡ Some fault) ↔ IsFirstFault rows fault
  fault-is = (there, back)

-- ---- and the answers

module _ (assets : List AssetRow) (splits mergers dividends : List RawAdjust) where
  abbrev made : List ColumnAdjustment
  made = by_place (of_walk assets splits mergers dividends)

  none_of : (o : Option Fault) (xs ys : List ColumnAdjustment) → ok_unless o xs ≡ Ok ys → o ≡ None
  none_of None xs ys e = refl
  none_of (Some f) xs ys e = absurd (let bad : Err f ≡ Ok ys = e in cc)

  some_of : (o : Option Fault) (xs : List ColumnAdjustment) (fault : Fault) → ok_unless o xs ≡ Err fault → o ≡ Some fault
  some_of None xs fault e = absurd (let bad : Ok xs ≡ Err fault = e in cc)
  some_of (Some f) xs fault e = let same : Err f ≡ Err fault = e in let it : f ≡ fault = cc in ap Some it

  pub tables_right : ((xs : List ColumnAdjustment) × (adjustments_in assets splits mergers dividends ≡ Ok xs)) ↔ AreRight (walk splits mergers dividends)
  unfolding adjustments_in
  tables_right = (
    (λ h. (right-is (walk splits mergers dividends)).0 (none_of (first_fault 0 (walk splits mergers dividends)) made h.0 h.1)),
    (λ h. (made, ap (λ o. ok_unless o made) ((right-is (walk splits mergers dividends)).1 h))),
  )

  pub tables_fault : (fault : Fault) → (adjustments_in assets splits mergers dividends ≡ Err fault) ↔ IsFirstFault (walk splits mergers dividends) fault
  unfolding adjustments_in
  tables_fault fault = (
    (λ h. (fault-is (walk splits mergers dividends) fault).0 (some_of (first_fault 0 (walk splits mergers dividends)) made fault h)),
    (λ h. ap (λ o. ok_unless o made) ((fault-is (walk splits mergers dividends) fault).1 h)),
  )

  pub made_is : (xs : List ColumnAdjustment) → adjustments_in assets splits mergers dividends ≡ Ok xs → xs ≡ by_place (of_walk assets splits mergers dividends)
  unfolding adjustments_in
  made_is xs e =
      let none = none_of (first_fault 0 (walk splits mergers dividends)) made xs e in
      let same : Ok made ≡ Ok xs = rw none at e in cc
