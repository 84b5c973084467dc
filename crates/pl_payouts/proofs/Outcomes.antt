-- What a payout comes to, in plain words.
use Rattle.std.proofs.Common.{◌≡◌, ◌↔◌, ◌⊎◌, ℕ, zero, suc, ◌*◌, ◌<◌, ◌≤◌, ◌||◌, nat_lt, Bool, true, false, if◌then◌else◌, ℤ, pos, negsuc, ◌<ℤ◌, ◌≤ℤ◌, ◌-ℤ◌, ◌*ℤ◌, List, Option, Some, None, option_map, Result, Ok, Err, refl, sym, ◌∙◌, ap, subst, arith, inl, inr}
use Rattle.std.specs.List.{AllPairs}
use Rattle.std.specs.Int.RustNames.{int_le, unsigned_abs}
use Rattle.std.specs.Int.{◌∣◌}
use Rattle.std.specs.Ordering.{int_eq}
use Rattle.std.specs.Bool.{Decides}
use Rattle.std.proofs.Math.Nat.{mul_comm, dvd-zero}
use Rattle.std.proofs.lemmas.Int.{ints}
use Rattle.std.proofs.lemmas.Bool.Decides.{nat_tests}
use Rattle.pl_spec.specs.Rounding.{MISSING, Fraction, is_missing, div_round}
use Rattle.pl_spec.specs.Dates.{IsDay}
use Rattle.pl_spec.specs.declared.AssetRow.{AssetRow}
use Rattle.pl_spec.specs.declared.BarRow.{BarRow}
use Rattle.pl_spec.specs.declared.RawAdjust.{RawAdjust}
use Rattle.pl_spec.proofs.Signed.{le-int_le, lt-int_le, int_le-true, int_le-false}
use Rattle.pl_fixed.proofs.RoundingLemmas.{div_round-multiple, above_zero}
use Rattle.pl_adjust.specs.Rules.{IsEffective}
use Rattle.pl_payouts.specs.declared.Payout.{Payout}
use Rattle.pl_payouts.specs.declared.ratio.Skip.{Skip}
use Rattle.pl_payouts.specs.declared.ratio.Skip.TheVariants.{NoSession, NoClose, NotBelow, TooFine}
use Rattle.pl_payouts.specs.Payouts.{IsPayout}
use Rattle.pl_payouts.specs.Ratios.{last_before, close_before, raw_close, lowest, is_too_fine, row_of, ratio_over, ratio_if, ratio_in}
use Rattle.pl_payouts.specs.RatioRules.{IsNoClose, IsLowest, Leaves, ComesTo}
use Rattle.pl_payouts.proofs.Divisors.{lowest-exact, lowest-coprime, lowest-num, lowest-den}
use Rattle.pl_payouts.proofs.LastSessions.{last-is, last-none, last-one}

-- ---- the tests of a close

no_close : (close : ℤ) → Decides (is_missing close || int_eq close (pos 0)) (IsNoClose close)
no_close close = (there (is_missing close) refl, back)
  where
    missing : is_missing close ≡ true → close ≡ MISSING
    missing t = grind (arith, ints)

    nought : int_eq close (pos 0) ≡ true → close ≡ pos 0
    nought t = grind (arith, ints)

    there : (b : Bool) → is_missing close ≡ b → (b || int_eq close (pos 0)) ≡ true → IsNoClose close
    there true t e = inl (missing t)
    there false t e = inr (nought e)

    or_true : (b : Bool) → (b || true) ≡ true
    or_true true = refl
    or_true false = refl

    back : IsNoClose close → (is_missing close || int_eq close (pos 0)) ≡ true
    back (inl e) = rw e refl
    back (inr e) = rw e refl

some_close : (close : ℤ) → ¬ IsNoClose close → (is_missing close || int_eq close (pos 0)) ≡ false
some_close close none = here (is_missing close || int_eq close (pos 0)) refl
  where
    here : (b : Bool) → (is_missing close || int_eq close (pos 0)) ≡ b → b ≡ false
    here true t = absurd (none ((no_close close).0 t))
    here false t = refl

is_some_close : (close : ℤ) → (is_missing close || int_eq close (pos 0)) ≡ false → ¬ IsNoClose close
is_some_close close t none = let bad : true ≡ false = sym ((no_close close).1 none) ∙ t in cc

-- ---- numbers above 0

natural : (v : ℤ) → pos 0 <ℤ v → v ≡ pos (unsigned_abs v)
natural (pos n) h = refl
natural (negsuc n) h = absurd (omega (arith, ints))

more_above : (x y : ℤ) → pos 0 <ℤ x → x <ℤ y → pos 0 <ℤ y
more_above x y h l = omega (arith, ints)

less_above : (x y : ℤ) → x <ℤ y → pos 0 <ℤ (y -ℤ x)
less_above x y l = omega (arith, ints)

pos-inj : (m n : ℕ) → pos m ≡ pos n → m ≡ n
pos-inj m n e = cc

-- ---- the fraction

both_even : (num : ℕ) → num ≡ 0 → ((d : ℕ) → d ∣ num → d ∣ 0 → d ≡ 1) → ⊥
both_even num e coprime = let bad : 2 ≡ 1 = coprime 2 (subst (λ n. 2 ∣ n) (sym e) (dvd-zero 2)) (dvd-zero 2) in omega (arith, bad)

no_product : (m n : ℕ) → 0 < n → m * n ≡ 0 → m ≡ 0
no_product zero n h e = refl
no_product (suc m) n h e = absurd (omega arith)

product-pos : (m n : ℕ) → 0 < m → 0 < n → 0 < m * n
product-pos zero n h l = absurd (omega arith)
product-pos (suc m) n h l = omega arith

module _ (p : Payout) (close : ℤ) (is : IsPayout p) (up : p.amount <ℤ close) where
  rest-is : close -ℤ p.amount ≡ pos (unsigned_abs (close -ℤ p.amount))
  rest-is = natural (close -ℤ p.amount) (less_above p.amount close up)

  whole-is : close ≡ pos (unsigned_abs close)
  whole-is = natural close (more_above p.amount close is.above up)

  rest-pos : 0 < unsigned_abs (close -ℤ p.amount)
  rest-pos = above_zero (close -ℤ p.amount) (less_above p.amount close up)

  whole-pos : 0 < unsigned_abs close
  whole-pos = above_zero close (more_above p.amount close is.above up)

  abbrev in_lowest : Fraction
  in_lowest = lowest (unsigned_abs (close -ℤ p.amount)) (unsigned_abs close)

  product : (num : ℕ) → pos num *ℤ close ≡ pos (num * unsigned_abs close)
  product num = ap (λ v. pos num *ℤ v) whole-is

  product-rest : (den : ℕ) → pos den *ℤ (close -ℤ p.amount) ≡ pos (den * unsigned_abs (close -ℤ p.amount))
  product-rest den = ap (λ v. pos den *ℤ v) rest-is

  lowest-is : IsLowest p close in_lowest.num in_lowest.den
  lowest-is =
      record {
        exact = product in_lowest.num ∙ ap pos (lowest-exact (unsigned_abs (close -ℤ p.amount)) (unsigned_abs close) whole-pos) ∙ sym (product-rest in_lowest.den);
        lowest = lowest-coprime (unsigned_abs (close -ℤ p.amount)) (unsigned_abs close) whole-pos;
      }

  numbers : (num den : ℕ) → IsLowest p close num den → num * unsigned_abs close ≡ den * unsigned_abs (close -ℤ p.amount)
  numbers num den h = pos-inj (num * unsigned_abs close) (den * unsigned_abs (close -ℤ p.amount)) (sym (product num) ∙ h.exact ∙ product-rest den)

  -- the denominator is above 0: else both parts were 0, and 2 divided them
  den-pos : (num den : ℕ) → IsLowest p close num den → 0 < den
  den-pos num zero h = absurd (both_even num (no_product num (unsigned_abs close) whole-pos (omega (arith, numbers num zero h))) h.lowest)
  den-pos num (suc den) h = omega arith

  num-pos : (num den : ℕ) → IsLowest p close num den → 0 < num
  num-pos zero den h = absurd (let e = numbers zero den h in let some = product-pos den (unsigned_abs (close -ℤ p.amount)) (den-pos zero den h) rest-pos in omega (arith, e, some))
  num-pos (suc num) den h = omega arith

  same-num : (num den : ℕ) → IsLowest p close num den → num ≡ in_lowest.num
  same-num num den h = lowest-num (unsigned_abs (close -ℤ p.amount)) (unsigned_abs close) whole-pos num den (numbers num den h) h.lowest (den-pos num den h)

  same-den : (num den : ℕ) → IsLowest p close num den → den ≡ in_lowest.den
  same-den num den h = lowest-den (unsigned_abs (close -ℤ p.amount)) (unsigned_abs close) whole-pos num den (numbers num den h) h.lowest (den-pos num den h)

  rounds : (num den : ℕ) → IsLowest p close num den → div_round (close *ℤ pos num) den ≡ close -ℤ p.amount
  rounds num den h =
      let product' : close *ℤ pos num ≡ pos (unsigned_abs close * num) = ap (λ v. v *ℤ pos num) whole-is in
      let turned : unsigned_abs close * num ≡ unsigned_abs (close -ℤ p.amount) * den =
      mul_comm (unsigned_abs close) num ∙ numbers num den h ∙ mul_comm den (unsigned_abs (close -ℤ p.amount)) in
      ap (λ v. div_round v den) (product' ∙ ap pos turned) ∙ div_round-multiple (unsigned_abs (close -ℤ p.amount)) den (den-pos num den h) ∙ sym rest-is

-- ---- the row

on_a_day : (ex : ℤ) → IsDay ex → IsEffective (ex *ℤ pos 86400)
on_a_day ex h = record { from = omega (arith, ints, h.first); before = omega (arith, ints, h.last) }

in_parts : (num den : ℕ) → 0 < num → 0 < den → (nat_lt 1000000000 num || nat_lt 1000000000 den) ≡ false → (num ≤ 1000000000) × (den ≤ 1000000000)
in_parts num den n d t = grind (arith, nat_tests)

too_fine : (num den : ℕ) → (1000000000 < num) ⊎ (1000000000 < den) → (nat_lt 1000000000 num || nat_lt 1000000000 den) ≡ true
too_fine num den (inl h) = let t : nat_lt 1000000000 num ≡ true = grind (arith, nat_tests) in rw t refl
too_fine num den (inr h) = grind (arith, nat_tests)

is_fine : (num den : ℕ) → (nat_lt 1000000000 num || nat_lt 1000000000 den) ≡ true → (1000000000 < num) ⊎ (1000000000 < den)
is_fine num den t = here (nat_lt 1000000000 num) refl t
  where
    here : (b : Bool) → nat_lt 1000000000 num ≡ b → (b || nat_lt 1000000000 den) ≡ true → (1000000000 < num) ⊎ (1000000000 < den)
    here true u e = inl (grind (arith, nat_tests))
    here false u e = inr (grind (arith, nat_tests))

not_fine : (num den : ℕ) → num ≤ 1000000000 → den ≤ 1000000000 → (nat_lt 1000000000 num || nat_lt 1000000000 den) ≡ false
not_fine num den n d =
    let t : nat_lt 1000000000 num ≡ false = grind (arith, nat_tests) in
    let u : nat_lt 1000000000 den ≡ false = grind (arith, nat_tests) in rw (t, u) refl

row-is : (p : Payout) (f : Fraction) (num den : ℕ) (r : RawAdjust) → r.id ≡ pos p.number → r.sid ≡ pos p.sid → r.effective ≡ p.ex *ℤ pos 86400 → r.num ≡ pos num → r.den ≡ pos den → num ≡ f.num → den ≡ f.den → row_of p f ≡ r
row-is p f num den r id sid effective n d m e =
    let num-is : pos f.num ≡ r.num = ap pos (sym m) ∙ sym n in
    let den-is : pos f.den ≡ r.den = ap pos (sym e) ∙ sym d in
    ap (λ x. record { id = x; effective = p.ex *ℤ pos 86400; num = pos f.num; den = pos f.den; sid = pos p.sid }) (sym id)
    ∙ ap (λ x. record { id = r.id; effective = x; num = pos f.num; den = pos f.den; sid = pos p.sid }) (sym effective)
    ∙ ap (λ x. record { id = r.id; effective = r.effective; num = x; den = pos f.den; sid = pos p.sid }) num-is
    ∙ ap (λ x. record { id = r.id; effective = r.effective; num = r.num; den = x; sid = pos p.sid }) den-is
    ∙ ap (λ x. record { id = r.id; effective = r.effective; num = r.num; den = r.den; sid = x }) (sym sid)

-- ---- over a close

module _ (p : Payout) (close : ℤ) (is : IsPayout p) where
  abbrev of_tests : Bool → Bool → Bool → Result RawAdjust Skip
  of_tests a b t =
      if a then Err NoClose
      else if b then Err NotBelow
      else if t then Err TooFine else Ok (row_of p (lowest (unsigned_abs (close -ℤ p.amount)) (unsigned_abs close)))

  abbrev fine : Bool
  fine = is_too_fine (lowest (unsigned_abs (close -ℤ p.amount)) (unsigned_abs close))

  pub leaves-is : Leaves p close (ratio_over p close)
  unfolding ratio_over
  leaves-is = here (is_missing close || int_eq close (pos 0)) (int_le close p.amount) fine refl refl refl
    where
      here : (a b t : Bool) → (is_missing close || int_eq close (pos 0)) ≡ a → int_le close p.amount ≡ b → fine ≡ t → Leaves p close (of_tests a b t)
      here true b t u v w = (no_close close).0 u
      here false true t u v w = (is_some_close close u, int_le-true close p.amount v)
      here false false true u v w =
          let up = int_le-false close p.amount v in
          let f = lowest (unsigned_abs (close -ℤ p.amount)) (unsigned_abs close) in
          (record { some = is_some_close close u; above = up }, record { num = f.num; den = f.den; ratio = lowest-is p close is up; fine = is_fine f.num f.den w })
      here false false false u v w =
          let up = int_le-false close p.amount v in
          let f = lowest (unsigned_abs (close -ℤ p.amount)) (unsigned_abs close) in
          let ratio : IsLowest p close f.num f.den = lowest-is p close is up in
          let n : 0 < f.num = num-pos p close is up f.num f.den ratio in
          let d : 0 < f.den = den-pos p close is up f.num f.den ratio in
          let few = in_parts f.num f.den n d w in (
            record { some = is_some_close close u; above = up },
            record {
              id = refl;
              sid = refl;
              effective = refl;
              num = f.num;
              den = f.den;
              num_is = refl;
              den_is = refl;
              ratio = ratio;
              on_a_day = on_a_day p.ex is.date;
              in_parts = record { num = (omega (arith, ints), omega (arith, ints)); den = (omega (arith, ints), omega (arith, ints)) };
              rounds = rounds p close is up f.num f.den ratio;
            },
          )

  pub leaves-from : (answer : Result RawAdjust Skip) → Leaves p close answer → ratio_over p close ≡ answer
  unfolding ratio_over
  leaves-from (Err NoSession) h = absurd h
  leaves-from (Err NoClose) h = rw ((no_close close).1 h) refl
  leaves-from (Err NotBelow) h = rw (some_close close h.0, le-int_le close p.amount h.1) refl
  leaves-from (Err TooFine) h =
      let f = lowest (unsigned_abs (close -ℤ p.amount)) (unsigned_abs close) in
      let num : h.1.num ≡ f.num = same-num p close is h.0.above h.1.num h.1.den h.1.ratio in
      let den : h.1.den ≡ f.den = same-den p close is h.0.above h.1.num h.1.den h.1.ratio in
      let t : is_too_fine f ≡ true = too_fine f.num f.den (rw (num, den) at h.1.fine) in
      rw (some_close close h.0.some, lt-int_le close p.amount h.0.above, t) refl
  leaves-from (Ok r) h =
      let f = lowest (unsigned_abs (close -ℤ p.amount)) (unsigned_abs close) in
      let row = h.1 in
      let num : row.num ≡ f.num = same-num p close is h.0.above row.num row.den row.ratio in
      let den : row.den ≡ f.den = same-den p close is h.0.above row.num row.den row.ratio in
      let n : pos f.num ≤ℤ pos 1000000000 = rw (row.num_is, num) at row.in_parts.num.1 in
      let d : pos f.den ≤ℤ pos 1000000000 = rw (row.den_is, den) at row.in_parts.den.1 in
      let t : is_too_fine f ≡ false = not_fine f.num f.den (omega (arith, ints)) (omega (arith, ints)) in
      rw (some_close close h.0.some, lt-int_le close p.amount h.0.above, t)
      (ap Ok (row-is p f row.num row.den r row.id row.sid row.effective row.num_is row.den_is num den))

-- ---- over the sessions

module _ (days : List ℤ) (assets : List AssetRow) (bars : List BarRow) (p : Payout) (up : AllPairs (λ a b. a <ℤ b) days) (is : IsPayout p) where
  abbrev said : Option ℕ → Result RawAdjust Skip
  said o = ratio_if p (option_map (raw_close days assets bars p.sid) o)

  comes-is : ComesTo days assets bars p (ratio_in days assets bars p)
  unfolding ratio_in close_before
  comes-is = here (last_before days p.ex) refl
    where
      here : (o : Option ℕ) → last_before days p.ex ≡ o → ComesTo days assets bars p (said o)
      here None e = inl (last-none days p.ex up e, refl)
      here (Some s) e =
          let close = raw_close days assets bars p.sid s in inr (close, record { session = s; last = last-is days p.ex up s e; raw = refl }, leaves-is p close is)

  comes-from : (answer : Result RawAdjust Skip) → ComesTo days assets bars p answer → ratio_in days assets bars p ≡ answer
  unfolding ratio_in close_before
  comes-from answer h = here (last_before days p.ex) refl h
    where
      here : (o : Option ℕ) → last_before days p.ex ≡ o → ComesTo days assets bars p answer → said o ≡ answer
      here None e (inl h) = sym h.1
      here None e (inr h) = absurd (last-none days p.ex up e h.1.session h.1.last)
      here (Some s) e (inl h) = absurd (h.0 s (last-is days p.ex up s e))
      here (Some s) e (inr h) =
          let same : s ≡ h.1.session = last-one days p.ex up s h.1.session (last-is days p.ex up s e) h.1.last in
          let close : raw_close days assets bars p.sid s ≡ h.0 = ap (raw_close days assets bars p.sid) same ∙ h.1.raw in
          ap (ratio_over p) close ∙ leaves-from p h.0 is answer h.2

  pub comes : (answer : Result RawAdjust Skip) → (ratio_in days assets bars p ≡ answer) ↔ ComesTo days assets bars p answer
  comes answer = (λ e. subst (ComesTo days assets bars p) e comes-is, comes-from answer)
