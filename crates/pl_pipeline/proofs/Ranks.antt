-- How the five ranks of a value lie to one another, and descending ranks to ascending ones.
use Rattle.std.proofs.Common.{◌≡◌, ℕ, ◌+◌, ◌≤◌, Bool, true, false, ◌&&◌, ◌||◌, cond, nat_lt, ℤ, neg_ℤ, List, [], ◌∷◌, map, refl, sym, ◌∙◌, ap, arith}
use Rattle.std.specs.List.{Contains, list_any}
use Rattle.std.specs.Int.RustNames.{int_lt}
use Rattle.std.specs.Ordering.{int_eq}
use Rattle.std.proofs.lemmas.Bool.{and_right}
use Rattle.std.proofs.lemmas.Bool.Decides.{nat_tests}
use Rattle.std.proofs.lemmas.Int.{ints}
use Rattle.std.specs.Cmp.{first_so}
use Rattle.std.proofs.lemmas.Simd.{map-map}
use Rattle.pl_pipeline.specs.declared.RankMethod.{RankMethod}
use Rattle.pl_pipeline.specs.declared.RankMethod.TheVariants.{Ordinal, Min, Max, Dense, Average}
use Rattle.pl_pipeline.specs.declared.RankOrder.{RankOrder}
use Rattle.pl_pipeline.specs.declared.RankOrder.TheVariants.{Ascending, Descending}
use Rattle.pl_pipeline.specs.Cross.{Entry, values, earlier_same, distinct_values, rank}
use Rattle.pl_pipeline.specs.Order.{precedes, preceding, count_equal}
use Rattle.pl_pipeline.specs.CrossFacts.{AreRanks, negated}
use Rattle.pl_spec.proofs.Counts.{count-cons, count-fewer, count-agree, count-map}
use Rattle.pl_spec.proofs.Members.{contains-in}
use Rattle.pl_spec.proofs.Signed.{int_eq-true, eq-int_eq}

-- an entry is no earlier one than itself
earlier-fewer : (a : ℕ) (x : ℤ) (list : List Entry) → Contains list (a, x) → earlier_same a x list + 1 ≤ count_equal x (values list)
earlier-fewer a x list c =
    let self : nat_lt a a ≡ false = grind (arith, nat_tests) in
    let one : int_eq x x ≡ true = grind (arith, ints) in
    let fewer = count-fewer (λ (e : Entry). int_eq x e.1 && nat_lt e.0 a) (λ (e : Entry). int_eq x e.1) list (a, x) (contains-in list (a, x) c)
    (and_right (int_eq x x) (nat_lt a a) self) one (λ e i. first_so (int_eq x e.1) (nat_lt e.0 a)) in
    omega (arith, fewer, count-map (int_eq x) (λ (e : Entry). e.1) list)

cond-le : (b : Bool) (n m : ℕ) → n ≤ m → n ≤ cond b 1 0 + m
cond-le true n m h = omega arith
cond-le false n m h = omega arith

-- each value once: no more values come before x
distinct-fewer : (order : RankOrder) (x : ℤ) (vs : List ℤ) → preceding order x (distinct_values vs) ≤ preceding order x vs
distinct-fewer order x [] = omega arith
distinct-fewer order x (v ∷ vs) = rw (count-cons (λ u. precedes order u x) v vs) (here (list_any (int_eq v) vs) (distinct-fewer order x vs))
  where
    here : (b : Bool) → preceding order x (distinct_values vs) ≤ preceding order x vs
        → preceding order x (cond b (distinct_values vs) (v ∷ distinct_values vs)) ≤ cond (precedes order v x) 1 0 + preceding order x vs
    here true h = cond-le (precedes order v x) (preceding order x (distinct_values vs)) (preceding order x vs) h
    here false h = rw (count-cons (λ u. precedes order u x) v (distinct_values vs)) (omega arith)

pub ranks-between : (order : RankOrder) (list : List Entry) (a : ℕ) (x : ℤ) → AreRanks order list a x
ranks-between order list a x = record {
  least = omega arith;
  greatest = λ c. omega (arith, earlier-fewer a x list c);
  middle = omega arith;
  dense = omega (arith, distinct-fewer order x (values list));
}

-- ---- the negatives, turned round

-- tests that follow from one another are one
both_ways : (b c : Bool) → (b ≡ true → c ≡ true) → (c ≡ true → b ≡ true) → b ≡ c
both_ways true c f g = sym (f refl)
both_ways false true f g = g refl
both_ways false false f g = refl

precedes-negated : (v x : ℤ) → precedes Descending v x ≡ precedes Ascending (neg_ℤ v) (neg_ℤ x)
precedes-negated v x = both_ways (int_lt x v) (int_lt (neg_ℤ v) (neg_ℤ x)) (λ t. grind (arith, ints)) (λ t. grind (arith, ints))

same-negated : (x v : ℤ) → int_eq x v ≡ int_eq (neg_ℤ x) (neg_ℤ v)
same-negated x v =
    both_ways (int_eq x v) (int_eq (neg_ℤ x) (neg_ℤ v)) (λ t. eq-int_eq (neg_ℤ x) (neg_ℤ v) (ap neg_ℤ (int_eq-true x v t)))
    (λ t. eq-int_eq x v (one (int_eq-true (neg_ℤ x) (neg_ℤ v) t)))
  where
    one : neg_ℤ x ≡ neg_ℤ v → x ≡ v
    one e = omega (arith, ints)

values-negated : (list : List Entry) → values (negated list) ≡ map neg_ℤ (values list)
values-negated list = map-map (λ (e : Entry). e.1) (λ (e : Entry). (e.0, neg_ℤ e.1)) list ∙ sym (map-map neg_ℤ (λ (e : Entry). e.1) list)

preceding-negated : (x : ℤ) (vs : List ℤ) → preceding Descending x vs ≡ preceding Ascending (neg_ℤ x) (map neg_ℤ vs)
preceding-negated x vs =
    count-agree (λ v. precedes Descending v x) (λ v. precedes Ascending (neg_ℤ v) (neg_ℤ x)) vs (λ v i. precedes-negated v x)
    ∙ sym (count-map (λ v. precedes Ascending v (neg_ℤ x)) neg_ℤ vs)

same_values-negated : (x : ℤ) (vs : List ℤ) → count_equal x vs ≡ count_equal (neg_ℤ x) (map neg_ℤ vs)
same_values-negated x vs =
    count-agree (int_eq x) (λ v. int_eq (neg_ℤ x) (neg_ℤ v)) vs (λ v i. same-negated x v) ∙ sym (count-map (int_eq (neg_ℤ x)) neg_ℤ vs)

earlier-negated : (a : ℕ) (x : ℤ) (list : List Entry) → earlier_same a x list ≡ earlier_same a (neg_ℤ x) (negated list)
earlier-negated a x list =
    count-agree (λ (e : Entry). int_eq x e.1 && nat_lt e.0 a) (λ (e : Entry). int_eq (neg_ℤ x) (neg_ℤ e.1) && nat_lt e.0 a) list (λ e i. ap (λ b. b && nat_lt e.0 a) (same-negated x e.1))
    ∙ sym (count-map (λ (e : Entry). int_eq (neg_ℤ x) e.1 && nat_lt e.0 a) (λ (e : Entry). (e.0, neg_ℤ e.1)) list)

any-negated : (v : ℤ) (vs : List ℤ) → list_any (int_eq v) vs ≡ list_any (int_eq (neg_ℤ v)) (map neg_ℤ vs)
any-negated v [] = refl
any-negated v (u ∷ us) = ap (λ b. b || list_any (int_eq v) us) (same-negated v u) ∙ ap (λ b. int_eq (neg_ℤ v) (neg_ℤ u) || b) (any-negated v us)

distinct-negated : (vs : List ℤ) → distinct_values (map neg_ℤ vs) ≡ map neg_ℤ (distinct_values vs)
distinct-negated [] = refl
distinct-negated (v ∷ vs) = here (list_any (int_eq v) vs) (list_any (int_eq (neg_ℤ v)) (map neg_ℤ vs)) (any-negated v vs) (distinct-negated vs)
  where
    here : (b c : Bool) → b ≡ c → distinct_values (map neg_ℤ vs) ≡ map neg_ℤ (distinct_values vs)
        → cond c (distinct_values (map neg_ℤ vs)) (neg_ℤ v ∷ distinct_values (map neg_ℤ vs)) ≡ map neg_ℤ (cond b (distinct_values vs) (v ∷ distinct_values vs))
    here true c e rest = rw (← e) rest
    here false c e rest = rw (← e) (ap (λ l. neg_ℤ v ∷ l) rest)

pub descending-negated : (method : RankMethod) (list : List Entry) (a : ℕ) (x : ℤ) → rank method Descending list a x ≡ rank method Ascending (negated list) a (neg_ℤ x)
descending-negated Ordinal list a x = rw (values-negated list) (omega (arith, preceding-negated x (values list), earlier-negated a x list))
descending-negated Min list a x = rw (values-negated list) (omega (arith, preceding-negated x (values list)))
descending-negated Max list a x = rw (values-negated list) (omega (arith, preceding-negated x (values list), same_values-negated x (values list)))
descending-negated Dense list a x = rw (values-negated list, distinct-negated (values list)) (omega (arith, preceding-negated x (distinct_values (values list))))
descending-negated Average list a x = rw (values-negated list) (omega (arith, preceding-negated x (values list), same_values-negated x (values list)))
