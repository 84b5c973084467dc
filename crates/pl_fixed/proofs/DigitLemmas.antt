-- Digits, and the numbers that they write.
use Rattle.std.proofs.Common.{◌≡◌, ℕ, zero, suc, ◌+◌, ◌-◌, ◌*◌, ◌/◌, ◌%◌, ◌^◌, ◌<◌, ◌≤◌, Bool, true, false, cond, nat_lt, min, List, [], ◌∷◌, ◌++◌, length, append_assoc, length-append, take, drop, drop-cons, get_or, append-nil, refl, sym, ap, ◌∙◌, arith}
use Rattle.std.proofs.Math.Nat.{one-le-pow, pow-le-pow_right, pow-suc}
use Rattle.std.specs.List.{list_all}
use Rattle.std.specs.Char.{is_ascii_digit, digit_value}
use Rattle.std.specs.Fmt.{decimal}
use Rattle.std.specs.Str.Parse.{AllDigits, digits_value, digits_value_after}
use Rattle.std.proofs.lemmas.Nat.{div-add-mod', mod_below, div_below}
use Rattle.std.proofs.lemmas.Bool.{and_parts}
use Rattle.std.proofs.lemmas.Bool.Decides.{nat_tests}
use Rattle.std.proofs.lemmas.Int.Digits.{digits_value_push, digits_push, digits_value-lt, digits_value_more, digits_more}
use Rattle.std.proofs.lemmas.List.{take-append-drop}
use Rattle.std.proofs.lemmas.List.Sums.{take_while-cons}
use Rattle.std.proofs.lemmas.Fmt.{decimal_digit, decimal_step}
use Rattle.std.proofs.lemmas.Str.{digit_value_digit}
use Rattle.std.proofs.lemmas.Str.Parse.{digit_from_value}
use Rattle.pl_spec.specs.Dates.{digits}
use Rattle.pl_fixed.specs.Pairs.{IsPairAt}
use Rattle.pl_fixed.specs.Reading.{is_numeral, front_digits}

-- ---- bytes that are digits

digit_from_test : (c : ℕ) → is_ascii_digit c ≡ true → digit_value c < 10
digit_from_test c h = grind (arith, nat_tests)

test_from_digit : (c : ℕ) → digit_value c < 10 → is_ascii_digit c ≡ true
test_from_digit c h = let p = digit_from_value c h in grind (arith, nat_tests)

pub AllDigits-from_test : (ds : List ℕ) → list_all is_ascii_digit ds ≡ true → AllDigits 10 ds
AllDigits-from_test [] h = tt
AllDigits-from_test (c ∷ cs) h =
    let p = and_parts (is_ascii_digit c) _ h in
    (digit_from_test c p.0, AllDigits-from_test cs p.1)

pub test-AllDigits : (ds : List ℕ) → AllDigits 10 ds → list_all is_ascii_digit ds ≡ true
test-AllDigits [] h = refl
test-AllDigits (c ∷ cs) h = rw (test_from_digit c h.0) (test-AllDigits cs h.1)

-- ---- one digit or more

pub nat_lt-zero-suc : (n : ℕ) → nat_lt 0 (suc n) ≡ true
nat_lt-zero-suc n = grind (arith, nat_tests)

pub is_numeral-digits : (bs : List ℕ) → is_numeral bs ≡ true → AllDigits 10 bs
is_numeral-digits bs h = AllDigits-from_test bs (and_parts _ _ h).1

pub is_numeral-some : (bs : List ℕ) → is_numeral bs ≡ true → 0 < length bs
is_numeral-some bs h = let some = (and_parts (nat_lt 0 (length bs)) (list_all is_ascii_digit bs) h).0 in grind (arith, nat_tests)

pub is_numeral-from_digits : (bs : List ℕ) → 0 < length bs → AllDigits 10 bs → is_numeral bs ≡ true
is_numeral-from_digits [] p h = absurd (omega arith)
is_numeral-from_digits (c ∷ cs) p h = rw (test-AllDigits (c ∷ cs) h, nat_lt-zero-suc (length cs)) refl

-- ---- the digits in front

front_step : (b : Bool) (c : ℕ) (ds : List ℕ) → (b ≡ true → digit_value c < 10) → AllDigits 10 ds → AllDigits 10 (cond b (c ∷ ds) [])
front_step true c ds h hs = (h refl, hs)
front_step false c ds h hs = tt

-- the digits in front are digits
pub AllDigits-front : (bs : List ℕ) → AllDigits 10 (front_digits bs)
AllDigits-front [] = tt
AllDigits-front (c ∷ cs) =
    rw (take_while-cons is_ascii_digit c cs) (front_step (is_ascii_digit c) c (front_digits cs) (digit_from_test c) (AllDigits-front cs))

pub front-append : (ds rest : List ℕ) → AllDigits 10 ds → front_digits rest ≡ [] → front_digits (ds ++ rest) ≡ ds
front-append [] rest h e = e
front-append (d ∷ ds) rest h e =
    rw (take_while-cons is_ascii_digit d (ds ++ rest), test_from_digit d h.0, front-append ds rest h.1 e)

-- ---- the number that digits write

-- one more digit of a number that stops at `most`
pub capped : (most value before digit part after next : ℕ) → value ≡ min most before → after ≡ before * 10 + digit → part ≡ digit
    → next ≡ min (value * 10 + part) most → next ≡ min most after
capped most value before digit part after next e f g h = omega arith

digits_value_after-append : (n : ℕ) (xs ys : List ℕ) → digits_value_after 10 n (xs ++ ys) ≡ digits_value_after 10 (digits_value_after 10 n xs) ys
digits_value_after-append n [] ys = refl
digits_value_after-append n (x ∷ xs) ys = digits_value_after-append (n * 10 + digit_value x) xs ys

shifted : (n d p v a f : ℕ) → a ≡ (n * 10 + d) * p + v → f ≡ (0 * 10 + d) * p + v → a ≡ n * (p * 10) + f
shifted n d p v a f e h = omega arith

digits_value_after-is : (n : ℕ) (ys : List ℕ) → digits_value_after 10 n ys ≡ n * 10 ^ length ys + digits_value 10 ys
digits_value_after-is n [] = omega arith
digits_value_after-is n (y ∷ ys) =
    let more : digits_value_after 10 n (y ∷ ys) ≡ (n * 10 + digit_value y) * 10 ^ length ys + digits_value 10 ys =
    digits_value_after-is (n * 10 + digit_value y) ys in
    let first : digits_value 10 (y ∷ ys) ≡ (0 * 10 + digit_value y) * 10 ^ length ys + digits_value 10 ys =
    digits_value_after-is (0 * 10 + digit_value y) ys in
    rw (pow-suc 10 (length ys)) (shifted n (digit_value y) (10 ^ length ys) (digits_value 10 ys) _ _ more first)

pub digits_value-append : (xs ys : List ℕ) → digits_value 10 (xs ++ ys) ≡ digits_value 10 xs * 10 ^ length ys + digits_value 10 ys
digits_value-append xs ys = digits_value_after-append 0 xs ys ∙ digits_value_after-is (digits_value 10 xs) ys

pub power_pos : (k : ℕ) → 0 < 10 ^ k
power_pos k = one-le-pow k 10 (omega arith)

pub power_le : (k : ℕ) → k ≤ 18 → 10 ^ k ≤ 10 ^ 18
power_le k h = pow-le-pow_right (omega arith) h

-- ---- the digits in front, one more at a time

-- digits that are followed by no digit are those in front
pub front-at : (bs : List ℕ) (i : ℕ) → i < length bs → AllDigits 10 (take i bs) → is_ascii_digit (get_or bs i 0) ≡ false → take i bs ≡ front_digits bs
front-at bs i l h e =
    let rest : front_digits (drop i bs) ≡ [] = rw (drop-cons bs i 0 l, take_while-cons is_ascii_digit (get_or bs i 0) (drop (suc i) bs), e) refl in
    sym (ap front_digits (sym (take-append-drop i bs)) ∙ front-append (take i bs) (drop i bs) h rest)

pub front-all : (bs : List ℕ) → AllDigits 10 bs → bs ≡ front_digits bs
front-all bs h = sym (ap front_digits (sym (append-nil bs)) ∙ front-append bs [] h refl)

-- one more of the digits in front
pub record HasMore (bs : List ℕ) (i : ℕ) : Type 0 where
  pub all : AllDigits 10 (take (i + 1) bs)
  pub number : digits_value 10 (take (i + 1) bs) ≡ digits_value 10 (take i bs) * 10 + (get_or bs i 0 - 48)
  pub small : get_or bs i 0 < 58

less_48 : (d c : ℕ) → d + 48 ≡ c → d ≡ c - 48
less_48 d c e = omega arith

pub one_more_digit : (bs : List ℕ) (i : ℕ) → i < length bs → AllDigits 10 (take i bs) → is_ascii_digit (get_or bs i 0) ≡ true → HasMore bs i
one_more_digit bs i l h t =
    let below = digit_from_test (get_or bs i 0) t in
    let range = digit_from_value (get_or bs i 0) below in
    let value = less_48 _ _ (digit_value_digit (get_or bs i 0) range) in
    record {
      all = digits_more 10 bs i l h below;
      number = digits_value_more 10 bs i l ∙ ap (λ d. digits_value 10 (take i bs) * 10 + d) value;
      small = omega (arith, range);
    }

-- a number of at most 18 digits
pub short_number : (ds : List ℕ) → length ds ≤ 18 → AllDigits 10 ds → digits_value 10 ds < 10 ^ 18
short_number ds n h = omega (arith, digits_value-lt 10 ds h, power_le (length ds) n)

-- ---- a number in so many digits

digit_of : (d : ℕ) → d < 10 → digit_value (48 + d) ≡ d
digit_of d h = grind (arith, nat_tests)

digit_below : (d : ℕ) → d < 10 → digit_value (48 + d) < 10
digit_below d h = rw (digit_of d h) h

-- ---- two digits, and six, by pairs

digit_is : (c n : ℕ) → n < 10 → c ≡ 48 + n → digit_value c ≡ n
digit_is c n h e = ap digit_value e ∙ digit_of n h

-- their digits and their number
pub record AreDigitsOf (bs : List ℕ) (n : ℕ) : Type 0 where
  pub digits : AllDigits 10 bs
  pub number : n ≡ digits_value 10 bs

two_of : (a b x : ℕ) → x < 100 → digit_value a ≡ x / 10 → digit_value b ≡ x % 10 → AreDigitsOf (a ∷ b ∷ []) x
two_of a b x hx da db = record {
  digits = (omega arith, (omega arith, tt));
  number = omega (arith, div-add-mod' x 10);
}

pub two_digits-pair : (bs : List ℕ) (x : ℕ) → length bs ≡ 2 → IsPairAt bs 0 x → AreDigitsOf bs x
two_digits-pair [] x n p = absurd (omega arith)
two_digits-pair (a ∷ []) x n p = absurd (omega arith)
two_digits-pair (a ∷ b ∷ []) x n p =
    two_of a b x p.below (digit_is a (x / 10) (omega (arith, p.below)) p.tens) (digit_is b (x % 10) (mod_below x 10 (omega arith)) p.ones)
two_digits-pair (a ∷ b ∷ c ∷ cs) x n p = absurd (omega arith)

six_of : (a b c d e f x y z : ℕ) → x < 100 → y < 100 → z < 100
    → digit_value a ≡ x / 10 → digit_value b ≡ x % 10 → digit_value c ≡ y / 10 → digit_value d ≡ y % 10 → digit_value e ≡ z / 10 → digit_value f ≡ z % 10
    → AreDigitsOf (a ∷ b ∷ c ∷ d ∷ e ∷ f ∷ []) (x * 10_000 + y * 100 + z)
six_of a b c d e f x y z hx hy hz da db dc dd de df =
    record {
      digits = (omega arith, (omega arith, (omega arith, (omega arith, (omega arith, (omega arith, tt))))));
      number = omega (arith, div-add-mod' x 10, div-add-mod' y 10, div-add-mod' z 10);
    }

pub six_digits-pairs : (bs : List ℕ) (x y z : ℕ) → length bs ≡ 6 → IsPairAt bs 0 x → IsPairAt bs 2 y → IsPairAt bs 4 z → AreDigitsOf bs (x * 10_000 + y * 100 + z)
six_digits-pairs [] x y z n p q r = absurd (omega arith)
six_digits-pairs (a ∷ []) x y z n p q r = absurd (omega arith)
six_digits-pairs (a ∷ b ∷ []) x y z n p q r = absurd (omega arith)
six_digits-pairs (a ∷ b ∷ c ∷ []) x y z n p q r = absurd (omega arith)
six_digits-pairs (a ∷ b ∷ c ∷ d ∷ []) x y z n p q r = absurd (omega arith)
six_digits-pairs (a ∷ b ∷ c ∷ d ∷ e ∷ []) x y z n p q r = absurd (omega arith)
six_digits-pairs (a ∷ b ∷ c ∷ d ∷ e ∷ f ∷ []) x y z n p q r =
    six_of a b c d e f x y z p.below q.below r.below
    (digit_is a (x / 10) (omega (arith, p.below)) p.tens) (digit_is b (x % 10) (mod_below x 10 (omega arith)) p.ones)
    (digit_is c (y / 10) (omega (arith, q.below)) q.tens) (digit_is d (y % 10) (mod_below y 10 (omega arith)) q.ones)
    (digit_is e (z / 10) (omega (arith, r.below)) r.tens) (digit_is f (z % 10) (mod_below z 10 (omega arith)) r.ones)
six_digits-pairs (a ∷ b ∷ c ∷ d ∷ e ∷ f ∷ g ∷ gs) x y z n p q r = absurd (omega arith)

pub length-digits : (k n : ℕ) → length (digits k n) ≡ k
unfolding digits
length-digits zero n = refl
length-digits (suc k) n = omega (arith, length-append (digits k (n / 10)) ((48 + n % 10) ∷ []), length-digits k (n / 10))

pub AllDigits-digits : (k n : ℕ) → AllDigits 10 (digits k n)
unfolding digits
AllDigits-digits zero n = tt
AllDigits-digits (suc k) n =
    digits_push 10 (digits k (n / 10)) (48 + n % 10) (AllDigits-digits k (n / 10)) (digit_below (n % 10) (mod_below n 10 (omega arith)))

pub digits_value-digits : (k n : ℕ) → n < 10 ^ k → digits_value 10 (digits k n) ≡ n
unfolding digits
digits_value-digits zero n h = omega arith
digits_value-digits (suc k) n h =
    let low = mod_below n 10 (omega arith) in
    let high : digits_value 10 (digits k (n / 10)) ≡ n / 10 =
    digits_value-digits k (n / 10) (div_below n 10 (10 ^ k) (omega arith) (rw (pow-suc 10 k) at h)) in
    digits_value_push 10 (digits k (n / 10)) (48 + n % 10) ∙ rw (high, digit_of _ low) (div-add-mod' n 10)

two_digits : (n : ℕ) → digits 2 n ≡ (48 + n / 10 % 10) ∷ (48 + n % 10) ∷ []
unfolding digits
two_digits n = refl

-- two digits
pub digits_two : (n : ℕ) → n < 100 → digits 2 n ≡ (48 + n / 10) ∷ (48 + n % 10) ∷ []
digits_two n h = let e : n / 10 % 10 ≡ n / 10 = omega arith in rw (two_digits n, e) refl

-- the last two of some digits
digits-pair : (k n : ℕ) → digits (suc (suc k)) n ≡ digits k (n / 100) ++ digits 2 (n % 100)
unfolding digits
digits-pair k n =
    let high : n / 10 / 10 ≡ n / 100 = omega arith in
    let tens : n % 100 / 10 % 10 ≡ n / 10 % 10 = omega arith in
    let ones : n % 100 % 10 ≡ n % 10 = omega arith in
    rw (two_digits (n % 100), tens, ones, high) (append_assoc (digits k (n / 100)) ((48 + n / 10 % 10) ∷ []) ((48 + n % 10) ∷ []))

-- six digits in pairs
pub digits_six : (n : ℕ) → digits 6 n ≡ (digits 2 (n / 10_000) ++ digits 2 (n / 100 % 100)) ++ digits 2 (n % 100)
digits_six n =
    let high : n / 100 / 100 ≡ n / 10_000 = omega arith in
    rw (digits-pair 4 n, digits-pair 2 (n / 100), high) refl

-- a number of two digits
pub decimal_two : (n : ℕ) → 10 ≤ n → n < 100 → decimal n ≡ digits 2 n
decimal_two n low high =
    rw (decimal_step n low (omega arith), decimal_digit (n / 10) (omega arith), digits_two n high) refl

-- the last two digits of a number
pub decimal_pair : (n : ℕ) → 100 ≤ n → n < 2 ^ 64 → decimal n ≡ decimal (n / 100) ++ digits 2 (n % 100)
decimal_pair n low fits =
    let high : n / 10 / 10 ≡ n / 100 = omega arith in
    let tens : n % 100 / 10 ≡ n / 10 % 10 = omega arith in
    let ones : n % 100 % 10 ≡ n % 10 = omega arith in
    rw (decimal_step n (omega arith) fits, decimal_step (n / 10) (omega arith) (omega arith), digits_two (n % 100) (mod_below n 100 (omega arith)), tens, ones, high)
    (append_assoc (decimal (n / 100)) ((48 + n / 10 % 10) ∷ []) ((48 + n % 10) ∷ []))
