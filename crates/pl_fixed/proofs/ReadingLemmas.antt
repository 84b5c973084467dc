-- Decimal texts: what is spelled is read, and what is read is spelled so.
use Rattle.std.proofs.Common.{◌≡◌, ◌≢◌, ◌⊎◌, ◌↔◌, inl, inr, ℕ, zero, suc, ◌+◌, ◌*◌, ◌^◌, ◌<◌, ◌≤◌, Bool, true, false, ◌&&◌, cond, ◌==◌, List, [], ◌∷◌, ◌++◌, length, take, take_all, drop, ℤ, pos, neg_ℤ, unsigned_abs, Result, Ok, Err, refl, sym, ap, ◌∙◌, arith, nat_lt, min}
use Rattle.std.specs.List.{prefix_len}
use Rattle.std.specs.Char.{is_ascii_digit, digit_value}
use Rattle.std.specs.Fmt.{sign_text}
use Rattle.std.specs.Str.Parse.{AllDigits, digits_value}
use Rattle.std.proofs.Math.Seq.{drop-append_seam}
use Rattle.std.proofs.lemmas.Nat.{le-div, mul-le}
use Rattle.std.proofs.lemmas.Bool.{false≢true, cases_lt, and_parts}
use Rattle.std.proofs.lemmas.Bool.Decides.{nat_tests}
use Rattle.std.proofs.lemmas.Int.Digits.{digits_value-lt}
use Rattle.std.proofs.lemmas.List.{take-append-drop}
use Rattle.std.proofs.lemmas.List.Folds.{length-prefix_len}
use Rattle.std.proofs.lemmas.List.Sums.{take_while-cons}
use Rattle.std.proofs.lemmas.Str.Parse.{digit_from_value}
use Rattle.pl_spec.specs.Rounding.{LIMIT, MILLION, div_round}
use Rattle.pl_fixed.proofs.RoundingLemmas.{div_round-multiple, div_round-multiple_neg}
use Rattle.pl_spec.specs.Decimals.{Decimal, IsDecimal, IsTooLong, IsTooLarge, IsReadAs, millionths, point_text, signed}
use Rattle.pl_fixed.specs.declared.decimal.DecimalFault.{DecimalFault}
use Rattle.pl_fixed.specs.declared.decimal.DecimalFault.TheVariants.{Empty, Shape, TooManyDigits, TooLarge}
use Rattle.pl_fixed.specs.Reading.{is_numeral, front_digits, in_range, judged, fraction_read, unsigned_read, read}
use Rattle.pl_fixed.proofs.RoundingLemmas.{unsigned_abs-div_round}
use Rattle.pl_fixed.proofs.DigitLemmas.{AllDigits-from_test, test-AllDigits, nat_lt-zero-suc, AllDigits-front, front-append, digits_value-append, power_pos, power_le, front-all, is_numeral-digits, is_numeral-some, is_numeral-from_digits}

abbrev decimal_of : Bool → List ℕ → List ℕ → Decimal
decimal_of negative whole fraction = record { negative = negative; whole = whole; fraction = fraction }

-- what is answered for the bytes: that their shape is wrong, or how the decimal is judged that they write
abbrev IsAnswer : List ℕ → Result ℤ DecimalFault → Type 0
IsAnswer bytes r = (r ≡ Err Shape) ⊎ ((d : Decimal) × IsDecimal d bytes × (r ≡ judged d))

-- and for what follows the digits in front
abbrev IsAnswerBehind : Bool → List ℕ → List ℕ → Result ℤ DecimalFault → Type 0
IsAnswerBehind negative whole rest r =
    (r ≡ Err Shape) ⊎ ((fs : List ℕ) × AllDigits 10 fs × (rest ≡ point_text fs) × (r ≡ judged (decimal_of negative whole fs)))

-- ---- what is spelled is read

front-point : (fs : List ℕ) → front_digits (point_text fs) ≡ []
front-point [] = refl
front-point (f ∷ fs) = take_while-cons is_ascii_digit 46 (f ∷ fs)

not_minus : (c : ℕ) → digit_value c < 10 → (c == 45) ≡ false
not_minus c h = let p = digit_from_value c h in grind (arith, nat_tests)

fraction_spelled : (negative : Bool) (whole fs : List ℕ) → AllDigits 10 fs
    → fraction_read negative whole (point_text fs) ≡ judged (decimal_of negative whole fs)
unfolding fraction_read
fraction_spelled negative whole [] h = refl
fraction_spelled negative whole (f ∷ fs) h = rw (test-AllDigits (f ∷ fs) h, nat_lt-zero-suc (length fs)) refl

unsigned_spelled : (negative : Bool) (whole fs : List ℕ) → 0 < length whole → AllDigits 10 whole → AllDigits 10 fs
    → unsigned_read negative (whole ++ point_text fs) ≡ judged (decimal_of negative whole fs)
unfolding unsigned_read
unsigned_spelled negative whole fs p hw hf =
    let n : (length whole == 0) ≡ false = grind (arith, nat_tests) in
    rw (front-append whole (point_text fs) hw (front-point fs), n, drop-append_seam whole (point_text fs)) (fraction_spelled negative whole fs hf)

signed_spelled : (negative : Bool) (whole fs : List ℕ) → 0 < length whole → AllDigits 10 whole → AllDigits 10 fs
    → read (sign_text negative ++ (whole ++ point_text fs)) ≡ judged (decimal_of negative whole fs)
unfolding read
signed_spelled true whole fs p hw hf = unsigned_spelled true whole fs p hw hf
signed_spelled false [] fs p hw hf = absurd (omega arith)
signed_spelled false (c ∷ cs) fs p hw hf =
    let n = not_minus c hw.0 in
    rw n (unsigned_spelled false (c ∷ cs) fs p hw hf)

pub read-spelled : (d : Decimal) (bytes : List ℕ) → IsDecimal d bytes → read bytes ≡ judged d
read-spelled d bytes h = ap read h.spelled ∙ signed_spelled d.negative d.whole d.fraction h.whole.0 h.whole.1 h.fraction

-- ---- what follows a point, by how many digits stand before it

pub full_front : (ds : List ℕ) → length ds ≤ length (front_digits ds) → front_digits ds ≡ ds
full_front ds h = take_all (prefix_len is_ascii_digit ds) ds (omega (arith, length-prefix_len is_ascii_digit ds))

all_of : (xs ys : List ℕ) → xs ≡ ys → AllDigits 10 xs → AllDigits 10 ys
all_of xs ys e h = rw (← e) h

pub part-digits : (ds : List ℕ) → front_digits ds ≡ ds → AllDigits 10 ds
part-digits ds e = all_of (front_digits ds) ds e (AllDigits-front ds)

pub part-read : (negative : Bool) (whole ds : List ℕ) → 0 < length ds → AllDigits 10 ds
    → fraction_read negative whole (46 ∷ ds) ≡ judged (decimal_of negative whole ds)
unfolding fraction_read
part-read negative whole ds p h = let t = is_numeral-from_digits ds p h in rw t refl

not_numeral : (ds : List ℕ) (b : Bool) → is_numeral ds ≡ b → length (front_digits ds) ≡ 0 ⊎ length (front_digits ds) < length ds → is_numeral ds ≡ false
not_numeral ds false e h = e
not_numeral ds true e h =
    let some = is_numeral-some ds e in
    let all : length ds ≡ length (front_digits ds) = ap length (front-all ds (is_numeral-digits ds e)) in
    absurd (elim h [ inl none ↦ omega arith | inr less ↦ omega arith ])

pub part-refused : (negative : Bool) (whole ds : List ℕ) → length (front_digits ds) ≡ 0 ⊎ length (front_digits ds) < length ds
    → fraction_read negative whole (46 ∷ ds) ≡ Err Shape
unfolding fraction_read
part-refused negative whole ds h = let t = not_numeral ds (is_numeral ds) refl h in rw t refl

-- ---- what is read is spelled so

not_none : (bs : List ℕ) → (length (front_digits bs) == 0) ≡ false → 0 < length (front_digits bs)
not_none bs e = grind (arith, nat_tests)

front_spelled : (negative : Bool) (bs fs : List ℕ) → drop (length (front_digits bs)) bs ≡ point_text fs
    → sign_text negative ++ bs ≡ sign_text negative ++ (front_digits bs ++ point_text fs)
front_spelled negative bs fs e =
    let n = prefix_len is_ascii_digit bs in
    let whole : take n bs ++ drop n bs ≡ bs = take-append-drop n bs in
    let rest : drop n bs ≡ point_text fs = ap (λ k. drop k bs) (sym (length-prefix_len is_ascii_digit bs)) ∙ e in
    ap (λ x. sign_text negative ++ x) (sym whole ∙ ap (λ x. front_digits bs ++ x) rest)

point_cases : (negative : Bool) (whole : List ℕ) (c : ℕ) (ds : List ℕ) (p : Bool) → (c == 46) ≡ p → (q : Bool) → is_numeral ds ≡ q
    → IsAnswerBehind negative whole (c ∷ ds) (cond (p && q) (judged (decimal_of negative whole ds)) (Err Shape))
point_cases negative whole c ds false e q f = inl refl
point_cases negative whole c ds true e false f = inl refl
point_cases negative whole c [] true e true f = absurd (false≢true f)
point_cases negative whole c (d ∷ ds) true e true f =
    let dot : c ≡ 46 = grind (arith, nat_tests) in
    inr (d ∷ ds, AllDigits-from_test (d ∷ ds) (and_parts _ _ f).1, ap (λ x. x ∷ d ∷ ds) dot, refl)

found_fraction : (negative : Bool) (whole rest : List ℕ) → IsAnswerBehind negative whole rest (fraction_read negative whole rest)
unfolding fraction_read
found_fraction negative whole [] = inr ([], tt, refl, refl)
found_fraction negative whole (c ∷ ds) = point_cases negative whole c ds (c == 46) refl (is_numeral ds) refl

found_front : (negative : Bool) (bs : List ℕ) (none : Bool) → (length (front_digits bs) == 0) ≡ none
    → IsAnswer (sign_text negative ++ bs) (cond none (Err Shape) (fraction_read negative (front_digits bs) (drop (length (front_digits bs)) bs)))
found_front negative bs true e = inl refl
found_front negative bs false e = elim (found_fraction negative (front_digits bs) (drop (length (front_digits bs)) bs)) [
  | inl h ↦ inl h
  | inr h ↦ inr (
    decimal_of negative (front_digits bs) h.0,
    record { whole = (not_none bs e, AllDigits-front bs); fraction = h.1; spelled = front_spelled negative bs h.0 h.2 },
    h.3,
  )
]

found_unsigned : (negative : Bool) (bs : List ℕ) → IsAnswer (sign_text negative ++ bs) (unsigned_read negative bs)
unfolding unsigned_read
found_unsigned negative bs = found_front negative bs (length (front_digits bs) == 0) refl

found_signed : (c : ℕ) (cs : List ℕ) (minus : Bool) → (c == 45) ≡ minus
    → IsAnswer (c ∷ cs) (cond minus (unsigned_read true cs) (unsigned_read false (c ∷ cs)))
found_signed c cs true e =
    let sign : c ≡ 45 = grind (arith, nat_tests) in
    rw sign (found_unsigned true cs)
found_signed c cs false e = found_unsigned false (c ∷ cs)

found : (bs : List ℕ) → bs ≢ [] → IsAnswer bs (read bs)
unfolding read
found [] h = absurd (h refl)
found (c ∷ cs) h = found_signed c cs (c == 45) refl

-- ---- what a decimal is judged

in_range-large : (v : ℤ) → LIMIT < unsigned_abs v → in_range v ≡ Err TooLarge
unfolding in_range
in_range-large v h = let t : nat_lt LIMIT (unsigned_abs v) ≡ true = grind (arith, nat_tests) in rw t

in_range-cell : (v : ℤ) → unsigned_abs v ≤ LIMIT → in_range v ≡ Ok v
unfolding in_range
in_range-cell v h = let t : nat_lt LIMIT (unsigned_abs v) ≡ false = grind (arith, nat_tests) in rw t

pub judged-long : (d : Decimal) → IsTooLong d → judged d ≡ Err TooManyDigits
unfolding judged
judged-long d h = let t : nat_lt 18 (length d.fraction) ≡ true = grind (arith, nat_tests) in rw t

pub judged-short : (d : Decimal) → length d.fraction ≤ 18 → judged d ≡ in_range (millionths d)
unfolding judged
judged-short d h = let t : nat_lt 18 (length d.fraction) ≡ false = grind (arith, nat_tests) in rw t

-- each decimal is too long, too large or a cell
judged_is : (d : Decimal)
    → (IsTooLong d × (judged d ≡ Err TooManyDigits))
    ⊎ ((IsTooLarge d × (judged d ≡ Err TooLarge)) ⊎ (IsReadAs d (millionths d) × (judged d ≡ Ok (millionths d))))
judged_is d =
    elim (cases_lt 18 (length d.fraction)) [
      | inl long ↦ inl (long, judged-long d long)
      | inr short ↦ inr (elim (cases_lt LIMIT (unsigned_abs (millionths d))) [
        | inl large ↦ inl ((short, large), judged-short d short ∙ in_range-large _ large)
        | inr fits ↦ inr ((short, fits, refl), judged-short d short ∙ in_range-cell _ fits)
      ])
    ]

not_judged_shape : (d : Decimal) → judged d ≢ Err Shape
not_judged_shape d e = elim (judged_is d) [
  | inl h ↦ absurd (cc (e, h.1))
  | inr k ↦ elim k [ inl h ↦ absurd (cc (e, h.1)) | inr h ↦ absurd (cc (e, h.1)) ]
]

not_judged_empty : (d : Decimal) → judged d ≢ Err Empty
not_judged_empty d e = elim (judged_is d) [
  | inl h ↦ absurd (cc (e, h.1))
  | inr k ↦ elim k [ inl h ↦ absurd (cc (e, h.1)) | inr h ↦ absurd (cc (e, h.1)) ]
]

too_long_from : (d : Decimal) → judged d ≡ Err TooManyDigits → IsTooLong d
too_long_from d e = elim (judged_is d) [
  | inl h ↦ h.0
  | inr k ↦ elim k [ inl h ↦ absurd (cc (e, h.1)) | inr h ↦ absurd (cc (e, h.1)) ]
]

too_large_from : (d : Decimal) → judged d ≡ Err TooLarge → IsTooLarge d
too_large_from d e = elim (judged_is d) [
  | inl h ↦ absurd (cc (e, h.1))
  | inr k ↦ elim k [ inl h ↦ h.0 | inr h ↦ absurd (cc (e, h.1)) ]
]

read_as_from : (d : Decimal) (v : ℤ) → judged d ≡ Ok v → IsReadAs d v
read_as_from d v e = elim (judged_is d) [
  | inl h ↦ absurd (cc (e, h.1))
  | inr k ↦ elim k [ inl h ↦ absurd (cc (e, h.1)) | inr h ↦ let same : v ≡ millionths d = cc (e, h.1) in rw same h.0 ]
]

-- ---- each answer, exactly where it comes

some_or_none : (bs : List ℕ) → (bs ≡ []) ⊎ (bs ≢ [])
some_or_none [] = inl refl
some_or_none (c ∷ cs) = inr (λ e. cc)

read_none : read [] ≡ Err Empty
unfolding read
read_none = refl

-- an answer other than the first two is the judgement of a decimal that the bytes spell
spelled_from : (bs : List ℕ) (r : Result ℤ DecimalFault) → r ≢ Err Empty → r ≢ Err Shape → read bs ≡ r
    → (d : Decimal) × IsDecimal d bs × (judged d ≡ r)
spelled_from bs r some shaped e =
    elim (some_or_none bs) [
      | inl none ↦ absurd (some (sym e ∙ ap read none ∙ read_none))
      | inr any ↦ elim (found bs any) [
        | inl bad ↦ absurd (shaped (sym e ∙ bad))
        | inr f ↦ (f.0, f.1, sym f.2 ∙ e)
      ]
    ]

empty_from : (bs : List ℕ) → read bs ≡ Err Empty → bs ≡ []
empty_from bs e = elim (some_or_none bs) [
  | inl none ↦ none
  | inr any ↦ elim (found bs any) [ inl bad ↦ absurd cc | inr f ↦ absurd (not_judged_empty f.0 (sym f.2 ∙ e)) ]
]

pub read-empty : (bs : List ℕ) → (read bs ≡ Err Empty) ↔ (bs ≡ [])
read-empty bs = (empty_from bs, λ e. ap read e ∙ read_none)

pub read-shape : (bs : List ℕ) → (read bs ≡ Err Shape) ↔ ((bs ≢ []) × ((d : Decimal) → ¬ IsDecimal d bs))
read-shape bs = (
  λ e. (λ none. absurd (cc (e, ap read none, read_none)), λ d h. not_judged_shape d (sym (read-spelled d bs h) ∙ e)),
  λ w. elim (found bs w.0) [ inl bad ↦ bad | inr f ↦ absurd (w.1 f.0 f.1) ],
)

pub read-too_many_digits : (bs : List ℕ) → (read bs ≡ Err TooManyDigits) ↔ ((d : Decimal) × IsDecimal d bs × IsTooLong d)
read-too_many_digits bs = (
  λ e. let f = spelled_from bs _ (λ x. cc) (λ x. cc) e in (f.0, f.1, too_long_from f.0 f.2),
  λ w. read-spelled w.0 bs w.1 ∙ judged-long w.0 w.2,
)

pub read-too_large : (bs : List ℕ) → (read bs ≡ Err TooLarge) ↔ ((d : Decimal) × IsDecimal d bs × IsTooLarge d)
read-too_large bs = (
  λ e. let f = spelled_from bs _ (λ x. cc) (λ x. cc) e in (f.0, f.1, too_large_from f.0 f.2),
  λ w. read-spelled w.0 bs w.1 ∙ judged-short w.0 w.2.0 ∙ in_range-large _ w.2.1,
)

pub read-value : (bs : List ℕ) (v : ℤ) → (read bs ≡ Ok v) ↔ ((d : Decimal) × IsDecimal d bs × IsReadAs d v)
read-value bs v = (
  λ e. let f = spelled_from bs _ (λ x. cc) (λ x. cc) e in (f.0, f.1, read_as_from f.0 v f.2),
  λ w. read-spelled w.0 bs w.1 ∙ judged-short w.0 w.2.0 ∙ ap in_range (sym w.2.2) ∙ in_range-cell v w.2.1,
)

-- ---- the number from capped parts

abs-signed : (negative : Bool) (n : ℕ) → unsigned_abs (signed negative n) ≡ n
abs-signed true zero = refl
abs-signed true (suc n) = refl
abs-signed false n = refl

-- a number from k times b on is k or more when it is divided by b
div_round-ge : (negative : Bool) (n b k : ℕ) → 0 < b → k * b ≤ n → k ≤ unsigned_abs (div_round (signed negative n) b)
div_round-ge negative n b k p h =
    rw (unsigned_abs-div_round (signed negative n) b, abs-signed negative n) (le-div k (2 * n + b) (2 * b) (omega arith) (omega arith))

-- The digits before the point count as 10^12 at most: from there on no cell holds the number, whatever
-- follows.
pub in_range-capped : (d : Decimal) (units part scale : ℕ) → length d.fraction ≤ 18 → AllDigits 10 d.fraction
    → units ≡ min (10 ^ 12) (digits_value 10 d.whole) → part ≡ min (10 ^ 18) (digits_value 10 d.fraction) → scale ≡ 10 ^ length d.fraction
    → in_range (div_round (signed d.negative ((units * scale + part) * MILLION)) scale) ≡ in_range (millionths d)
in_range-capped d units part scale short digits u p s =
    let power = 10 ^ length d.fraction in
    let all = digits_value 10 (d.whole ++ d.fraction) in
    let value = digits_value-append d.whole d.fraction in
    let below = digits_value-lt 10 d.fraction digits in
    let top = power_le (length d.fraction) short in
    let positive = power_pos (length d.fraction) in
    elim (cases_lt (10 ^ 12) (digits_value 10 d.whole)) [
      | inl large ↦
          let product : 10 ^ 12 * power ≤ digits_value 10 d.whole * power = mul-le (10 ^ 12) power _ _ (omega arith) (omega arith) in
          let full : units ≡ 10 ^ 12 = omega arith in
          let here = div_round-ge d.negative ((units * scale + part) * MILLION) scale (10 ^ 18) (omega arith) (rw (s, full) (omega arith)) in
          let there = div_round-ge d.negative (all * MILLION) power (10 ^ 18) positive (omega arith) in
          in_range-large _ (omega arith) ∙ sym (in_range-large (millionths d) (omega arith))
      | inr fits ↦
          let whole : units ≡ digits_value 10 d.whole = omega arith in
          let fraction : part ≡ digits_value 10 d.fraction = omega arith in
          let same : (units * scale + part) * MILLION ≡ all * MILLION = rw (whole, fraction, s, value) in
          rw (same, s)
    ]

-- ---- by the size and the sign

pub in_range-signed_large : (negative : Bool) (n : ℕ) → LIMIT < n → in_range (signed negative n) ≡ Err TooLarge
in_range-signed_large negative n h = in_range-large (signed negative n) (rw (abs-signed negative n) h)

pub in_range-signed_cell : (negative : Bool) (n : ℕ) → n ≤ LIMIT → in_range (signed negative n) ≡ Ok (signed negative n)
in_range-signed_cell negative n h = in_range-cell (signed negative n) (rw (abs-signed negative n) h)

-- ---- what nothing is rounded of

-- parts of a unit are less than a unit
pub few_millionths : (part power each : ℕ) → part < power → each * power ≡ MILLION → part * each ≤ MILLION
few_millionths part power each below unit =
    let product = mul-le part each power each (omega arith) (omega arith) in
    grind (arith, product, unit)

same_millionths : (u q r p : ℕ) → r * p ≡ MILLION → (u * p + q) * MILLION ≡ (u * MILLION + q * r) * p
same_millionths u q r p e =
    let some : q * (r * p) ≡ q * MILLION = ap (λ n. q * n) e in
    grind (arith, some)

pub exact_millionths : (negative : Bool) (u q p r : ℕ) → 0 < p → r * p ≡ MILLION
    → signed negative (u * MILLION + q * r) ≡ div_round (signed negative ((u * p + q) * MILLION)) p
exact_millionths false u q p r h e = sym (ap (λ n. div_round (pos n) p) (same_millionths u q r p e) ∙ div_round-multiple (u * MILLION + q * r) p h)
exact_millionths true u q p r h e = sym (ap (λ n. div_round (neg_ℤ (pos n)) p) (same_millionths u q r p e) ∙ div_round-multiple_neg (u * MILLION + q * r) p h)
