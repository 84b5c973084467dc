-- Ratios that round nothing may act in either order.
use Rattle.std.proofs.Common.{◌≡◌, ℕ, zero, suc, ◌*◌, ◌/◌, ◌<◌, false, ℤ, pos, negsuc, ◌*ℤ◌, neg_ℤ, List, [], ◌∷◌, map, refl, sym, ◌∙◌, ap, arith, inl, inr, ◌⊎◌}
use Rattle.std.specs.Int.RustNames.{unsigned_abs}
use Rattle.std.proofs.Math.Nat.{mul-pos, mul-div_cancel}
use Rattle.std.proofs.lemmas.Bool.{true≢false}
use Rattle.pl_spec.specs.Rounding.{MISSING, Fraction, is_missing, scaled}
use Rattle.pl_spec.specs.Window.{Effect, after_all}
use Rattle.pl_spec.specs.Window.Effect.{Scale, Put}
use Rattle.pl_spec.proofs.Signed.{unsigned_abs-neg}
use Rattle.pl_invariance.specs.Exact.{Divides, AllDivide}

-- ---- whole numbers

-- by cases on the number, since the negative of 0 is positive
pub neg-times : (n b : ℕ) → (neg_ℤ (pos n) *ℤ pos b) ≡ neg_ℤ (pos (n * b))
neg-times zero b = let none : 0 * b ≡ 0 = omega arith in rw none refl
neg-times (suc n) b = refl

pub turned : (x : ℤ) (a b : ℕ) → ((x *ℤ pos a) *ℤ pos b) ≡ ((x *ℤ pos b) *ℤ pos a)
turned (pos n) a b = let same : n * a * b ≡ n * b * a = omega arith in ap pos same
turned (negsuc n) a b =
    let same : suc n * a * b ≡ suc n * b * a = omega arith in
    neg-times (suc n * a) b ∙ ap (λ k. neg_ℤ (pos k)) same ∙ sym (neg-times (suc n * b) a)

pub same_factor : (m n c : ℕ) → 0 < c → m * c ≡ n * c → m ≡ n
same_factor m n c some e = sym (mul-div_cancel m some) ∙ ap (λ k. k / c) e ∙ mul-div_cancel n some

pub other_sign : (x y : ℕ) → 0 < y → pos x ≡ neg_ℤ (pos y) → ⊥
other_sign x zero some e = absurd (omega arith)
other_sign x (suc y) some e = absurd (let bad : pos x ≡ negsuc y = e in cc)

pub cancel : (a b : ℤ) (c : ℕ) → 0 < c → (a *ℤ pos c) ≡ (b *ℤ pos c) → a ≡ b
cancel (pos m) (pos n) c some e = ap pos (same_factor m n c some (ap unsigned_abs e))
cancel (pos m) (negsuc n) c some e = absurd (other_sign (m * c) (suc n * c) (mul-pos (omega arith) some) e)
cancel (negsuc m) (pos n) c some e = absurd (other_sign (n * c) (suc m * c) (mul-pos (omega arith) some) (sym e))
cancel (negsuc m) (negsuc n) c some e =
    let size : suc m * c ≡ suc n * c = sym (unsigned_abs-neg (pos (suc m * c))) ∙ ap unsigned_abs e ∙ unsigned_abs-neg (pos (suc n * c)) in
    let same : suc m ≡ suc n = same_factor (suc m) (suc n) c some size in
    let one : m ≡ n = omega arith in
    ap negsuc one

-- the product of a cell by two ratios is one number, whichever comes first
crossed : (x y y' z z' : ℤ) (fn fd rn rd : ℕ) → 0 < fd → 0 < rd → (y *ℤ pos fd) ≡ (x *ℤ pos fn) → (y' *ℤ pos rd) ≡ (x *ℤ pos rn)
    → (z *ℤ pos fd) ≡ (y' *ℤ pos fn) → (z' *ℤ pos rd) ≡ (y *ℤ pos rn) → z ≡ z'
crossed x y y' z z' fn fd rn rd f_some r_some ey ey' ez ez' =
    let all : ((z *ℤ pos rd) *ℤ pos fd) ≡ ((z' *ℤ pos rd) *ℤ pos fd)
    = turned z rd fd
    ∙ ap (λ t. t *ℤ pos rd) ez
    ∙ turned y' fn rd
    ∙ ap (λ t. t *ℤ pos fn) ey'
    ∙ turned x rn fn
    ∙ ap (λ t. t *ℤ pos rn) (sym ey)
    ∙ turned y fd rn
    ∙ ap (λ t. t *ℤ pos fd) (sym ez') in
    cancel z z' rd r_some (cancel (z *ℤ pos rd) (z' *ℤ pos rd) fd f_some all)

-- ---- cells

pub missing_stays : (f : Fraction) → scaled f MISSING ≡ MISSING
unfolding scaled
missing_stays f = refl

present : (f : Fraction) (x : ℤ) → is_missing (scaled f x) ≡ false → x ≡ MISSING → ⊥
present f x h e = let m : scaled f x ≡ MISSING = ap (scaled f) e ∙ missing_stays f in absurd (true≢false (sym (ap is_missing m) ∙ h))

pub commute : (f r : Fraction) (x : ℤ) → Divides r x → Divides f x → Divides f (scaled r x) → Divides r (scaled f x) → scaled f (scaled r x) ≡ scaled r (scaled f x)
commute f r x dr df dfr drf = step dr.1 df.1 dfr.1 drf.1
  where
    both : x ≡ MISSING → scaled f (scaled r x) ≡ scaled r (scaled f x)
    both e =
        ap (λ t. scaled f (scaled r t)) e ∙ ap (scaled f) (missing_stays r) ∙ missing_stays f
        ∙ sym (ap (λ t. scaled r (scaled f t)) e ∙ ap (scaled r) (missing_stays f) ∙ missing_stays r)

    -- a product that is present is not missing
    not_gone : (g : Fraction) (y : ℤ) → is_missing y ≡ false → y ≡ MISSING → ⊥
    not_gone g y h e = absurd (true≢false (sym (ap is_missing e) ∙ h))

    step : ((x ≡ MISSING) ⊎ ((is_missing (scaled r x) ≡ false) × ((scaled r x *ℤ pos r.den) ≡ (x *ℤ pos r.num))))
        → ((x ≡ MISSING) ⊎ ((is_missing (scaled f x) ≡ false) × ((scaled f x *ℤ pos f.den) ≡ (x *ℤ pos f.num))))
        → ((scaled r x ≡ MISSING) ⊎ ((is_missing (scaled f (scaled r x)) ≡ false) × ((scaled f (scaled r x) *ℤ pos f.den) ≡ (scaled r x *ℤ pos f.num))))
        → ((scaled f x ≡ MISSING) ⊎ ((is_missing (scaled r (scaled f x)) ≡ false) × ((scaled r (scaled f x) *ℤ pos r.den) ≡ (scaled f x *ℤ pos r.num))))
        → scaled f (scaled r x) ≡ scaled r (scaled f x)
    step (inl e) b c d = both e
    step (inr a) (inl e) c d = both e
    step (inr a) (inr b) (inl e) d = absurd (not_gone r (scaled r x) a.0 e)
    step (inr a) (inr b) (inr c) (inl e) = absurd (not_gone f (scaled f x) b.0 e)
    step (inr a) (inr b) (inr c) (inr d) =
        crossed x (scaled f x) (scaled r x) (scaled f (scaled r x)) (scaled r (scaled f x)) f.num f.den r.num r.den df.0 dr.0 b.1 a.1 c.1 d.1

-- what an effect is where the ratio has acted before it
abbrev pub after_ratio : Fraction → Effect → Effect
after_ratio r (Scale f) = Scale f
after_ratio r (Put x) = Put (scaled r x)

first_divides : (r : Fraction) (x : ℤ) (fs : List Effect) → AllDivide r x fs → Divides r x
first_divides r x [] h = h
first_divides r x (Scale f ∷ fs) h = h.0
first_divides r x (Put y ∷ fs) h = h.0

-- a ratio that acts first, or last
pub first_or_last : (r : Fraction) (x : ℤ) (fs : List Effect) → AllDivide r x fs → after_all (scaled r x) (map (after_ratio r) fs) ≡ scaled r (after_all x fs)
first_or_last r x [] h = refl
first_or_last r x (Scale f ∷ fs) h =
    ap (λ t. after_all t (map (after_ratio r) fs)) (commute f r x h.0 h.1 h.2 (first_divides r (scaled f x) fs h.3))
    ∙ first_or_last r (scaled f x) fs h.3
first_or_last r x (Put y ∷ fs) h = first_or_last r y fs h.1
