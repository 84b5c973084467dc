-- The deepest of the first falls of a window, cell by cell.
use Rattle.std.proofs.Common.{◌≡◌, ℕ, zero, suc, ◌+◌, ◌*◌, ◌<◌, ◌≤◌, Bool, true, false, cond, ℤ, pos, ◌-ℤ◌, ◌*ℤ◌, ◌≤ℤ◌, ◌<ℤ◌, List, [], ◌∷◌, ◌++◌, length, take, get_or, fold, unwrap_or, nat_eq, ne_eqb, unsigned_abs, refl, sym, ap, ap₂, subst, ◌∙◌, arith, inl, inr, ◌⊎◌, append-nil, FitsSigned, w64}
use Rattle.std.specs.List.{All, reduce}
use Rattle.std.specs.Int.{int_max}
use Rattle.std.specs.Int.RustNames.{int_lt}
use Rattle.std.proofs.lemmas.Bool.{cases_eq}
use Rattle.std.proofs.lemmas.Bool.Decides.{nat_tests}
use Rattle.std.proofs.lemmas.Int.{ints, fits_signed_from_abs}
use Rattle.std.proofs.lemmas.List.{get_or_default, take_all}
use Rattle.std.proofs.lemmas.List.Elements.{All-take}
use Rattle.std.proofs.lemmas.List.FromFn.{get_or-map-range_with_len, length-map-range_with_len}
use Rattle.pl_spec.specs.Rounding.{MISSING, MILLION, LIMIT, IsCell, is_missing, is_present, quot}
use Rattle.pl_spec.specs.Cells.{present_values, count, greatest}
use Rattle.pl_pipeline.specs.Formula.{fall, falls, drawdown}
use Rattle.pl_lanes.proofs.Bits.{at-cell, cell-fits}
use Rattle.pl_lanes.proofs.Cells.{is_within}
use Rattle.pl_lanes.proofs.Heights.{best-known}
use Rattle.pl_factors.specs.declared.order.Falls.{Falls}
use Rattle.pl_factors.specs.Falls.{AreFalls}
use Rattle.pl_factors.specs.Terms.{first_place}
use Rattle.pl_factors.proofs.FirstPlaces.{place-is}
use Rattle.pl_factors.proofs.InOrder.{present_next}
use Rattle.pl_factors.proofs.Peaks.{best-cell}

-- ---- the greatest of numbers

max-left : (u v : ℤ) → v ≤ℤ u → int_max u v ≡ u
max-left u v h = here (int_lt v u) refl
  where
    here : (b : Bool) → int_lt v u ≡ b → cond b u v ≡ u
    here true e = refl
    here false e = grind (arith, ints)

max-right : (u v : ℤ) → u ≤ℤ v → int_max u v ≡ v
max-right u v h = here (int_lt v u) refl
  where
    here : (b : Bool) → int_lt v u ≡ b → cond b u v ≡ v
    here true e = grind (arith, ints)
    here false e = refl

max-most : (u w v : ℤ) → u ≤ℤ v → w ≤ℤ v → int_max u w ≤ℤ v
max-most u w v h k = here (int_lt w u)
  where
    here : (b : Bool) → cond b u w ≤ℤ v
    here true = h
    here false = k

-- v is in a place of the list, and no value that is present lies above it
Bounds : ℤ → List ℤ → Type 0
Bounds v xs = (j : ℕ) → j < length xs → (is_missing (get_or xs j (pos 0)) ≡ true) ⊎ (get_or xs j (pos 0) ≤ℤ v)

Holds : ℤ → List ℤ → Type 0
Holds v xs = (p : ℕ) × (p < length xs) × (get_or xs p (pos 0) ≡ v)

rest-bounds : (v x : ℤ) (xs : List ℤ) → Bounds v (x ∷ xs) → Bounds v xs
unfolding Bounds
rest-bounds v x xs b j h = b (suc j) (omega arith)

unlike : (x v : ℤ) (b : Bool) → is_missing x ≡ true → is_missing v ≡ false → x ≡ v → ⊥
unlike x v b e f p = let bad : true ≡ false = sym e ∙ ap is_missing p ∙ f in cc

here-or-later : (v x : ℤ) (xs : List ℤ) → Holds v (x ∷ xs) → (x ≡ v) ⊎ Holds v xs
unfolding Holds
here-or-later v x xs (zero, h, e) = inl e
here-or-later v x xs (suc p, h, e) = inr (p, omega arith, e)

at-most : (v x : ℤ) (xs : List ℤ) → is_missing x ≡ false → Bounds v (x ∷ xs) → x ≤ℤ v
unfolding Bounds
at-most v x xs f b = elim (b 0 (omega arith)) [ inl e ↦ absurd (let bad : true ≡ false = sym e ∙ f in cc) | inr l ↦ l ]

folded-by : (v x : ℤ) (xs : List ℤ) (u : ℤ) (b : Bool) → is_missing x ≡ b → is_missing v ≡ false → u ≤ℤ v → Bounds v (x ∷ xs) → (u ≡ v) ⊎ Holds v (x ∷ xs)
    → ((w : ℤ) → w ≤ℤ v → (w ≡ v) ⊎ Holds v xs → fold int_max w (present_values xs) ≡ v) → fold int_max u (present_values (x ∷ xs)) ≡ v
folded-by v x xs u true e f le b (inl p) rest = rw e (rest u le (inl p))
folded-by v x xs u true e f le b (inr p) rest = elim (here-or-later v x xs p) [
  | inl q ↦ absurd (unlike x v true e f q)
  | inr q ↦ rw e (rest u le (inr q))
]
folded-by v x xs u false e f le b has rest =
    let l = at-most v x xs e b in
    let next : (int_max u x ≡ v) ⊎ Holds v xs = elim has [
      | inl p ↦ inl (max-left u x (omega (arith, ints, p, l)) ∙ p)
      | inr p ↦ elim (here-or-later v x xs p) [ inl q ↦ inl (max-right u x (omega (arith, ints, q, le)) ∙ q) | inr q ↦ inr q ]
    ] in
    rw e (rest (int_max u x) (max-most u x v le l) next)

folded : (v : ℤ) (xs : List ℤ) (u : ℤ) → is_missing v ≡ false → u ≤ℤ v → Bounds v xs → (u ≡ v) ⊎ Holds v xs → fold int_max u (present_values xs) ≡ v
unfolding Holds
folded v [] u f le b (inl e) = e
folded v [] u f le b (inr (p, h, e)) = absurd (omega arith)
folded v (x ∷ xs) u f le b has =
    folded-by v x xs u (is_missing x) refl f le b has (λ w lew later. folded v xs w f lew (rest-bounds v x xs b) later)

greatest-by : (v x : ℤ) (xs : List ℤ) (b : Bool) → is_missing x ≡ b → is_missing v ≡ false → Bounds v (x ∷ xs) → Holds v (x ∷ xs)
    → (Holds v xs → greatest xs ≡ v) → greatest (x ∷ xs) ≡ v
greatest-by v x xs true e f b has rest = elim (here-or-later v x xs has) [
  | inl q ↦ absurd (unlike x v true e f q)
  | inr q ↦ rw e (rest q)
]
greatest-by v x xs false e f b has rest = rw e (folded v xs x f (at-most v x xs e b) (rest-bounds v x xs b) (here-or-later v x xs has))

greatest-is : (v : ℤ) (xs : List ℤ) → is_missing v ≡ false → Bounds v xs → Holds v xs → greatest xs ≡ v
unfolding Holds
greatest-is v [] f b (p, h, e) = absurd (omega arith)
greatest-is v (x ∷ xs) f b has = greatest-by v x xs (is_missing x) refl f b has (greatest-is v xs f (rest-bounds v x xs b))

-- the greatest of a list that ends in a value that is present
fold-end : (u y : ℤ) (ps : List ℤ) → fold int_max u (ps ++ y ∷ []) ≡ int_max (fold int_max u ps) y
fold-end u y [] = refl
fold-end u y (p ∷ ps) = fold-end (int_max u p) y ps

reduced-end : (y : ℤ) (ps : List ℤ) → MISSING ≤ℤ y → unwrap_or (reduce int_max (ps ++ y ∷ [])) MISSING ≡ int_max (unwrap_or (reduce int_max ps) MISSING) y
reduced-end y [] h = sym (max-right MISSING y h)
reduced-end y (p ∷ ps) h = fold-end p y ps

-- ---- one cell more

small-fits : (d : ℤ) → (d ≡ MISSING) ⊎ ((pos 0 ≤ℤ d) × (d ≤ℤ pos (2 * LIMIT))) → FitsSigned w64 d
small-fits d (inl e) = cell-fits d (inl e)
small-fits d (inr h) = fits_signed_from_abs w64 d (omega (arith, ints, h.0, h.1))

there-from : (d : ℤ) → pos 0 ≤ℤ d → is_missing d ≡ false
there-from d h = grind (arith, ints)

module _ (a : List ℤ) (at : ℕ) (cells : All IsCell a) (h : at < length a) (f : Falls) (so : AreFalls a at f) where
  cell : ℤ
  cell = get_or a at (pos 0)

  read : get_or a at MISSING ≡ get_or a at (pos 0)
  read = get_or_default a at MISSING (pos 0) h

  pub peak-cell : IsCell f.peak
  peak-cell = subst IsCell (sym so.peak) (best-cell false (take at a) (All-take IsCell at a cells))

  pub deep-fits : FitsSigned w64 f.deepest
  deep-fits = small-fits f.deepest so.small

  pub gone : is_missing (get_or a at (pos 0)) ≡ true → AreFalls a (at + 1) f
  gone e =
      let none : is_present (get_or a at (pos 0)) ≡ false = rw e refl in
      let same : present_values (take (at + 1) a) ≡ present_values (take at a) =
      present_next a at (get_or a at (pos 0)) false h refl none ∙ append-nil (present_values (take at a)) in
      record {
        peak = so.peak ∙ sym (ap (λ l. unwrap_or (reduce int_max l) MISSING) same);
        above = λ j l. elim (cases_eq j at) [ inl p ↦ inl (ap (λ k. is_missing (fall a k)) p ∙ fall-gone e) | inr p ↦ so.above j (omega (arith, l, p)) ];
        within = λ t. (let w = so.within t in omega (arith, w));
        there = so.there;
        first = so.first;
        known = so.known;
        small = so.small;
      }
    where
      fall-gone : is_missing (get_or a at (pos 0)) ≡ true → is_missing (fall a at) ≡ true
      fall-gone e = let m : is_missing (get_or a at MISSING) ≡ true = ap is_missing read ∙ e in rw m refl

  module _ (there : is_missing (get_or a at (pos 0)) ≡ false) where
    pub top : ℤ
    top = int_max f.peak (get_or a at (pos 0))

    within-limit : unsigned_abs (get_or a at (pos 0)) ≤ LIMIT
    within-limit = is_within (get_or a at (pos 0)) (at-cell a at cells) there

    pub top-is : int_max f.peak (get_or a at (pos 0)) ≡ greatest (take (at + 1) a)
    top-is =
        let yes : is_present (get_or a at (pos 0)) ≡ true = rw there refl in
        let more = present_next a at (get_or a at (pos 0)) true h refl yes in
        let low : MISSING ≤ℤ get_or a at (pos 0) = omega (arith, ints, within-limit) in
        sym (ap (λ l. unwrap_or (reduce int_max l) MISSING) more ∙ reduced-end (get_or a at (pos 0)) (present_values (take at a)) low
        ∙ ap (λ g. int_max g (get_or a at (pos 0))) (sym so.peak))

    pub top-cell : IsCell (int_max f.peak (get_or a at (pos 0)))
    top-cell = subst IsCell (sym top-is) (best-cell false (take (at + 1) a) (All-take IsCell (at + 1) a cells))

    below-top : get_or a at (pos 0) ≤ℤ int_max f.peak (get_or a at (pos 0))
    below-top = here (int_lt (get_or a at (pos 0)) f.peak) refl
      where
        here : (b : Bool) → int_lt (get_or a at (pos 0)) f.peak ≡ b → get_or a at (pos 0) ≤ℤ cond b f.peak (get_or a at (pos 0))
        here true e = grind (arith, ints)
        here false e = omega (arith, ints)

    top-within : unsigned_abs (int_max f.peak (get_or a at (pos 0))) ≤ LIMIT
    top-within = at-limit top-cell
      where
        at-limit : IsCell (int_max f.peak (get_or a at (pos 0))) → unsigned_abs (int_max f.peak (get_or a at (pos 0))) ≤ LIMIT
        at-limit (inl e) = absurd (omega (arith, ints, below-top, within-limit, e))
        at-limit (inr l) = l

    pub fall-small : (pos 0 ≤ℤ (int_max f.peak (get_or a at (pos 0)) -ℤ get_or a at (pos 0))) × ((int_max f.peak (get_or a at (pos 0)) -ℤ get_or a at (pos 0)) ≤ℤ pos (2 * LIMIT))
    fall-small = (omega (arith, ints, below-top), omega (arith, ints, top-within, within-limit))

    pub fall-fits : FitsSigned w64 (int_max f.peak (get_or a at (pos 0)) -ℤ get_or a at (pos 0))
    fall-fits = small-fits _ (inr fall-small)

    fall-is : fall a at ≡ int_max f.peak (get_or a at (pos 0)) -ℤ get_or a at (pos 0)
    fall-is =
        let m : is_missing (get_or a at MISSING) ≡ false = ap is_missing read ∙ there in
        rw m (ap₂ (λ (u v : ℤ). u -ℤ v) (sym top-is) read)

    fall-there : is_missing (int_max f.peak (get_or a at (pos 0)) -ℤ get_or a at (pos 0)) ≡ false
    fall-there = there-from _ fall-small.0

    pub deeper : (d : ℤ) → d ≡ int_max f.peak (get_or a at (pos 0)) -ℤ get_or a at (pos 0) → f.deepest <ℤ d
        → AreFalls a (at + 1) (record { peak = int_max f.peak (get_or a at (pos 0)); deepest = d; place = at })
    deeper d e less = record {
      peak = top-is;
      above = λ j l. elim (cases_eq j at) [
        | inl p ↦ inr (let q : fall a j ≡ d = ap (fall a) p ∙ fall-is ∙ sym e in omega (arith, ints, q))
        | inr p ↦ elim (so.above j (omega (arith, l, p))) [ inl m ↦ inl m | inr m ↦ inr (omega (arith, ints, m, less)) ]
      ];
      within = λ t. omega arith;
      there = λ t. fall-is ∙ sym e;
      first = λ t j l q. elim (so.above j l) [
        | inl m ↦ (let bad : true ≡ false = sym m ∙ ap is_missing (q ∙ e) ∙ fall-there in cc)
        | inr m ↦ omega (arith, ints, m, less, q)
      ];
      known = λ t. ap is_missing e ∙ fall-there;
      small = inr (subst (λ z. (pos 0 ≤ℤ z) × (z ≤ℤ pos (2 * LIMIT))) (sym e) fall-small);
    }

    pub as-deep : (d : ℤ) → d ≡ int_max f.peak (get_or a at (pos 0)) -ℤ get_or a at (pos 0) → d ≤ℤ f.deepest
        → AreFalls a (at + 1) (record { peak = int_max f.peak (get_or a at (pos 0)); deepest = f.deepest; place = f.place })
    as-deep d e most = record {
      peak = top-is;
      above = λ j l. elim (cases_eq j at) [
        | inl p ↦ inr (let q : fall a j ≡ d = ap (fall a) p ∙ fall-is ∙ sym e in omega (arith, ints, q, most))
        | inr p ↦ so.above j (omega (arith, l, p))
      ];
      within = λ t. (let w = so.within t in omega (arith, w));
      there = so.there;
      first = so.first;
      known = λ t. there-from f.deepest (omega (arith, ints, fall-small.0, e, most));
      small = so.small;
    }

-- ---- all cells

falls-at : (a : List ℤ) (j : ℕ) → j < length a → get_or (falls a) j (pos 0) ≡ fall a j
falls-at a j h = get_or-map-range_with_len (fall a) 0 (length a) j j (pos 0) h (omega arith)

falls-long : (a : List ℤ) → length (falls a) ≡ length a
falls-long a = length-map-range_with_len (fall a) 0 (length a)

pub none-yet : (a : List ℤ) → AreFalls a 0 (record { peak = MISSING; deepest = MISSING; place = 0 })
none-yet a = record {
  peak = refl;
  above = λ j l. absurd (omega arith);
  within = λ t. absurd (let bad : true ≡ false = t in cc);
  there = λ t. absurd (let bad : true ≡ false = t in cc);
  first = λ t. absurd (let bad : true ≡ false = t in cc);
  known = λ t. t;
  small = inl refl;
}

module _ (a : List ℤ) (n : ℕ) (cells : All IsCell a) (all : n ≡ length a) (f : Falls) (so : AreFalls a n f) where
  peak-of : f.peak ≡ greatest a
  peak-of = so.peak ∙ ap greatest (take_all n a (omega (arith, all)))

  pub peak-fits : FitsSigned w64 f.peak
  peak-fits = cell-fits f.peak (subst IsCell (sym peak-of) (best-cell false a cells))

  pub no-drawdown : is_missing f.peak ≡ true → drawdown a ≡ MISSING
  unfolding drawdown
  no-drawdown e =
      let none : count a ≡ 0 = (best-known false a cells).0 (ap is_missing (sym peak-of) ∙ e) in
      let t : nat_eq (count a) 0 ≡ true = grind (arith, nat_tests) in
      rw t refl

  module _ (there : is_missing f.peak ≡ false) where
    deep : is_missing f.deepest ≡ false
    deep = so.known there

    pub place-within : f.place < length a
    place-within = let w = so.within deep in omega (arith, w, all)

    pub deep-small : unsigned_abs f.deepest ≤ 2 * LIMIT
    deep-small = elim so.small [
      | inl e ↦ absurd (let bad : true ≡ false = sym (ap is_missing e) ∙ deep in cc)
      | inr l ↦ omega (arith, ints, l.0, l.1)
    ]

    greatest-fall : greatest (falls a) ≡ f.deepest
    unfolding Bounds Holds
    greatest-fall =
        let long = falls-long a in
        greatest-is f.deepest (falls a) deep
        (λ j l. elim (so.above j (omega (arith, l, long, all))) [
          | inl m ↦ inl (ap is_missing (falls-at a j (omega (arith, l, long))) ∙ m)
          | inr m ↦ inr (let q = falls-at a j (omega (arith, l, long)) in omega (arith, ints, m, q))
        ])
        (f.place, omega (arith, place-within, long), falls-at a f.place place-within ∙ so.there deep)

    pub drawdown-is : drawdown a ≡ quot (f.deepest *ℤ pos MILLION) (get_or a f.place (pos 0))
    unfolding drawdown first_place
    drawdown-is =
        let some : nat_eq (count a) 0 ≡ false = ne_eqb _ _ (λ z. (let m = (best-known false a cells).1 z in let bad : true ≡ false = sym m ∙ ap is_missing (sym peak-of) ∙ there in cc)) in
        let long = falls-long a in
        let end : first_place f.deepest (falls a) ≡ f.place =
        place-is f.deepest (falls a) f.place (omega (arith, place-within, long)) (falls-at a f.place place-within ∙ so.there deep)
        (λ j l q. so.first deep j l (sym (falls-at a j (omega (arith, l, place-within))) ∙ q)) in
        rw some (ap₂ (λ (d : ℤ) (p : ℕ). quot (d *ℤ pos MILLION) (get_or a p MISSING)) greatest-fall (ap (λ d. first_place d (falls a)) greatest-fall ∙ end)
        ∙ ap (quot (f.deepest *ℤ pos MILLION)) (get_or_default a f.place MISSING (pos 0) place-within))
