-- Windows that follow on each other in a list, two of them as a span, and the values over them one after the
-- other.
use Rattle.std.proofs.Common.{◌≡◌, ℕ, ◌+◌, ◌-◌, ◌<◌, ◌≤◌, ◌⊎◌, inl, inr, IsTrue, ℤ, pos, List, length, take, drop, get_or, set, All, sym, ◌∙◌, ap, subst, arith, length-take, length-drop, get_or-set_same, get_or-set_other}
use Rattle.std.proofs.lemmas.Bool.{cases_eq, cases_lt}
use Rattle.std.proofs.lemmas.List.{take-take, take_all, drop-drop, drop-take}
use Rattle.std.proofs.lemmas.List.Elements.{All-take, All-drop}
use Rattle.pl_spec.specs.Rounding.{IsCell, MILLION}
use Rattle.pl_pipeline.specs.Formula.{FINE, weights, formula, mean}
use Rattle.pl_pipeline.specs.Kind.{Kind}
use Rattle.pl_pipeline.specs.Kind.Kind.{Window}
use Rattle.pl_pipeline.specs.declared.WindowKind.TheVariants.{ExponentialWeightedMovingAverage, ExponentialWeightedMovingMean, ExponentialWeightedMovingStdDev, WindowPercentile}
use Rattle.pl_factors.specs.Terms.{mean_by, deviation_by}
use Rattle.pl_factors.specs.Lanes.{AreGiven, AreValues, HasWindows, TakesLanes, weighted_at, deviated_at, percentile_at, window_at}
use Rattle.pl_factors.specs.Trends.{faded_mean_at, faded_deviation_at}
use Rattle.pl_factors.specs.Spans.{TakesSpans, after, before, takes_range}

front_of : (size : ℕ) (ys : List ℤ) → (length ys ≡ 0) ⊎ (size + 1 ≤ length ys) → take (length (take (size + 1) ys) - 1) (take (size + 1) ys) ≡ take size ys
front_of size ys (inl none) =
    let whole : take (size + 1) ys ≡ ys = take_all (size + 1) ys (omega (arith, none)) in
    rw whole (take_all (length ys - 1) ys (omega (arith, none)) ∙ sym (take_all size ys (omega (arith, none))))
front_of size ys (inr long) =
    let n : length (take (size + 1) ys) - 1 ≡ size = let t = length-take (size + 1) ys in omega (arith, t, long) in
    ap (λ m. take m (take (size + 1) ys)) n ∙ take-take size (size + 1) ys (omega arith)

module _ (size k : ℕ) (xs : List ℤ) (has : 0 < length xs → k + (size + 1) ≤ length xs) where
  -- the window before, and the one after, of a span
  pub before_is : before (window_at (size + 1) k xs) ≡ window_at size k xs
  before_is = let d = length-drop k xs in elim (cases_lt 0 (length xs)) [
    | inl some ↦ (let room = has some in front_of size (drop k xs) (inr (omega (arith, d, room))))
    | inr none ↦ front_of size (drop k xs) (inl (omega (arith, d, none)))
  ]

  pub after_is : after (window_at (size + 1) k xs) ≡ window_at size (k + 1) xs
  after_is =
      let e : size + 1 ≡ 1 + size = omega arith in
      ap (λ n. drop 1 (take n (drop k xs))) e ∙ drop-take 1 size (drop k xs) ∙ ap (take size) (drop-drop 1 k xs)

  long_is : 0 < length xs → length (window_at (size + 1) k xs) ≡ size + 1
  long_is some = let room = has some in let d = length-drop k xs in let t = length-take (size + 1) (drop k xs) in omega (arith, room, d, t)

short_is : (size k : ℕ) (xs : List ℤ) → 0 < length (window_at size k xs) → 0 < length xs
short_is size k xs h = let d = length-drop k xs in let t = length-take size (drop k xs) in omega (arith, h, d, t)

pub cells_at : (size k : ℕ) (xs : List ℤ) → All IsCell xs → All IsCell (window_at size k xs)
cells_at size k xs h = All-take IsCell size (drop k xs) (All-drop IsCell k xs h)

module _ (q : Kind) (size n : ℕ) (a b c : List ℤ) (lanes : TakesLanes q size n a b c) where
  -- a window has room, and so has a span
  pub roomy : (xs : List ℤ) → HasWindows size n xs → (k : ℕ) → k < n → 0 < length xs → k + size ≤ length xs
  roomy xs has k h some = let w = has some in omega (arith, w, h)

  pub roomy_span : (xs : List ℤ) → HasWindows size n xs → (k : ℕ) → k + 1 < n → 0 < length xs → k + (size + 1) ≤ length xs
  roomy_span xs has k h some = let w = has some in omega (arith, w, h)

  pub spans_at : 1 ≤ size → 0 < length a → (IsTrue (takes_range q) → (0 < length b) × (0 < length c)) → (k : ℕ) → k + 1 < n
      → TakesSpans q (window_at (size + 1) k a) (window_at (size + 1) k b) (window_at (size + 1) k c)
  spans_at some has range k h =
      let w = lanes.windows k (omega (arith, h)) in
      let la = long_is size k a (roomy_span a lanes.first_long k h) has in
      let room = roomy a lanes.first_long k (omega (arith, h)) has in
      let wa : length (window_at size k a) ≡ size = (let d = length-drop k a in let t = length-take size (drop k a) in omega (arith, d, t, room)) in
      let few = w.few in
      record {
        first = cells_at (size + 1) k a lanes.first;
        second = cells_at (size + 1) k b lanes.second;
        third = cells_at (size + 1) k c lanes.third;
        some = omega (arith, la, some);
        few = omega (arith, la, wa, few);
        paired = λ p. (
            let e = w.paired p in
            let lb = long_is size k b (roomy_span b lanes.second_long k h) (short_is size k b (omega (arith, e, wa, some))) in
            omega (arith, la, lb));
        range = λ r. (
            let s = range r in
            let lb = long_is size k b (roomy_span b lanes.second_long k h) s.0 in
            let lc = long_is size k c (roomy_span c lanes.third_long k h) s.1 in
            (omega (arith, lb, some), omega (arith, lc, some)));
      }

-- ---- values

module _ (f : ℕ → ℤ) where
  pub none_given : (out : List ℤ) → AreGiven f 0 out
  none_given out = record { each = λ j h. absurd (omega (arith, h)); cell = λ j h. absurd (omega (arith, h)) }

  pub one_given : (done : ℕ) (out : List ℤ) (x : ℤ) → AreGiven f done out → done < length out → x ≡ f done → IsCell x → AreGiven f (done + 1) (set out done x)
  one_given done out x so_far room e is_cell = record {
    each = λ j h. elim (cases_eq j done) [
      | inl p ↦ ap (λ k. get_or (set out done x) k (pos 0)) p ∙ get_or-set_same out done x (pos 0) room ∙ e ∙ ap f (sym p)
      | inr p ↦ get_or-set_other out done j x (pos 0) p ∙ so_far.each j (omega (arith, h, p))
    ];
    cell = λ j h. elim (cases_eq j done) [
      | inl p ↦ subst IsCell (sym (ap (λ k. get_or (set out done x) k (pos 0)) p ∙ get_or-set_same out done x (pos 0) room)) is_cell
      | inr p ↦ subst IsCell (sym (get_or-set_other out done j x (pos 0) p)) (so_far.cell j (omega (arith, h, p)))
    ];
  }

  pub all_given : (n done : ℕ) (out : List ℤ) → n ≤ done → AreGiven f done out → AreGiven f n out
  all_given n done out few m = record { each = λ j h. m.each j (omega (arith, few, h)); cell = λ j h. m.cell j (omega (arith, few, h)) }

unfoldable pub mean_at : ℕ → List ℤ → ℕ → ℤ
mean_at size a j = mean (window_at size j a)

-- ---- lists for lists

pub same_of : {R : Type 0} (f : List ℤ → List ℤ → List ℤ → R) (x y z a b c : List ℤ) → x ≡ a → y ≡ b → z ≡ c → f x y z ≡ f a b c
same_of f x y z a b c p q r = ap (λ l. f l y z) p ∙ ap (λ l. f a l z) q ∙ ap (λ l. f a b l) r

pub holds_of : (P : List ℤ → List ℤ → List ℤ → Type 0) (x y z a b c : List ℤ) → x ≡ a → y ≡ b → z ≡ c → P a b c → P x y z
holds_of P x y z a b c p q r h = subst (λ l. P l y z) (sym p) (subst (λ l. P a l z) (sym q) (subst (λ l. P a b l) (sym r) h))

-- the windows of a span that was taken one place before
module _ (size k j : ℕ) (next : j ≡ k - 1 + 1) (xs span : List ℤ) (has : 0 < length xs → (k - 1) + (size + 1) ≤ length xs) (is : span ≡ window_at (size + 1) (k - 1) xs) where
  pub span_before : before span ≡ window_at size (k - 1) xs
  span_before = ap before is ∙ before_is size (k - 1) xs has

  pub span_after : after span ≡ window_at size j xs
  span_after = ap after is ∙ after_is size (k - 1) xs has ∙ ap (λ n. window_at size n xs) (sym next)

-- what holds of the windows of three lists, before a place and at it, holds of those in the spans that were
-- taken one place before
module _ (q : Kind) (size n : ℕ) (a b c : List ℤ) (lanes : TakesLanes q size n a b c) (k : ℕ) (some : 1 ≤ k) (inside : k < n) (x y z : List ℤ)
    (first : x ≡ window_at (size + 1) (k - 1) a) (second : y ≡ window_at (size + 1) (k - 1) b) (third : z ≡ window_at (size + 1) (k - 1) c) where
  next : k ≡ k - 1 + 1
  next = omega (arith, some)

  room : (xs : List ℤ) → HasWindows size n xs → 0 < length xs → k - 1 + (size + 1) ≤ length xs
  room xs has = roomy_span q size n a b c lanes xs has (k - 1) (omega (arith, some, inside))

  pub before_hold : (P : List ℤ → List ℤ → List ℤ → Type 0) → P (window_at size (k - 1) a) (window_at size (k - 1) b) (window_at size (k - 1) c) → P (before x) (before y) (before z)
  before_hold P h =
      holds_of P _ _ _ _ _ _ (span_before size k k next a x (room a lanes.first_long) first) (span_before size k k next b y (room b lanes.second_long) second)
      (span_before size k k next c z (room c lanes.third_long) third) h

  pub after_hold : (P : List ℤ → List ℤ → List ℤ → Type 0) → P (window_at size k a) (window_at size k b) (window_at size k c) → P (after x) (after y) (after z)
  after_hold P h =
      holds_of P _ _ _ _ _ _ (span_after size k k next a x (room a lanes.first_long) first) (span_after size k k next b y (room b lanes.second_long) second)
      (span_after size k k next c z (room c lanes.third_long) third) h

pub window_long : (size k : ℕ) (xs : List ℤ) → k + size ≤ length xs → length (window_at size k xs) ≡ size
window_long size k xs room = let d = length-drop k xs in let t = length-take size (drop k xs) in omega (arith, d, t, room)

-- the weights fade
module _ (one : ℕ) (d : ℤ) (size n : ℕ) (a ws out : List ℤ) (long : length ws ≡ size) (is : ws ≡ weights one d size) (room : size + n ≤ length a + 1) where
  made : (f : List ℤ → List ℤ → ℤ) (j : ℕ) → j < n → f ws (window_at (length ws) j a) ≡ f (weights one d (length (window_at size j a))) (window_at size j a)
  made f j h =
      let wide : length (window_at size j a) ≡ size = window_long size j a (omega (arith, h, room)) in
      ap (λ k. f ws (window_at k j a)) long ∙ ap (λ l. f l (window_at size j a)) (is ∙ ap (weights one d) (sym wide))

  pub faded_are : AreGiven (weighted_at ws a) n out → AreGiven (faded_mean_at one d size a) n out
  unfolding faded_mean_at
  faded_are means = record { each = λ j h. means.each j h ∙ made mean_by j h; cell = means.cell }

-- and the deviation is by fine ones
pub deviated_are : (d : ℤ) (size n : ℕ) (a ws out : List ℤ) → length ws ≡ size → ws ≡ weights FINE d size → size + n ≤ length a + 1
    → AreGiven (deviated_at ws a) n out → AreGiven (faded_deviation_at d size a) n out
unfolding faded_deviation_at
deviated_are d size n a ws out long is room given = record { each = λ j h. given.each j h ∙ made FINE d size n a ws out long is room deviation_by j h; cell = given.cell }

-- what is given at each place is what the kind gives there
pub fine_means : (d : ℤ) (size n : ℕ) (a b c out : List ℤ) → AreGiven (faded_mean_at FINE d size a) n out → AreValues (Window (ExponentialWeightedMovingMean d)) size a b c n out
unfolding formula faded_mean_at
fine_means d size n a b c out m = record { each = m.each; cell = m.cell }

pub coarse_means : (d : ℤ) (size n : ℕ) (a b c out : List ℤ) → AreGiven (faded_mean_at MILLION d size a) n out → AreValues (Window (ExponentialWeightedMovingAverage d)) size a b c n out
unfolding formula faded_mean_at
coarse_means d size n a b c out m = record { each = m.each; cell = m.cell }

pub fine_deviations : (d : ℤ) (size n : ℕ) (a b c out : List ℤ) → AreGiven (faded_deviation_at d size a) n out → AreValues (Window (ExponentialWeightedMovingStdDev d)) size a b c n out
unfolding formula faded_deviation_at
fine_deviations d size n a b c out m = record { each = m.each; cell = m.cell }

pub percentiles : (percent size n : ℕ) (a b c out : List ℤ) → AreGiven (percentile_at percent size a) n out → AreValues (Window (WindowPercentile percent)) size a b c n out
unfolding formula percentile_at
percentiles percent size n a b c out m = record { each = m.each; cell = m.cell }
