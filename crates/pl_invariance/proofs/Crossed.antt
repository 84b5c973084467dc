-- Quantiles, scores and screens of prices are the same in every unit.
use Rattle.std.proofs.Common.{◌≡◌, ℕ, ◌+◌, ◌-◌, ◌*◌, ◌/◌, ◌<◌, Bool, true, false, not, ◌&&◌, cond, nat_le, nat_lt, ℤ, pos, ◌-ℤ◌, ◌*ℤ◌, List, [], ◌∷◌, length, map, find, Some, option_map, unwrap_or, refl, ◌∙◌, ap, arith}
use Rattle.std.specs.Prelude.{count_by}
use Rattle.std.specs.List.{range_with_len}
use Rattle.std.specs.Int.RustNames.{int_lt, int_le}
use Rattle.std.proofs.Math.Path.{fun_ext}
use Rattle.std.proofs.lemmas.List.{length-map}
use Rattle.pl_spec.specs.Cells.{truth, compares, comparison}
use Rattle.pl_spec.specs.Rounding.{MILLION, Fraction, is_missing, is_present, scaled, quot, sub}
use Rattle.pl_spec.specs.declared.Compare.{Compare}
use Rattle.pl_spec.specs.declared.Compare.TheVariants.{Less, LessEqual, Greater, GreaterEqual, Equal, NotEqual}
use Rattle.pl_spec.proofs.Each.{Each, each_more}
use Rattle.pl_pipeline.specs.Cross.{Entry, values, bin_of, is_percentile_between, center, cross}
use Rattle.pl_pipeline.specs.Order.{count_less, count_equal, value_at, edge}
use Rattle.pl_pipeline.specs.Formula.{spread}
use Rattle.pl_pipeline.specs.declared.RankOrder.TheVariants.{Ascending}
use Rattle.pl_invariance.specs.Crossed.{AreUnrounded, CrossesHaveNoUnit, ScreensHaveNoUnit}
use Rattle.pl_invariance.specs.Exact.{Divides}
use Rattle.pl_invariance.specs.Ranked.{IsExact, scaled_entry}
use Rattle.pl_invariance.specs.Units.{IsRatio, IsSpreadExact}
use Rattle.pl_invariance.proofs.Compared.{quot_same}
use Rattle.pl_invariance.proofs.Formulas.{middle-scaled, apart-times, spread-scaled, sub-scaled}
use Rattle.pl_invariance.proofs.Lists.{find-map}
use Rattle.pl_invariance.proofs.Ranked.{preceding_same, equals_same, values_exact, values_same}
use Rattle.pl_invariance.proofs.Units as units

find-each : {X : Type 0} (p q : X → Bool) (xs : List X) → Each (λ x. p x ≡ q x) xs → find p xs ≡ find q xs
find-each p q [] h = refl
find-each p q (x ∷ xs) h = rw (h.0, find-each p q xs h.1) refl

module _ (r : Fraction) (ratio : IsRatio r) (vs : List ℤ) (h : Each (IsExact r) vs) where
  abbrev others : List ℤ
  others = map (scaled r) vs

  abbrev Times : ℤ → ℤ → Type 0
  Times y x = units.Times r ratio y x

  -- ---- the points between neighbors

  found-times : (q : ℤ → Bool) (xs : List ℤ) → Each (IsExact r) xs → Times (unwrap_or (option_map (scaled r) (find q xs)) (pos 0)) (unwrap_or (find q xs) (pos 0))
  found-times q [] h = units.times-zero r ratio
  found-times q (x ∷ xs) h = step (q x) (found-times q xs h.1)
    where
      step : (b : Bool) → Times (unwrap_or (option_map (scaled r) (find q xs)) (pos 0)) (unwrap_or (find q xs) (pos 0))
          → Times (unwrap_or (option_map (scaled r) (cond b (Some x) (find q xs))) (pos 0)) (unwrap_or (cond b (Some x) (find q xs)) (pos 0))
      step true rest = units.exact-times r ratio x h.0
      step false rest = rest

  abbrev is_at : List ℤ → ℕ → ℤ → Bool
  is_at us i v = nat_le (count_less v us) i && nat_lt i (count_less v us + count_equal v us)

  at-same : (i : ℕ) (v : ℤ) → IsExact r v → is_at others i (scaled r v) ≡ is_at vs i v
  at-same i v hv = rw (preceding_same r ratio.0 Ascending v vs hv h, equals_same r ratio.0 v vs hv h) refl

  pub value-times : (i : ℕ) → Times (value_at others i) (value_at vs i)
  value-times i =
      ap (λ o. unwrap_or o (pos 0) *ℤ pos r.den)
      (find-map (is_at others i) (scaled r) vs
      ∙ ap (option_map (scaled r)) (find-each (λ v. is_at others i (scaled r v)) (is_at vs i) vs (each_more (IsExact r) _ vs (at-same i) h)))
      ∙ found-times (is_at vs i) vs h

  pub edge-times : (p n : ℕ) → Times (edge others p n) (edge vs p n)
  edge-times p n =
      let i = p / n in
      let part = p - i * n in
      units.times-plus r ratio (value_at others i *ℤ pos (n - part)) (value_at others (i + 1) *ℤ pos part) (value_at vs i *ℤ pos (n - part)) (value_at vs (i + 1) *ℤ pos part)
      (units.times-by r ratio (value_at others i) (value_at vs i) (pos (n - part)) (value-times i))
      (units.times-by r ratio (value_at others (i + 1)) (value_at vs (i + 1)) (pos part) (value-times (i + 1)))

  long : length others ≡ length vs
  long = length-map vs (scaled r)

  module _ (x : ℤ) (hx : IsExact r x) where
    own-times : (n : ℕ) → Times (scaled r x *ℤ pos n) (x *ℤ pos n)
    own-times n = units.times-by r ratio (scaled r x) x (pos n) (units.exact-times r ratio x hx)

    pub bin-same : (bins : ℕ) → bin_of bins others (scaled r x) ≡ bin_of bins vs x
    bin-same bins =
        ap (λ n. count_by (λ k. int_lt (edge others (k * (n - 1)) bins) (scaled r x *ℤ pos bins)) (range_with_len 1 (bins - 1))) long
        ∙ ap (λ t. count_by t (range_with_len 1 (bins - 1)))
        (fun_ext (λ k. units.less-same r ratio (edge others (k * (length vs - 1)) bins) (scaled r x *ℤ pos bins) (edge vs (k * (length vs - 1)) bins) (x *ℤ pos bins)
        (edge-times (k * (length vs - 1)) bins) (own-times bins)))

    pub between-same : (low high : ℕ) → is_percentile_between low high others (scaled r x) ≡ is_percentile_between low high vs x
    between-same low high =
        ap (λ n. int_le (edge others (low * (n - 1)) 10000) (scaled r x *ℤ pos 10000) && int_le (scaled r x *ℤ pos 10000) (edge others (high * (n - 1)) 10000)) long
        ∙ ap (λ b. b && int_le (scaled r x *ℤ pos 10000) (edge others (high * (length vs - 1)) 10000))
        (units.at_most-same r ratio (edge others (low * (length vs - 1)) 10000) (scaled r x *ℤ pos 10000) (edge vs (low * (length vs - 1)) 10000) (x *ℤ pos 10000) (edge-times (low * (length vs - 1)) 10000) (own-times 10000))
        ∙ ap (λ b. int_le (edge vs (low * (length vs - 1)) 10000) (x *ℤ pos 10000) && b)
        (units.at_most-same r ratio (scaled r x *ℤ pos 10000) (edge others (high * (length vs - 1)) 10000) (x *ℤ pos 10000) (edge vs (high * (length vs - 1)) 10000) (own-times 10000) (edge-times (high * (length vs - 1)) 10000))

    -- ---- scores

    module _ (s : IsSpreadExact r vs) (some : 0 < length vs) where
      pub score-same : quot ((scaled r x -ℤ center others) *ℤ pos MILLION) (pos (spread others)) ≡ quot ((x -ℤ center vs) *ℤ pos MILLION) (pos (spread vs))
      score-same =
          ap (λ m. quot ((scaled r x -ℤ m) *ℤ pos MILLION) (pos (spread others))) (middle-scaled r ratio vs h s some)
          ∙ quot_same ((x -ℤ center vs) *ℤ pos MILLION) ((scaled r x -ℤ scaled r (center vs)) *ℤ pos MILLION) (pos (spread vs)) (pos (spread others)) r.num r.den ratio.0 ratio.1
          (units.times-by r ratio (scaled r x -ℤ scaled r (center vs)) (x -ℤ center vs) (pos MILLION) (apart-times r ratio vs h s x (center vs) hx s.middle_exact))
          (ap (λ t. t *ℤ pos r.den) (spread-scaled r ratio vs h s some) ∙ units.exact-times r ratio (pos (spread vs)) s.root_exact)

      pub distance-scaled : is_missing (sub x (center vs)) ≡ false → sub (scaled r x) (center others) ≡ scaled r (sub x (center vs))
      distance-scaled p = ap (sub (scaled r x)) (middle-scaled r ratio vs h s some) ∙ sub-scaled r ratio x (center vs) hx s.middle_exact p

-- ---- screens

module _ (r : Fraction) (ratio : IsRatio r) where
  compared : (c : Compare) (x y : ℤ) → IsExact r x → IsExact r y → compares c (scaled r x) (scaled r y) ≡ compares c x y
  compared Less x y hx hy = units.less-same r ratio (scaled r x) (scaled r y) x y (units.exact-times r ratio x hx) (units.exact-times r ratio y hy)
  compared LessEqual x y hx hy = units.at_most-same r ratio (scaled r x) (scaled r y) x y (units.exact-times r ratio x hx) (units.exact-times r ratio y hy)
  compared Greater x y hx hy = units.less-same r ratio (scaled r y) (scaled r x) y x (units.exact-times r ratio y hy) (units.exact-times r ratio x hx)
  compared GreaterEqual x y hx hy = units.at_most-same r ratio (scaled r y) (scaled r x) y x (units.exact-times r ratio y hy) (units.exact-times r ratio x hx)
  compared Equal x y hx hy = units.equal-same r ratio (scaled r x) (scaled r y) x y (units.exact-times r ratio x hx) (units.exact-times r ratio y hy)
  compared NotEqual x y hx hy = ap not (units.equal-same r ratio (scaled r x) (scaled r y) x y (units.exact-times r ratio x hx) (units.exact-times r ratio y hy))

  screen-same : (c : Compare) (x y : ℤ) → Divides r x → Divides r y → comparison c (scaled r x) (scaled r y) ≡ comparison c x y
  screen-same c x y dx dy =
      ap (λ b. truth (b && is_present (scaled r y) && compares c (scaled r x) (scaled r y))) (units.present-same r ratio x dx)
      ∙ ap (λ b. truth (is_present x && b && compares c (scaled r x) (scaled r y))) (units.present-same r ratio y dy)
      ∙ step (is_present x) (is_present y) refl refl
    where
      step : (b d : Bool) → is_present x ≡ b → is_present y ≡ d → truth (b && d && compares c (scaled r x) (scaled r y)) ≡ truth (b && d && compares c x y)
      step true true e f = ap truth (compared c x y (units.is-exact r ratio x dx e) (units.is-exact r ratio y dy f))
      step true false e f = refl
      step false d e f = refl

pub screens-have-no-unit : ScreensHaveNoUnit
screens-have-no-unit = screen-same

-- ---- cross-sections

module _ (r : Fraction) (list : List Entry) (a : ℕ) (x : ℤ) (h : AreUnrounded r list x) where
  exact : Each (IsExact r) (values list)
  exact = values_exact r h.ratio.0 list h.all

  some : 0 < length (values list)
  some = let long : length (values list) ≡ length list = length-map list (λ (e : Entry). e.1) in let l : 0 < length list = h.some in omega arith

  same : values (map (scaled_entry r) list) ≡ map (scaled r) (values list)
  same = values_same r h.ratio.0 list

  quantiles : (bins : ℕ) → bin_of bins (values (map (scaled_entry r) list)) (scaled r x) ≡ bin_of bins (values list) x
  quantiles bins = ap (λ us. bin_of bins us (scaled r x)) same ∙ bin-same r h.ratio (values list) exact x h.own bins

  percentiles : (low high : ℕ) → is_percentile_between low high (values (map (scaled_entry r) list)) (scaled r x) ≡ is_percentile_between low high (values list) x
  percentiles low high = ap (λ us. is_percentile_between low high us (scaled r x)) same ∙ between-same r h.ratio (values list) exact x h.own low high

  scores : IsSpreadExact r (values list)
      → quot ((scaled r x -ℤ center (values (map (scaled_entry r) list))) *ℤ pos MILLION) (pos (spread (values (map (scaled_entry r) list))))
      ≡ quot ((x -ℤ center (values list)) *ℤ pos MILLION) (pos (spread (values list)))
  scores s =
      ap (λ us. quot ((scaled r x -ℤ center us) *ℤ pos MILLION) (pos (spread us))) same
      ∙ score-same r h.ratio (values list) exact x h.own s some

  distances : IsSpreadExact r (values list) → is_missing (sub x (center (values list))) ≡ false
      → sub (scaled r x) (center (values (map (scaled_entry r) list))) ≡ scaled r (sub x (center (values list)))
  distances s p = ap (λ us. sub (scaled r x) (center us)) same ∙ distance-scaled r h.ratio (values list) exact x h.own s some p

pub crosses-have-no-unit : CrossesHaveNoUnit
unfolding cross
crosses-have-no-unit = record {
  quantiles = λ bins r list a x h. ap pos (quantiles r list a x h bins);
  percentiles = λ low high r list a x h. ap truth (percentiles r list a x h low high);
  peers = λ r list a x. ap (λ n. pos (n * MILLION)) (length-map list (scaled_entry r));
  scores = λ r list a x h s. scores r list a x h s;
  distances = λ r list a x h s p. distances r list a x h s p;
}
