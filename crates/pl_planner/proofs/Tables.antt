-- The extra sessions of a range, row by row.
use Rattle.std.proofs.Common.{◌≡◌, ℕ, zero, suc, ◌+◌, ◌-◌, ◌*◌, ◌/◌, ◌%◌, ◌<◌, ◌≤◌, true, false, Bool, ℤ, List, [], ◌∷◌, ◌++◌, length, map, take, append_assoc, get_or, refl, sym, ◌∙◌, ap, subst, arith, inl, inr, length-append}
use Rattle.std.proofs.lemmas.Bool.{cases_lt}
use Rattle.std.proofs.lemmas.Grind.{get_or_default_zero}
use Rattle.std.proofs.lemmas.Nat.{mul-le, div-add-mod'}
use Rattle.std.proofs.lemmas.List.{get_or_append_left, get_or-append-add, get_or-map, length-map, map_more}
use Rattle.pl_pipeline.specs.Term.{Graph}
use Rattle.pl_spec.proofs.Places.{row-within}
use Rattle.pl_planner.specs.declared.uses.Use.{Use}
use Rattle.pl_planner.specs.Uses.{unused, AreUses, HaveExtras}
use Rattle.pl_planner.specs.Rows.{extra_in, extra_at, AreRows, most_extra}
use Rattle.pl_planner.specs.Plans.{Planned, KeepsLimits, IsAsked, low_at}
use Rattle.pl_spec.specs.Limits.{most_extra_rows}
use Rattle.pl_planner.proofs.Counting.{Reached, most-each, most-reached}

-- ---- places

module _ (days : List ℤ) (g : Graph) (outs : List ℕ) (from : ℕ) where
  -- one session more
  pub rows-more : (n : ℕ) (extras after : List ℕ) (uses : List Use) → AreRows days g outs from n extras → AreUses g outs uses → HaveExtras days (from + n) g outs uses
      → after ≡ extras ++ map extra_in uses → AreRows days g outs from (n + 1) after
  rows-more n extras after uses rows are have e =
      let long : length (map extra_in uses) ≡ length g = length-map uses extra_in ∙ are.size in
      let more : (n + 1) * length g ≡ n * length g + length g = omega arith in
      record {
        size = ap length e ∙ length-append extras (map extra_in uses) ∙ (let a = rows.size in omega arith);
        rows = λ i h. elim (cases_lt i n) [
          | inl p ↦ (let r = rows.rows i p in record {
            uses = r.uses;
            are = r.are;
            have = r.have;
            is = λ t l. (let inside = row-within i n (length g) t p l in let a = rows.size in
                ap (λ xs. get_or xs (i * length g + t) 0) e ∙ get_or_append_left extras (map extra_in uses) 0 (i * length g + t) (omega arith) ∙ r.is t l);
          })
          | inr p ↦ (let same : i ≡ n = omega arith in record {
            uses = uses;
            are = are;
            have = subst (λ k. HaveExtras days (from + k) g outs uses) (sym same) have;
            is = λ t l. (let a = rows.size in
                ap (λ xs. get_or xs (i * length g + t) 0) e ∙ ap (λ k. get_or (extras ++ map extra_in uses) (k * length g + t) 0) same
                ∙ ap (λ k. get_or (extras ++ map extra_in uses) (k + t) 0) (sym a) ∙ get_or-append-add extras (map extra_in uses) t 0 ∙ get_or-map extra_in uses t unused 0 (let z = are.size in omega arith));
          })
        ];
      }

  pub next-row : (session : ℕ) (extras after : List ℕ) (uses lent : List Use) → from ≤ session → AreRows days g outs from (session - from) extras
      → AreUses g outs uses → HaveExtras days session g outs uses → after ≡ extras ++ map extra_in lent → lent ≡ uses → AreRows days g outs from (session + 1 - from) after
  next-row session extras after uses lent l rows are have e same =
      let here : session ≡ from + (session - from) = omega arith in
      let more : (session - from) + 1 ≡ session + 1 - from = omega arith in
      subst (λ n. AreRows days g outs from n after) more
      (rows-more (session - from) extras after uses rows are (subst (λ d. HaveExtras days d g outs uses) here have) (e ∙ ap (λ us. extras ++ map extra_in us) same))

-- the number of one term more
pub term-more : (old now after : List ℕ) (uses : List Use) (i x : ℕ) (d : Use) → i < length uses → now ≡ old ++ map extra_in (take i uses) → after ≡ now ++ x ∷ []
    → x ≡ extra_in (get_or uses i d) → after ≡ old ++ map extra_in (take (i + 1) uses)
term-more old now after uses i x d l is e f =
    e ∙ ap (λ xs. xs ++ x ∷ []) is ∙ append_assoc old (map extra_in (take i uses)) (x ∷ []) ∙ ap (λ y. old ++ (map extra_in (take i uses) ++ y ∷ [])) f
    ∙ ap (λ ys. old ++ ys) (sym (map_more extra_in uses i d l))

-- ---- the greatest number

-- it stands in a row, for a term
pub record ReachedAt (extras : List ℕ) (count terms n : ℕ) : Type 0 where
  pub row : ℕ
  pub term : ℕ
  pub in_rows : row < count
  pub in_terms : term < terms
  pub is : extra_at extras terms row term ≡ n

pub most-at : (extras : List ℕ) (count terms : ℕ) → length extras ≡ count * terms → 0 < most_extra extras → ReachedAt extras count terms (most_extra extras)
most-at extras count terms size h =
    let r : Reached extras (most_extra extras) = most-reached extras 0 h in
    let p = r.within in
    let d : r.place / terms * terms + r.place % terms ≡ r.place = div-add-mod' r.place terms in
    found terms size r.place (omega arith) r.is
  where
    found : (terms : ℕ) → length extras ≡ count * terms → (p : ℕ) → p < count * terms → get_or extras p 0 ≡ most_extra extras → ReachedAt extras count terms (most_extra extras)
    found zero size p l e = let z : count * zero ≡ 0 = omega arith in absurd (omega arith)
    found (suc terms) size p l e =
        let d : p / suc terms * suc terms + p % suc terms ≡ p = div-add-mod' p (suc terms) in
        record {
          row = p / suc terms;
          term = p % suc terms;
          in_rows = elim (cases_lt (p / suc terms) count) [
            | inl q ↦ q
            | inr q ↦ (let m : count * suc terms ≤ p / suc terms * suc terms = mul-le count (suc terms) (p / suc terms) (suc terms) q (omega arith) in absurd (omega arith))
          ];
          in_terms = omega arith;
          is = ap (λ k. get_or extras k 0) d ∙ e;
        }

pub most-in : (extras : List ℕ) (count terms i t : ℕ) → length extras ≡ count * terms → i < count → t < terms → extra_at extras terms i t ≤ most_extra extras
most-in extras count terms i t size h l = most-each extras 0 (i * terms + t) (let w = row-within i count terms t h l in omega arith)

-- a used term's number
pub extra-used : (u : Use) → u.used ≡ true → extra_in u ≡ u.extra
extra-used u e = rw e refl

pub extra-some : (u : Use) (n : ℕ) → 0 < n → extra_in u ≡ n → (u.used ≡ true) × (u.extra ≡ n)
extra-some u n h e = here u.used refl
  where
    here : (b : Bool) → u.used ≡ b → (u.used ≡ true) × (u.extra ≡ n)
    here true f = (f, rw f at e)
    here false f = let z : 0 ≡ n = rw f at e in absurd (omega arith)

-- ---- of a plan that keeps its limits

module _ (p now : Planned) (is : p ≡ now) (keeps : KeepsLimits p) (t s : ℕ) (asked : IsAsked now t s) where
  own-asked : IsAsked p t s
  own-asked = subst (λ q. IsAsked q t s) (sym is) asked

  pub place-within : (n m : ℕ) → n ≡ length p.uses → m ≡ length p.extras → (s - p.from) * n + t < m
  place-within n m e f =
      let a = own-asked.1 in
      rw (e, f, keeps.size) (row-within (s - p.from) (p.to + 1 - p.from) (length p.uses) t (omega (arith, a.0, a.1)) (keeps.among t own-asked.0))

  module _ (n x : ℕ) (e : n ≡ length p.uses) (f : x ≡ get_or p.extras ((s - p.from) * n + t) x) where
    same : x ≡ extra_at p.extras (length p.uses) (s - p.from) t
    same = f ∙ get_or_default_zero p.extras ((s - p.from) * n + t) x (place-within n (length p.extras) e refl) ∙ ap (λ m. extra_at p.extras m (s - p.from) t) e

    pub extra-within : x ≤ s
    extra-within = rw same (keeps.rows t s own-asked).0

    pub extra-few : s - (s - x) ≤ most_extra_rows
    extra-few = let l = rw (sym same) at (keeps.rows t s own-asked).1 in omega (arith, l)

    pub is-low_at : s - x ≡ low_at now t s
    unfolding low_at
    is-low_at = ap (λ y. s - y) same ∙ ap (λ q. s - extra_at q.extras (length q.uses) (s - q.from) t) is
