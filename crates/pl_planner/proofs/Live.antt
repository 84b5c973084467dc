-- The terms that are live with a term, by their last readers.
use Rattle.std.proofs.Common.{◌≡◌, ℕ, zero, suc, ◌+◌, ◌-◌, ◌<◌, ◌≤◌, Bool, true, false, cond, ◌&&◌, ◌||◌, max, nat_le, List, [], ◌∷◌, ◌++◌, length, map, fold, filter, refl, sym, ◌∙◌, ap, arith, inl, inr, ◌==◌, if◌then◌else◌, leb-true}
use Rattle.std.specs.List.{range_with_len, count_by, list_any}
use Rattle.std.proofs.lemmas.Bool.Decides.{nat_tests}
use Rattle.std.proofs.lemmas.Bool.{and_right, cases_lt, true≢false, or_cases, or_left, or_right, eq-eqb, eqb-true, and_from, and_parts}
use Rattle.std.proofs.lemmas.List.{get_or_past}
use Rattle.std.proofs.lemmas.List.Elements.{filter-append}
use Rattle.std.proofs.lemmas.List.Sums.{length-filter}
use Rattle.std.proofs.lemmas.List.Folds.{list_any-append}
use Rattle.pl_pipeline.specs.Term.{Graph, IsGraph}
use Rattle.pl_pipeline.specs.Graph.{contains, mentions_at, Used, used_below, used_terms}
use Rattle.pl_pipeline.specs.Cones.{reads_of}
use Rattle.pl_spec.proofs.Ranges.{range-next}
use Rattle.pl_spec.proofs.Lists.{filter-twice}
use Rattle.pl_pipeline.proofs.Contained.{not-in-back, alone-in, not-in-alone}
use Rattle.pl_laws.proofs.Uses.{used_terms-sound, used_terms-complete}
use Rattle.pl_planner.specs.declared.uses.Use.{Use}
use Rattle.pl_planner.specs.Uses.{unused, use_at, is_kept, AreUsesBy, IsLastBy}
use Rattle.pl_planner.specs.Holds.{is_live_by, live_terms_by}
use Rattle.pl_planner.specs.Columns.{columns_held, held_at, most_held}
use Rattle.pl_planner.proofs.Counting.{count_cut, count_same, most_chosen, most_same}

-- ---- the used terms are a filter of all terms

module _ (g : Graph) where
  low : (n : ℕ) (marks : List ℕ) (t : ℕ) → n ≤ t → contains (used_below g n marks) t ≡ false
  low zero marks t h = refl
  low (suc n) marks t h = here (contains marks n) refl (λ m. low n m t (omega arith))
    where
      here : (b : Bool) → contains marks n ≡ b → ((m : List ℕ) → contains (used_below g n m) t ≡ false)
          → contains (used_below g n (cond b (marks ++ mentions_at g n) marks) ++ cond b (n ∷ []) []) t ≡ false
      here true e ih = not-in-back (used_below g n (marks ++ mentions_at g n)) (n ∷ []) t (not-in-alone n t (λ p. omega arith)) ∙ ih (marks ++ mentions_at g n)
      here false e ih = not-in-back (used_below g n marks) [] t refl ∙ ih marks

  pub filtered : (q : ℕ → Bool) (n : ℕ) (marks : List ℕ) → ((t : ℕ) → t < n → q t ≡ contains (used_below g n marks) t) → used_below g n marks ≡ filter q (range_with_len 0 n)
  filtered q zero marks h = refl
  filtered q (suc n) marks h = here (contains marks n) refl h (λ m k. filtered q n m k)
    where
      split : filter q (range_with_len 0 (suc n)) ≡ filter q (range_with_len 0 n) ++ filter q (n ∷ [])
      split = let e : suc n ≡ n + 1 = omega arith in ap (λ m. filter q (range_with_len 0 m)) e ∙ ap (filter q) (range-next n) ∙ filter-append q (range_with_len 0 n) (n ∷ [])

      here : (b : Bool) → contains marks n ≡ b → ((t : ℕ) → t < suc n → q t ≡ contains (used_below g n (cond b (marks ++ mentions_at g n) marks) ++ cond b (n ∷ []) []) t)
          → ((m : List ℕ) → ((t : ℕ) → t < n → q t ≡ contains (used_below g n m) t) → used_below g n m ≡ filter q (range_with_len 0 n))
          → used_below g n (cond b (marks ++ mentions_at g n) marks) ++ cond b (n ∷ []) [] ≡ filter q (range_with_len 0 (suc n))
      here true e h ih =
          let front : used_below g n (marks ++ mentions_at g n) ≡ filter q (range_with_len 0 n)
          = ih (marks ++ mentions_at g n) (λ t l. h t (omega arith) ∙ not-in-back (used_below g n (marks ++ mentions_at g n)) (n ∷ []) t (not-in-alone n t (λ p. omega arith))) in
          let own : q n ≡ true = h n (omega arith) ∙ list_any-append (λ x. x == n) (used_below g n (marks ++ mentions_at g n)) (n ∷ []) ∙ or_right (contains (used_below g n (marks ++ mentions_at g n)) n) (contains (n ∷ []) n) (alone-in n) in
          let back : n ∷ [] ≡ filter q (n ∷ []) = rw own refl in
          ap (λ l. l ++ n ∷ []) front ∙ ap (λ l. filter q (range_with_len 0 n) ++ l) back ∙ sym split
      here false e h ih =
          let front : used_below g n marks ≡ filter q (range_with_len 0 n) = ih marks (λ t l. h t (omega arith) ∙ not-in-back (used_below g n marks) [] t refl) in
          let own : q n ≡ false = h n (omega arith) ∙ not-in-back (used_below g n marks) [] n refl ∙ low n marks n (omega arith) in
          let back : [] ≡ filter q (n ∷ []) = rw own refl in
          ap (λ l. l ++ []) front ∙ ap (λ l. filter q (range_with_len 0 n) ++ l) back ∙ sym split

-- ---- a list of chosen terms

pub contains-filter : (p : ℕ → Bool) (xs : List ℕ) (t : ℕ) → contains (filter p xs) t ≡ (contains xs t && p t)
contains-filter p [] t = refl
contains-filter p (x ∷ xs) t = here (p x) refl (x == t) refl (contains-filter p xs t)
  where
    here : (b : Bool) → p x ≡ b → (c : Bool) → (x == t) ≡ c → contains (filter p xs) t ≡ (contains xs t && p t) → contains (filter p (x ∷ xs)) t ≡ (contains (x ∷ xs) t && p t)
    here true e true f ih = let s : p t ≡ true = ap p (sym (eqb-true x t f)) ∙ e in rw (e, f, s) refl
    here true e false f ih = rw (e, f) ih
    here false e true f ih = let s : p t ≡ false = ap p (sym (eqb-true x t f)) ∙ e in rw (e, f) (ih ∙ rw s (and_right (contains xs t) false refl))
    here false e false f ih = rw (e, f) ih

-- ---- a test of some of a list

pub record Some_of (f : ℕ → Bool) (xs : List ℕ) : Type 0 where
  pub it : ℕ
  pub in_list : contains xs it ≡ true
  pub holds : f it ≡ true

find_some : (f : ℕ → Bool) (xs : List ℕ) → list_any f xs ≡ true → Some_of f xs
find_some f [] h = absurd (true≢false (sym h))
find_some f (x ∷ xs) h = elim (or_cases (f x) (list_any f xs) h) [
  | inl p ↦ record { it = x; in_list = or_left (x == x) (contains xs x) (eq-eqb x x refl); holds = p }
  | inr p ↦ (let r = find_some f xs p in record { it = r.it; in_list = or_right (x == r.it) (contains xs r.it) r.in_list; holds = r.holds })
]

pub some_holds : (f : ℕ → Bool) (xs : List ℕ) (t : ℕ) → contains xs t ≡ true → f t ≡ true → list_any f xs ≡ true
some_holds f [] t h e = absurd (true≢false (sym h))
some_holds f (x ∷ xs) t h e = elim (or_cases (x == t) (contains xs t) h) [
  | inl p ↦ or_left (f x) (list_any f xs) (ap f (eqb-true x t p) ∙ e)
  | inr p ↦ or_right (f x) (list_any f xs) (some_holds f xs t p e)
]

le_not : (a b : ℕ) → nat_le a b ≡ false → a ≤ b → ⊥
le_not a b h l = grind (arith, nat_tests)

pub used_within : (g : Graph) (outputs : List ℕ) (ok : IsGraph g) {by : ℕ → List ℕ} {uses : List Use} → AreUsesBy by g outputs uses → (t : ℕ) → Used g outputs t → t < length g
used_within g outputs ok {by} {uses} are t u = elim (cases_lt t (length g)) [
  | inl p ↦ p
  | inr p ↦ absurd (true≢false (sym ((are.used t).1 u) ∙ ap (λ (x : Use). x.used) (get_or_past uses t unused (let s = are.size in omega arith))))
]

-- ---- what is held at once

pub turned : (a b c : Bool) → (a && b && c) ≡ (b && (a && c))
turned true true c = refl
turned true false c = refl
turned false true c = refl
turned false false c = refl

-- by what each term reads and how many columns it holds, which terms are used, and which are kept with a term
module _ (by : ℕ → List ℕ) (columns : ℕ → ℕ) (g : Graph) (outputs : List ℕ) (used : ℕ → Bool) (kept : ℕ → ℕ → Bool) (listed : used_terms g outputs ≡ filter used (range_with_len 0 (length g)))
    (lives : (k t : ℕ) → k < length g → (used t && is_live_by by g outputs k t) ≡ (nat_le t k && kept k t)) where
  live_count : (k : ℕ) → k < length g → length (live_terms_by by g outputs k) ≡ count_by (kept k) (range_with_len 0 (k + 1))
  live_count k h =
      let long : length g ≡ k + 1 + (length g - (k + 1)) = omega arith in
      ap (λ l. length (filter (is_live_by by g outputs k) l)) listed
      ∙ ap length (filter-twice (is_live_by by g outputs k) used (range_with_len 0 (length g)))
      ∙ length-filter (λ t. used t && is_live_by by g outputs k t) (range_with_len 0 (length g))
      ∙ count_same (λ t. used t && is_live_by by g outputs k t) (λ t. nat_le t k && kept k t) (λ t. lives k t h) (range_with_len 0 (length g))
      ∙ ap (λ n. count_by (λ t. nat_le t k && kept k t) (range_with_len 0 n)) long
      ∙ count_cut (kept k) k (length g - (k + 1))

  pub bound_held : fold max 0 (map (λ k. if used k then count_by (kept k) (range_with_len 0 (k + 1)) + columns k else 0) (range_with_len 0 (length g))) ≡ fold max 0 (map (λ k. length (live_terms_by by g outputs k) + columns k) (used_terms g outputs))
  bound_held =
      most_same (λ k. if used k then count_by (kept k) (range_with_len 0 (k + 1)) + columns k else 0) (λ k. if used k then length (live_terms_by by g outputs k) + columns k else 0) (length g)
      (λ k h. ap (λ n. if used k then n + columns k else 0) (sym (live_count k h)))
      ∙ sym (most_chosen (λ k. length (live_terms_by by g outputs k) + columns k) used (range_with_len 0 (length g)) 0)
      ∙ ap (λ l. fold max 0 (map (λ k. length (live_terms_by by g outputs k) + columns k) l)) (sym listed)

module _ (g : Graph) (outputs : List ℕ) {by : ℕ → List ℕ} (uses : List Use) (ok : IsGraph g) (are : AreUsesBy by g outputs uses) where
  abbrev used : ℕ → Bool
  used t = (use_at uses t).used

  used_listed : used_terms g outputs ≡ filter used (range_with_len 0 (length g))
  used_listed = filtered g used (length g) outputs (λ t l. same t (used t) refl l)
    where
      no : (t : ℕ) (c : Bool) → contains (used_terms g outputs) t ≡ c → used t ≡ false → false ≡ contains (used_terms g outputs) t
      no t true f e = absurd (true≢false (sym ((are.used t).1 (used_terms-sound g outputs ok t f)) ∙ e))
      no t false f e = sym f

      same : (t : ℕ) (b : Bool) → used t ≡ b → t < length g → used t ≡ contains (used_terms g outputs) t
      same t true e l = e ∙ sym (used_terms-complete g outputs ok t l ((are.used t).0 e))
      same t false e l = e ∙ no t (contains (used_terms g outputs) t) refl e

  -- what is live with term k is kept up to it
  pub live_is : (k t : ℕ) → k < length g → (used t && is_live_by by g outputs k t) ≡ (nat_le t k && is_kept uses k t)
  live_is k t in_graph = here (used t) refl (nat_le t k) refl
    where
      kept : Used g outputs t → t ≤ k → (contains outputs t || list_any (λ u. nat_le k u && contains (by u) t) (used_terms g outputs)) ≡ nat_le k (use_at uses t).last
      kept u low = last (nat_le k (use_at uses t).last) refl (contains outputs t) refl
        where
          is : IsLastBy by g outputs t (use_at uses t).last
          is = are.last t u

          last : (b : Bool) → nat_le k (use_at uses t).last ≡ b → (o : Bool) → contains outputs t ≡ o
              → (contains outputs t || list_any (λ u. nat_le k u && contains (by u) t) (used_terms g outputs)) ≡ nat_le k (use_at uses t).last
          last true e true o = rw (e, o) refl
          last true e false o =
              let r = is.reader o in
              let within : (use_at uses t).last < length g = used_within g outputs ok are (use_at uses t).last r.0 in
              rw (e, o) (some_holds (λ u. nat_le k u && contains (by u) t) (used_terms g outputs) (use_at uses t).last (used_terms-complete g outputs ok (use_at uses t).last within r.0) (and_from _ _ e r.1))
          last false e true o = let z = is.output o in absurd (le_not k (use_at uses t).last e (omega arith))
          last false e false o = rw (e, o) (none (list_any (λ u. nat_le k u && contains (by u) t) (used_terms g outputs)) refl)
            where
              none : (c : Bool) → list_any (λ u. nat_le k u && contains (by u) t) (used_terms g outputs) ≡ c → list_any (λ u. nat_le k u && contains (by u) t) (used_terms g outputs) ≡ false
              none false f = f
              none true f =
                  let r = find_some (λ u. nat_le k u && contains (by u) t) (used_terms g outputs) f in
                  let two = and_parts (nat_le k r.it) (contains (by r.it) t) r.holds in
                  let later : k ≤ r.it = leb-true k r.it two.0 in
                  let most = is.most r.it (used_terms-sound g outputs ok r.it r.in_list) two.1 in
                  absurd (le_not k (use_at uses t).last e (omega arith))

      here : (b : Bool) → used t ≡ b → (l : Bool) → nat_le t k ≡ l → (used t && is_live_by by g outputs k t) ≡ (nat_le t k && is_kept uses k t)
      here true e true l = rw (e, l) (kept ((are.used t).0 e) (leb-true t k l))
      here true e false l = rw (e, l) refl
      here false e true l = rw (e, l) refl
      here false e false l = rw (e, l) refl

module _ (g : Graph) (outputs : List ℕ) (uses : List Use) (ok : IsGraph g) (are : AreUsesBy (reads_of g) g outputs uses) where
  pub bound_is : fold max 0 (map (held_at g uses) (range_with_len 0 (length g))) ≡ most_held g outputs
  bound_is = bound_held (reads_of g) (columns_held g) g outputs (λ t. (use_at uses t).used) (is_kept uses) (used_listed g outputs uses ok are) (live_is g outputs uses ok are)
