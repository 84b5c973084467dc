-- On how many sessions before the last one terms are read as they are seen on the last.
use Rattle.std.proofs.Common.{◌≡◌, ℕ, zero, suc, ◌+◌, ◌-◌, ◌*◌, ◌^◌, ◌<◌, ◌≤◌, Bool, true, false, ◌||◌, nat_lt, cond, if◌then◌else◌, max, List, [], ◌∷◌, length, map, fold, filter, get_or, slice_set, slice_get, drop, take, replicate, Option, Some, None, unwrap_or, refl, sym, ◌∙◌, ap, arith, inl, inr, ◌==◌}
use Rattle.std.specs.List.{range_with_len}
use Rattle.std.proofs.lemmas.Bool.{cases_eq, eq-eqb, eqb-true, ne_eqb, or_cases, true≢false}
use Rattle.std.proofs.lemmas.Bool.Decides.{nat_tests}
use Rattle.std.proofs.lemmas.List.{length-replicate}
use Rattle.std.proofs.lemmas.Option.{slice_get_within}
use Rattle.pl_spec.specs.Limits.{most_terms, most_window}
use Rattle.pl_pipeline.specs.Term.{Graph, Node}
use Rattle.pl_pipeline.specs.Term.Input.{TermInput}
use Rattle.pl_pipeline.specs.Graph.{used_terms}
use Rattle.pl_pipeline.specs.Cones as cones
use Rattle.pl_pipeline.specs.Cones.{Follows, HasDepth, cone_depths, larger, mark, moves_at}
use Rattle.pl_pipeline.specs.Kind.{Kind}
use Rattle.pl_pipeline.specs.Kind.Kind.{Window}
use Rattle.pl_pipeline.specs.Table.{Pipeline}
use Rattle.pl_laws.proofs.ConeDepths.{depths-sound, depths-greatest}
use Rattle.pl_laws.proofs.ConeInputs.{input-lower}
use Rattle.pl_terms.specs.Checked.{IsChecked}
use Rattle.pl_terms.specs.Sorts.{is_windowed}
use Rattle.pl_terms.specs.Uses.{outputs, is_used}
use Rattle.pl_planner.specs.Cones.{pairs_of, pair_of}
use Rattle.pl_planner.specs.declared.cones.ConeTerm.{ConeTerm}
use Rattle.pl_planner.proofs.Counting.{all_same, most_chosen, most_in, most_more}
use Rattle.pl_planner.proofs.Live.{filtered}
use Rattle.pl_planner.proofs.Pipelines.{is-pipeline}
use Rattle.pl_daily.specs.Capacities.{deepest, depth_in}
use Rattle.pl_daily.specs.Inside.{used_depth, AreDepths}
use Rattle.pl_daily.proofs.Cells.{set_at}

-- the used terms are a filter of all terms
pub used-listed : (p : Pipeline) → used_terms p.graph (outputs p) ≡ filter (is_used p) (range_with_len 0 (length p.graph))
used-listed p = filtered p.graph (is_used p) (length p.graph) (outputs p) (λ t l. refl)

-- so a maximum over the used terms is one over all, at which the others count nothing
pub most-used : (f : ℕ → ℕ) (p : Pipeline) → fold max 0 (map (λ k. if is_used p k then f k else 0) (range_with_len 0 (length p.graph))) ≡ fold max 0 (map f (used_terms p.graph (outputs p)))
most-used f p =
    sym (most_chosen f (is_used p) (range_with_len 0 (length p.graph)) 0) ∙ ap (λ ks. fold max 0 (map f ks)) (sym (used-listed p))

pub used-at-most : (f : ℕ → ℕ) (p : Pipeline) (k : ℕ) → is_used p k ≡ true → k < length p.graph → f k ≤ fold max 0 (map f (used_terms p.graph (outputs p)))
used-at-most f p k used within =
    let own : (if is_used p k then f k else 0) ≡ f k = rw used refl in
    let most : (if is_used p k then f k else 0) ≤ fold max 0 (map (λ k. if is_used p k then f k else 0) (range_with_len 0 (length p.graph)))
    = most_in (λ k. if is_used p k then f k else 0) (length p.graph) k within in
    let is = most-used f p in
    omega arith

pub most-few : (f : ℕ → ℕ) (b : ℕ) (ks : List ℕ) (a : ℕ) → ((k : ℕ) → f k ≤ b) → a ≤ b → fold max a (map f ks) ≤ b
most-few f b [] a each h = h
most-few f b (k ∷ ks) a each h = let l : f k ≤ b = each k in most-few f b ks (max a (f k)) each (omega (arith, l, h))

-- ---- depths in a cone

pub depth-cons : (u : ℕ) (c : ℕ × ℕ) (cs : List (ℕ × ℕ)) → depth_in u (c ∷ cs) ≡ (if c.0 == u then max c.1 (depth_in u cs) else depth_in u cs)
depth-cons u c cs = here (c.0 == u)
  where
    of_larger : (k : ℕ) (o : Option ℕ) → larger k o ≡ max k (unwrap_or o 0)
    of_larger k None = omega arith
    of_larger k (Some m) = refl

    here : (b : Bool) → unwrap_or (cond b (Some (larger c.1 (mark u cs))) (mark u cs)) 0 ≡ cond b (max c.1 (depth_in u cs)) (depth_in u cs)
    here true = of_larger c.1 (mark u cs)
    here false = refl

-- a listed depth is no greater
has-least : (u m : ℕ) (cs : List (ℕ × ℕ)) → HasDepth u m cs → m ≤ depth_in u cs
has-least u m [] h = absurd h
has-least u m (c ∷ cs) (inl e) =
    let own : (c.0 == u) ≡ true = eq-eqb c.0 u (ap (λ (q : ℕ × ℕ). q.0) e) in
    let is : c.1 ≡ m = ap (λ (q : ℕ × ℕ). q.1) e in
    let all : depth_in u (c ∷ cs) ≡ max c.1 (depth_in u cs) = depth-cons u c cs ∙ ap (λ (b : Bool). if b then max c.1 (depth_in u cs) else depth_in u cs) own in
    omega (arith, all, is)
has-least u m (c ∷ cs) (inr h) = more (c.0 == u) refl (has-least u m cs h)
  where
    more : (b : Bool) → (c.0 == u) ≡ b → m ≤ depth_in u cs → m ≤ depth_in u (c ∷ cs)
    more true e l =
        let all : depth_in u (c ∷ cs) ≡ max c.1 (depth_in u cs) = depth-cons u c cs ∙ ap (λ (b : Bool). if b then max c.1 (depth_in u cs) else depth_in u cs) e in
        omega (arith, all, l)
    more false e l =
        let all : depth_in u (c ∷ cs) ≡ depth_in u cs = depth-cons u c cs ∙ ap (λ (b : Bool). if b then max c.1 (depth_in u cs) else depth_in u cs) e in
        omega (arith, all, l)

-- a depth above 0 is listed
depth-has : (u m : ℕ) (cs : List (ℕ × ℕ)) → depth_in u cs ≡ suc m → HasDepth u (suc m) cs
depth-has u m [] e = let bad : 0 ≡ suc m = e in absurd (omega (arith, bad))
depth-has u m (c ∷ cs) e = here (c.0 == u) refl (depth-has u m cs)
  where
    here : (b : Bool) → (c.0 == u) ≡ b → (depth_in u cs ≡ suc m → HasDepth u (suc m) cs) → HasDepth u (suc m) (c ∷ cs)
    here false t more =
        inr (more (sym (ap (λ (b : Bool). if b then max c.1 (depth_in u cs) else depth_in u cs) t) ∙ sym (depth-cons u c cs) ∙ e))
    here true t more =
        let is : max c.1 (depth_in u cs) ≡ suc m = sym (ap (λ (b : Bool). if b then max c.1 (depth_in u cs) else depth_in u cs) t) ∙ sym (depth-cons u c cs) ∙ e in
        let same : c.0 ≡ u = eqb-true c.0 u t in
        elim (cases_eq c.1 (suc m)) [
          | inl q ↦ inl (ap (λ x. (x, c.1)) same ∙ ap (λ x. (u, x)) q)
          | inr q ↦ inr (more (omega (arith, is, q)))
        ]

-- ---- those of used terms

same-windowed : (k : Kind) → is_windowed k ≡ cones.is_windowed k
same-windowed (Window f) = refl
same-windowed k = refl

module _ (p : Pipeline) (ok : IsChecked p) where
  abbrev g : Graph
  g = p.graph

  -- so far as a used term reads it
  pub deepest-reads : (t u m : ℕ) → is_used p t ≡ true → t < length g → Follows g t u m → m ≤ deepest p u
  unfolding deepest
  deepest-reads t u m used within f =
      let r = depths-greatest g ok.graph t u m f in
      let listed : r.0 ≤ depth_in u (cone_depths g t) = has-least u r.0 (cone_depths g t) r.1 in
      let most = used-at-most (λ t. depth_in u (cone_depths g t)) p t used within in
      let least : m ≤ r.0 = r.2 in
      omega (arith, listed, most, least)

  -- no deeper than all used terms that read it
  pub deepest-few : (u b : ℕ) → ((t m : ℕ) → is_used p t ≡ true → Follows g t u (suc m) → suc m ≤ b) → deepest p u ≤ b
  unfolding deepest
  deepest-few u b each =
      let most = most-few (used_depth p u) b (range_with_len 0 (length g)) 0 (λ t. by_use t (is_used p t) refl) (omega arith) in
      let is = most-used (λ t. depth_in u (cone_depths g t)) p in
      omega (arith, most, is)
    where
      by_depth : (t m : ℕ) → is_used p t ≡ true → depth_in u (cone_depths g t) ≡ m → depth_in u (cone_depths g t) ≤ b
      by_depth t zero used e = omega (arith, e)
      by_depth t (suc m) used e =
          let l : suc m ≤ b = each t m used (depths-sound g ok.graph t u (suc m) (depth-has u m (cone_depths g t) e)) in
          omega (arith, e, l)

      by_use : (t : ℕ) (q : Bool) → is_used p t ≡ q → used_depth p u t ≤ b
      by_use t true e = rw e (by_depth t (depth_in u (cone_depths g t)) e refl)
      by_use t false e = rw e (omega arith)

  follows-moves : (t u m : ℕ) → Follows g t u m → moves_at g u ≡ true
  follows-moves t u m (Follows.input n i e w at h) = h
  follows-moves t u m (Follows.through v j n i f e at h) = h

  -- what is read before the last session moves
  pub deep-moves : (u : ℕ) → 0 < deepest p u → moves_at g u ≡ true
  deep-moves u deep = here (moves_at g u) refl
    where
      here : (b : Bool) → moves_at g u ≡ b → b ≡ true
      here true e = refl
      here false e =
          let none : deepest p u ≤ 0 = deepest-few u 0 (λ t m used f. absurd (true≢false (sym (follows-moves t u (suc m) f) ∙ e))) in
          absurd (omega (arith, none, deep))

  follows-within : (t u m : ℕ) → Follows g t u m → t < length g
  follows-within t u m (Follows.input n i e w at h) = slice_get_within g t n e
  follows-within t u m (Follows.through v j n i f e at h) = follows-within t v j f

  -- an input that moves is read as far back as the term and its window
  module _ (k i u : ℕ) (n : Node) (used : is_used p k ≡ true) (at : slice_get g k ≡ Some n) (input : slice_get n.inputs i ≡ Some (TermInput u)) (moves : moves_at g u ≡ true) where
    further : deepest p k ≤ deepest p u - (n.window - 1)
    further = deepest-few k (deepest p u - (n.window - 1)) (λ t m of f.
        (let l : suc m + (n.window - 1) ≤ deepest p u = deepest-reads t u (suc m + (n.window - 1)) of (follows-within t k (suc m) f) (Follows.through k (suc m) n i f at input moves) in omega (arith, l)))

    pub input-deep : (is_windowed n.kind || nat_lt 0 (deepest p k)) ≡ true → n.window + deepest p k ≤ deepest p u + 1
    input-deep h = elim (or_cases (is_windowed n.kind) (nat_lt 0 (deepest p k)) h) [
      | inl w ↦
          let l : n.window - 1 ≤ deepest p u = deepest-reads k u (n.window - 1) used (slice_get_within g k n at) (Follows.input n i at (sym (same-windowed n.kind) ∙ w) input moves) in
          let some = ((is-pipeline p ok).windows k n at).0 in
          (let f = further in omega (arith, f, l, some))
      | inr d ↦
          let deep : 0 < deepest p k = grind (arith, nat_tests, d) in
          let some = ((is-pipeline p ok).windows k n at).0 in
          (let f = further in omega (arith, f, deep, some))
    ]

  follows-few : (t u m : ℕ) → Follows g t u m → m + u * most_window ≤ t * most_window
  follows-few t u m (Follows.input n i e w at h) =
      let lower : u < t = input-lower g ok.graph t u (n, i, e, at) in
      let few = ((is-pipeline p ok).windows t n e).1 in
      omega (arith, lower, few)
  follows-few t u m (Follows.through v j n i f e at h) =
      let lower : u < v = input-lower g ok.graph v u (n, i, e, at) in
      let few = ((is-pipeline p ok).windows v n e).1 in
      let rest : j + v * most_window ≤ t * most_window = follows-few t v j f in
      omega (arith, lower, few, rest)

  -- depths are far below what a machine counts to
  pub deepest-small : (u : ℕ) → length g ≤ most_terms → deepest p u < 2 ^ 32
  deepest-small u few =
      let bound : deepest p u ≤ most_terms * most_window =
      deepest-few u (most_terms * most_window) (λ t m used f.
      (let l = follows-few t u (suc m) f in let within = follows-within t u (suc m) f in omega (arith, l, within, few))) in
      omega (arith, bound)

-- ---- as they are gathered

cone-first : (cone : List ConeTerm) (d : ConeTerm) (u : ℕ) → 1 ≤ length cone
    → depth_in u (pairs_of cone) ≡ (if (get_or cone 0 d).term.0 == u then max (get_or cone 0 d).depth (depth_in u (pairs_of (drop 1 cone))) else depth_in u (pairs_of (drop 1 cone)))
unfolding pairs_of
cone-first [] d u h = absurd (omega (arith, h))
cone-first (c ∷ cs) d u h = depth-cons u (pair_of c) (map pair_of cs)

take-whole : {X : Type 0} (xs : List X) → take (length xs) xs ≡ xs
take-whole [] = refl
take-whole (x ∷ xs) = ap (λ l. x ∷ l) (take-whole xs)

-- the rest of a slice, as its pattern has it
pub rest-is : {X : Type 0} (xs : List X) → take (length xs - 1) (drop 1 xs) ≡ drop 1 xs
rest-is [] = refl
rest-is (x ∷ xs) = let e : length (x ∷ xs) - 1 ≡ length xs = omega arith in rw e (take-whole xs)

pub deepen-none : (old : List ℕ) (cone : List ConeTerm) → length cone ≡ 0 → (u : ℕ) → u < length old → get_or old u 0 ≡ max (get_or old u 0) (depth_in u (pairs_of cone))
unfolding pairs_of
deepen-none old [] none u h = omega arith
deepen-none old (c ∷ cs) none u h = absurd (omega (arith, none))

abbrev pub Deepens : List ℕ → List ℕ → List ConeTerm → Type 0
Deepens old new cone = (u : ℕ) → u < length old → get_or new u 0 ≡ max (get_or old u 0) (depth_in u (pairs_of cone))

deepen-at : (old mid : List ℕ) (own x deep : ℕ) (more all : ℕ → ℕ) → ((u : ℕ) → all u ≡ (if own == u then max deep (more u) else more u)) → own < length mid → x ≡ max (get_or mid own 0) deep
    → ((u : ℕ) → u < length old → get_or mid u 0 ≡ max (get_or old u 0) (more u)) → (u : ℕ) → u < length old → get_or (slice_set mid own x) u 0 ≡ max (get_or old u 0) (all u)
deepen-at old mid own x deep more all parts inside is each u h = set_at mid own u x 0 inside ∙ here (own == u) refl
  where
    here : (b : Bool) → (own == u) ≡ b → (if own == u then x else get_or mid u 0) ≡ max (get_or old u 0) (all u)
    here true e =
        let same : own ≡ u = eqb-true own u e in
        let at : get_or mid own 0 ≡ get_or mid u 0 = ap (λ i. get_or mid i 0) same in
        let all_is : all u ≡ max deep (more u) = parts u ∙ ap (λ (b : Bool). if b then max deep (more u) else more u) e in
        let mid_is = each u h in
        rw e (omega (arith, is, at, all_is, mid_is))
    here false e =
        let all_is : all u ≡ more u = parts u ∙ ap (λ (b : Bool). if b then max deep (more u) else more u) e in
        rw (e, all_is) (each u h)

pub deepen-own : (old mid : List ℕ) (cone : List ConeTerm) (d : ConeTerm) (x : ℕ) → 1 ≤ length cone → (get_or cone 0 d).term.0 < length mid
    → x ≡ max (get_or mid (get_or cone 0 d).term.0 0) (get_or cone 0 d).depth → Deepens old mid (drop 1 cone)
    → Deepens old (slice_set mid (get_or cone 0 d).term.0 x) cone
deepen-own old mid cone d x some inside is each =
    deepen-at old mid (get_or cone 0 d).term.0 x (get_or cone 0 d).depth (λ u. depth_in u (pairs_of (drop 1 cone))) (λ u. depth_in u (pairs_of cone)) (λ u. cone-first cone d u some) inside is each

pub deepen-past : (old mid : List ℕ) (cone : List ConeTerm) (d : ConeTerm) → 1 ≤ length cone → ((get_or cone 0 d).term.0 < length mid → ⊥)
    → Deepens old mid (drop 1 cone) → length mid ≡ length old → Deepens old mid cone
deepen-past old mid cone d some past each long u h =
    let other : ((get_or cone 0 d).term.0 == u) ≡ false = ne_eqb (get_or cone 0 d).term.0 u (λ e. past (omega (arith, e, h, long))) in
    let all : depth_in u (pairs_of cone) ≡ depth_in u (pairs_of (drop 1 cone)) = cone-first cone d u some ∙ ap (λ (b : Bool). if b then max (get_or cone 0 d).depth (depth_in u (pairs_of (drop 1 cone))) else depth_in u (pairs_of (drop 1 cone))) other in
    rw all (each u h)

-- the depths in the cones of the used terms below k
pub record AreDeepened (p : Pipeline) (k : ℕ) (depths : List ℕ) : Type 0 where
  pub many : length depths ≡ length p.graph
  pub each : (u : ℕ) → u < length p.graph → get_or depths u 0 ≡ fold max 0 (map (used_depth p u) (range_with_len 0 k))

pub deepened-none : (p : Pipeline) (n : ℕ) (depths : List ℕ) → depths ≡ replicate n 0 → n ≡ length p.graph → AreDeepened p 0 depths
deepened-none p n depths is many = record {
  many = ap length is ∙ length-replicate n 0 ∙ many;
  each = λ u h. ap (λ l. get_or l u 0) is ∙ all_same n u 0;
}

pub deepened-more : (p : Pipeline) (k : ℕ) (old lent new : List ℕ) → AreDeepened p k old → lent ≡ old → length new ≡ length lent
    → ((u : ℕ) → u < length lent → get_or new u 0 ≡ max (get_or lent u 0) (used_depth p u k)) → AreDeepened p (k + 1) new
deepened-more p k old lent new so_far same long each = record {
  many = long ∙ ap length same ∙ so_far.many;
  each = λ u h.
      each u (let m : length lent ≡ length p.graph = ap length same ∙ so_far.many in omega (arith, m, h))
      ∙ ap (λ d. max d (used_depth p u k)) (ap (λ l. get_or l u 0) same ∙ so_far.each u h)
      ∙ sym (most_more (used_depth p u) k);
}

-- the depths of all used terms
pub all-deep : (p : Pipeline) (k : ℕ) (depths : List ℕ) → k ≡ length p.graph → AreDeepened p k depths → AreDepths p depths
unfolding deepest
all-deep p k depths end all = record {
  many = all.many;
  each = λ u h.
      all.each u h ∙ ap (λ n. fold max 0 (map (used_depth p u) (range_with_len 0 n))) end ∙ most-used (λ t. depth_in u (cone_depths p.graph t)) p;
}
