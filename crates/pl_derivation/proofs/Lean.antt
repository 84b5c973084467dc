-- Each line of a derivation but the last is what a later one rests on.
use Rattle.std.proofs.Common.{◌≡◌, ℕ, zero, suc, ◌<◌, Bool, true, false, List, [], ◌∷◌, ◌++◌, length, map, fold, take, Some, refl, sym, ◌∙◌, ap, arith, slice_get, append_assoc, append-nil, subst, inl, inr, ◌⊎◌}
use Rattle.std.specs.List.{list_any}
use Rattle.std.proofs.lemmas.Bool.{true≢false, or_cases, or_left, or_right}
use Rattle.std.proofs.lemmas.List.Folds.{list_any-append}
use Rattle.std.proofs.lemmas.List.{length-map}
use Rattle.pl_spec.specs.World.{World}
use Rattle.pl_pipeline.specs.Table.{Pipeline}
use Rattle.pl_spec.proofs.Each.{Each, each_at}
use Rattle.pl_derivation.specs.Facts.{Fact, same_fact, number_in, premises}
use Rattle.pl_derivation.specs.Lines.{Line}
use Rattle.pl_derivation.specs.Right.{fact_of}
use Rattle.pl_derivation.specs.Walks.{IsOnce, is_in, finish, line_for}
use Rattle.pl_derivation.specs.Lean.{IsAt, RestsOn, IsLean}
use Rattle.pl_derivation.proofs.Truths.{same_is, is_same}
use Rattle.pl_derivation.proofs.Closing.{Stand, IsClosed}

-- ---- places in lists

place_of : {A : Type 0} (q : A → Bool) (xs : List A) → list_any q xs ≡ true → (i : ℕ) × (x : A) × (slice_get xs i ≡ Some x) × (q x ≡ true)
place_of q [] h = absurd (true≢false (sym h))
place_of q (x ∷ xs) h = elim (or_cases (q x) (list_any q xs) h) [
  | inl e ↦ (zero, x, refl, e)
  | inr e ↦ (let r = place_of q xs e in (suc r.0, r.1, r.2, r.3))
]

in_at : (fs : List Fact) (i : ℕ) (f : Fact) → slice_get fs i ≡ Some f → is_in fs f ≡ true
in_at [] i f e = absurd (cc (e))
in_at (x ∷ fs) zero f e = let same : x ≡ f = cc in or_left (same_fact f x) (is_in fs f) (rw same (is_same f))
in_at (x ∷ fs) (suc i) f e = or_right (same_fact f x) (is_in fs f) (in_at fs i f e)

-- a fact of the first i has its place there
in_first : (fs : List Fact) (i : ℕ) (g : Fact) → is_in (take i fs) g ≡ true → (j : ℕ) × (j < i) × (slice_get fs j ≡ Some g)
in_first [] zero g h = absurd (true≢false (sym h))
in_first [] (suc i) g h = absurd (true≢false (sym h))
in_first (x ∷ fs) zero g h = absurd (true≢false (sym h))
in_first (x ∷ fs) (suc i) g h = elim (or_cases (same_fact g x) (is_in (take i fs) g) h) [
  | inl e ↦ (zero, omega arith, ap Some (sym (same_is g x e)))
  | inr e ↦ (let r = in_first fs i g e in (suc r.0, (let l : r.0 < i = r.1 in omega arith), r.2))
]

once_at : (fs : List Fact) → IsOnce fs → (i j : ℕ) (f : Fact) → slice_get fs i ≡ Some f → slice_get fs j ≡ Some f → i ≡ j
once_at [] h i j f e k = absurd (cc (e))
once_at (x ∷ fs) h zero zero f e k = refl
once_at (x ∷ fs) h zero (suc j) f e k = let same : x ≡ f = cc in absurd (true≢false (sym (in_at fs j f k) ∙ (rw same at h.0)))
once_at (x ∷ fs) h (suc i) zero f e k = let same : x ≡ f = cc in absurd (true≢false (sym (in_at fs i f e) ∙ (rw same at h.0)))
once_at (x ∷ fs) h (suc i) (suc j) f e k = ap suc (once_at fs h.1 i j f e k)

module _ (w : World) (p : Pipeline) where
  abbrev reasons : Fact → List Fact
  reasons f = premises w p (number_in w p) f

  -- ---- what is of use

  -- one of these rests on the fact
  abbrev is_used_in : List Fact → Fact → Bool
  is_used_in fs g = list_any (λ f. is_in (reasons f) g) fs

  -- each of these is one of those wanted, or one behind it rests on it
  abbrev AreNeeded : List Fact → List Fact → Type 0
  AreNeeded wanted [] = Unit {0}
  AreNeeded wanted (g ∷ gs) = ((is_in wanted g ≡ true) ⊎ (is_used_in gs g ≡ true)) × AreNeeded wanted gs

  needed_both : (wanted more gs hs : List Fact) → ((g : Fact) → is_in wanted g ≡ true → (is_in more g ≡ true) ⊎ (is_used_in hs g ≡ true))
      → AreNeeded wanted gs → AreNeeded more hs → AreNeeded more (gs ++ hs)
  needed_both wanted more [] hs turns n m = m
  needed_both wanted more (g ∷ gs) hs turns n m = (first n.0, needed_both wanted more gs hs turns n.1 m)
    where
      behind : is_used_in gs g ≡ true ⊎ is_used_in hs g ≡ true → is_used_in (gs ++ hs) g ≡ true
      behind (inl e) = list_any-append (λ f. is_in (reasons f) g) gs hs ∙ or_left (is_used_in gs g) (is_used_in hs g) e
      behind (inr e) = list_any-append (λ f. is_in (reasons f) g) gs hs ∙ or_right (is_used_in gs g) (is_used_in hs g) e

      first : (is_in wanted g ≡ true) ⊎ (is_used_in gs g ≡ true) → (is_in more g ≡ true) ⊎ (is_used_in (gs ++ hs) g ≡ true)
      first (inl e) = elim (turns g e) [ inl i ↦ inl i | inr u ↦ inr (behind (inr u)) ]
      first (inr u) = inr (behind (inl u))

  -- what a walk has put behind those that were finished is needed for what it went to
  abbrev Adds : List Fact → List Fact → List Fact → Type 0
  Adds wanted done out = (more : List Fact) × (out ≡ done ++ more) × AreNeeded wanted more

  adds_all : (depth : ℕ) → ((done : List Fact) (f : Fact) → Adds (f ∷ []) done (finish w p depth done f))
      → (done fs : List Fact) → Adds fs done (fold (finish w p depth) done fs)
  adds_all depth one done [] = ([], sym (append-nil done), tt)
  adds_all depth one done (f ∷ fs) =
      let first = one done f in
      let rest = adds_all depth one (finish w p depth done f) fs in
      let out : fold (finish w p depth) done (f ∷ fs) ≡ done ++ (first.0 ++ rest.0) = rest.1 ∙ ap (λ xs. xs ++ rest.0) first.1 ∙ append_assoc done first.0 rest.0 in (
        first.0 ++ rest.0,
        out,
        needed_both (f ∷ []) (f ∷ fs) first.0 rest.0 (λ g i. inl (wider g f i)) first.2 (looser f fs rest.0 rest.2),
      )
    where
      wider : (g f : Fact) → is_in (f ∷ []) g ≡ true → is_in (f ∷ fs) g ≡ true
      wider g f i = elim (or_cases (same_fact g f) false i) [
        | inl e ↦ or_left (same_fact g f) (is_in fs g) e
        | inr e ↦ absurd (true≢false (sym e))
      ]

      looser : (f : Fact) (fs gs : List Fact) → AreNeeded fs gs → AreNeeded (f ∷ fs) gs
      looser f fs [] n = tt
      looser f fs (g ∷ gs) n = (elim n.0 [ inl i ↦ inl (or_right (same_fact g f) (is_in fs g) i) | inr u ↦ inr u ], looser f fs gs n.1)

  adds_one : (depth : ℕ) (done : List Fact) (f : Fact) → Adds (f ∷ []) done (finish w p depth done f)
  adds_one zero done f = ([], sym (append-nil done), tt)
  adds_one (suc depth) done f = step (is_in done f) refl (adds_all depth (adds_one depth) done (reasons f))
    where
      step : (b : Bool) → is_in done f ≡ b → Adds (reasons f) done (fold (finish w p depth) done (reasons f)) → Adds (f ∷ []) done (finish w p (suc depth) done f)
      step true e r = ([], rw e (sym (append-nil done)), tt)
      step false e r =
          let out : fold (finish w p depth) done (reasons f) ++ f ∷ [] ≡ done ++ (r.0 ++ f ∷ []) = ap (λ xs. xs ++ f ∷ []) r.1 ∙ append_assoc done r.0 (f ∷ []) in (
            r.0 ++ f ∷ [],
            rw e out,
            needed_both (reasons f) (f ∷ []) r.0 (f ∷ []) (λ g i. inr (or_left (is_in (reasons f) g) false i)) r.2 (inl (or_left (same_fact f f) false (is_same f)), tt),
          )

  -- ---- by places

  closed_at : (before fs : List Fact) → IsClosed w p before fs → (i : ℕ) (f : Fact) → slice_get fs i ≡ Some f → Stand w p (before ++ take i fs) f
  closed_at before [] h i f e = absurd (cc (e))
  closed_at before (x ∷ fs) h zero f e = let same : x ≡ f = cc in rw (append-nil before) (rw same at h.0)
  closed_at before (x ∷ fs) h (suc i) f e = rw (append_assoc before (x ∷ []) (take i fs)) at (closed_at (before ++ x ∷ []) fs h.1 i f e)

  in_each : (P : Fact → Type 0) (fs : List Fact) (g : Fact) → Each P fs → is_in fs g ≡ true → P g
  in_each P fs g h i =
      let r = place_of (same_fact g) fs i in
      let same : g ≡ r.1 = same_is g r.1 r.3 in
      rw same (each_at P fs r.0 r.1 h r.2)

  -- each but the last, which is what was wanted
  needed_at : (f : Fact) (fs : List Fact) → AreNeeded (f ∷ []) fs → IsOnce fs → (i : ℕ) (g : Fact) → slice_get fs i ≡ Some g
      → (last : ℕ) → slice_get fs last ≡ Some f → i < last → (j : ℕ) × (h : Fact) × (i < j) × (slice_get fs j ≡ Some h) × RestsOn w p h g
  needed_at f [] n once i g e last l less = absurd (cc (e))
  needed_at f (x ∷ fs) n once zero g e zero l less = absurd (omega arith)
  needed_at f (x ∷ fs) n once zero g e (suc last) l less =
      let same : x ≡ g = cc in
      subst (λ y. (j : ℕ) × (h : Fact) × (0 < j) × (slice_get (x ∷ fs) j ≡ Some h) × RestsOn w p h y) same (elim n.0 [
        | inl i ↦ elim (or_cases (same_fact x f) false i) [
          | inl k ↦ (let one : x ≡ f = same_is x f k in absurd (true≢false (sym (in_at fs last f l) ∙ (rw one at once.0))))
          | inr k ↦ absurd (true≢false (sym k))
        ]
        | inr u ↦ (let r = place_of (λ h. is_in (reasons h) x) fs u in (suc r.0, r.1, omega arith, r.2, r.3))
      ])
  needed_at f (x ∷ fs) n once (suc i) g e zero l less = absurd (omega arith)
  needed_at f (x ∷ fs) n once (suc i) g e (suc last) l less =
      let r = needed_at f fs n.1 once.1 i g e last l (omega arith) in
      (suc r.0, r.1, (let k : i < r.0 = r.2 in omega arith), r.3, r.4)

  -- The law: a list of facts of which each stands after its premises, once, and is needed for the last.
  pub lean : (fs : List Fact) (f : Fact) → Each (λ g. fact_of w (line_for w p g) ≡ Some g) fs → IsClosed w p [] fs → IsOnce fs → AreNeeded (f ∷ []) fs
      → (last : ℕ) → slice_get fs last ≡ Some f → suc last ≡ length fs → IsLean w p (map (line_for w p) fs)
  lean fs f about closed once needed last at ends = record {
    about = λ i l. let g = here fs i (rw (length-map fs (line_for w p)) at l) in (g.0, line_at i g.0 g.1);
    closed = λ i f g a rests.
        let stand : Each (λ h. is_in (take i fs) h ≡ true) (reasons f) = closed_at [] fs closed i f (fact_at i f a) in
        let j = in_first fs i g (in_each (λ h. is_in (take i fs) h ≡ true) (reasons f) g stand rests) in
        (j.0, j.1, line_at j.0 g j.2);
    needed = λ i g a l.
        let short : suc i < length fs = rw (length-map fs (line_for w p)) at l in
        let n = needed_at f fs needed once i g (fact_at i g a) last at (omega arith) in
        (n.0, n.1, n.2, line_at n.0 n.1 n.3, n.4);
    once = λ i j f a b. once_at fs once i j f (fact_at i f a) (fact_at j f b);
  }
    where
      here : (xs : List Fact) (i : ℕ) → i < length xs → (g : Fact) × (slice_get xs i ≡ Some g)
      here [] i l = absurd (omega arith)
      here (x ∷ xs) zero l = (x, refl)
      here (x ∷ xs) (suc i) l = here xs i (omega arith)

      line_in : (xs : List Fact) (i : ℕ) (g : Fact) → slice_get xs i ≡ Some g → slice_get (map (line_for w p) xs) i ≡ Some (line_for w p g)
      line_in [] i g e = absurd (cc (e))
      line_in (x ∷ xs) zero g e = let same : x ≡ g = cc in ap (λ y. Some (line_for w p y)) same
      line_in (x ∷ xs) (suc i) g e = line_in xs i g e

      line_at : (i : ℕ) (g : Fact) → slice_get fs i ≡ Some g → IsAt w (map (line_for w p) fs) i g
      line_at i g e = (line_for w p g, line_in fs i g e, each_at (λ g. fact_of w (line_for w p g) ≡ Some g) fs i g about e)

      fact_in : (xs : List Fact) → Each (λ g. fact_of w (line_for w p g) ≡ Some g) xs → (i : ℕ) (g : Fact) (l : Line) → slice_get (map (line_for w p) xs) i ≡ Some l → fact_of w l ≡ Some g → slice_get xs i ≡ Some g
      fact_in [] h i g l e a = absurd (cc (e))
      fact_in (x ∷ xs) h zero g l e a =
          let same : line_for w p x ≡ l = cc in
          sym h.0 ∙ ap (fact_of w) same ∙ a
      fact_in (x ∷ xs) h (suc i) g l e a = fact_in xs h.1 i g l e a

      fact_at : (i : ℕ) (g : Fact) → IsAt w (map (line_for w p) fs) i g → slice_get fs i ≡ Some g
      fact_at i g a = fact_in fs about i g a.0 a.1 a.2

  -- The law, of what a walk from nothing finishes for one fact.
  pub walk_is_lean : (depth : ℕ) (f : Fact) → Each (λ g. fact_of w (line_for w p g) ≡ Some g) (finish w p (suc depth) [] f) → IsClosed w p [] (finish w p (suc depth) [] f)
      → IsOnce (finish w p (suc depth) [] f) → IsLean w p (map (line_for w p) (finish w p (suc depth) [] f))
  walk_is_lean depth f about closed once =
      let all = adds_one (suc depth) [] f in
      let needed : AreNeeded (f ∷ []) (finish w p (suc depth) [] f) = subst (λ xs. AreNeeded (f ∷ []) xs) (sym all.1) all.2 in
      let front : List Fact = fold (finish w p depth) [] (reasons f) in
      lean (finish w p (suc depth) [] f) f about closed once needed (length front) (last front) (long front)
    where
      last : (xs : List Fact) → slice_get (xs ++ f ∷ []) (length xs) ≡ Some f
      last [] = refl
      last (x ∷ xs) = last xs

      long : (xs : List Fact) → suc (length xs) ≡ length (xs ++ f ∷ [])
      long [] = refl
      long (x ∷ xs) = ap suc (long xs)
