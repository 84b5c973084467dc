-- The cone of a term is gathered as it is defined.
use Rattle.std.proofs.Common.{◌≡◌, ℕ, suc, ◌+◌, ◌-◌, ◌*◌, ◌^◌, ◌<◌, ◌≤◌, ◌==◌, cond, not, nat_lt, ◌||◌, max, Bool, true, false, List, [], ◌∷◌, ◌++◌, length, map, filter, filter_map, take, drop, get_or, set, replicate, Option, Some, None, slice_get, refl, sym, ◌∙◌, ap, subst, arith, inl, inr, append-nil, get_or-set_same, get_or-set_other}
use Rattle.std.proofs.lemmas.Bool.{cases_eq, eq-eqb, eqb-true}
use Rattle.std.proofs.lemmas.Option.{slice_get_within}
use Rattle.std.proofs.lemmas.List.{get_or-replicate, get_or-map, length-map, map-append, take_all}
use Rattle.pl_spec.specs.Limits.{most_terms}
use Rattle.pl_pipeline.specs.Term.{Node, Graph, Input, IsGraph, term_at}
use Rattle.pl_pipeline.specs.Term.Input.{BarColumn, TermInput}
use Rattle.pl_pipeline.specs.Graph.{input_number}
use Rattle.pl_pipeline.specs.Cones.{is_windowed, larger, mark, moves_at, moving_inputs, inputs_at, windowed_at, window_at, marks_of, depths_below, cone_depths}
use Rattle.pl_pipeline.specs.Value.{is_steady}
use Rattle.std.specs.List.{list_any, range_with_len}
use Rattle.pl_spec.proofs.Ranges.{range-next}
use Rattle.pl_terms.specs.declared.node.Node as code
use Rattle.pl_terms.specs.Nodes.{graph_of}
use Rattle.pl_terms.proofs.Graphs.{graph-long}
use Rattle.pl_planner.specs.declared.cones.Cone.{Cone}
use Rattle.pl_planner.specs.declared.cones.ConeTerm.{ConeTerm}
use Rattle.pl_planner.specs.Cones.{pair_of, pairs_of, cones_of, joined, AreMarks, AddsMarks, moving_marks, HaveRoom}
use Rattle.pl_planner.specs.Plans.{Planned, KeepsLimits, is_used, cone}
use Rattle.pl_planner.specs.Steady.{AreSteady}

-- ---- marks

larger-twice : (p m : ℕ) (b : Option ℕ) → larger (max p m) b ≡ max p (larger m b)
larger-twice p m None = refl
larger-twice p m (Some n) = omega arith

joined-more : (p : ℕ) (a b : Option ℕ) → Some (larger p (joined a b)) ≡ joined (Some (larger p a)) b
joined-more p None b = refl
joined-more p (Some m) b = ap Some (sym (larger-twice p m b))

pub mark-append : (u : ℕ) (ps qs : List (ℕ × ℕ)) → mark u (ps ++ qs) ≡ joined (mark u ps) (mark u qs)
mark-append u [] qs = refl
mark-append u (p ∷ ps) qs = here (p.0 == u) (mark-append u ps qs)
  where
    here : (b : Bool) → mark u (ps ++ qs) ≡ joined (mark u ps) (mark u qs)
        → cond b (Some (larger p.1 (mark u (ps ++ qs)))) (mark u (ps ++ qs)) ≡ joined (cond b (Some (larger p.1 (mark u ps))) (mark u ps)) (mark u qs)
    here true e = ap (λ o. Some (larger p.1 o)) e ∙ joined-more p.1 (mark u ps) (mark u qs)
    here false e = e

joined-none : (a : Option ℕ) → joined a None ≡ a
joined-none None = refl
joined-none (Some m) = refl

joined-assoc : (a b c : Option ℕ) → joined (joined a b) c ≡ joined a (joined b c)
joined-assoc None b c = refl
joined-assoc (Some m) None c = refl
joined-assoc (Some m) (Some n) c = ap Some (larger-twice m n c)

-- nothing is added
pub adds-none : (old : List (Option ℕ)) → AddsMarks old old []
adds-none old u h = sym (joined-none (get_or old u None))

pub adds-both : (old mid new : List (Option ℕ)) (ps qs : List (ℕ × ℕ)) → AddsMarks old mid ps → AddsMarks mid new qs → AddsMarks old new (ps ++ qs)
adds-both old mid new ps qs a b u h =
    b u h ∙ ap (λ o. joined o (mark u qs)) (a u h) ∙ joined-assoc (get_or old u None) (mark u ps) (mark u qs) ∙ ap (joined (get_or old u None)) (sym (mark-append u ps qs))

larger-some : (d : ℕ) (o : Option ℕ) → Some (larger d o) ≡ joined o (Some d)
larger-some d None = refl
larger-some d (Some m) = ap Some (let e : max d m ≡ max m d = omega arith in e)

-- one depth is added
pub adds-one : (old : List (Option ℕ)) (t d x : ℕ) → t < length old → x ≡ larger d (get_or old t None) → AddsMarks old (set old t (Some x)) ((t, d) ∷ [])
adds-one old t d x inside e u h = elim (cases_eq u t) [
  | inl p ↦ (let own : (t == u) ≡ true = eq-eqb t u (sym p) in
      ap (λ i. get_or (set old t (Some x)) i None) p ∙ get_or-set_same old t (Some x) None inside ∙ ap Some e ∙ larger-some d (get_or old t None)
      ∙ ap (λ i. joined (get_or old i None) (Some d)) (sym p) ∙ ap (joined (get_or old u None)) (marked own))
  | inr ne ↦ get_or-set_other old t u (Some x) None ne ∙ sym (ap (joined (get_or old u None)) (other (t == u) refl ne) ∙ joined-none (get_or old u None))
]
  where
    marked : (t == u) ≡ true → Some d ≡ mark u ((t, d) ∷ [])
    marked own = rw own refl

    other : (b : Bool) → (t == u) ≡ b → (u ≡ t → ⊥) → cond b (Some d) None ≡ None
    other true f ne = absurd (ne (sym (eqb-true t u f)))
    other false f ne = refl

pub marks-begin : AreMarks (replicate most_terms None) []
marks-begin u h = get_or-replicate most_terms u None None h

-- terms with their depths
pub pairs-none : pairs_of [] ≡ []
unfolding pairs_of
pairs-none = refl

pub pairs-more : (cs : List ConeTerm) (c : ConeTerm) → pairs_of (cs ++ c ∷ []) ≡ pairs_of cs ++ pair_of c ∷ []
unfolding pairs_of
pairs-more cs c = map-append pair_of cs (c ∷ [])

pub marks-then : (old new : List (Option ℕ)) (ps qs : List (ℕ × ℕ)) → AreMarks old ps → AddsMarks old new qs → AreMarks new (ps ++ qs)
marks-then old new ps qs a b u h = b u h ∙ ap (λ o. joined o (mark u qs)) (a u h) ∙ sym (mark-append u ps qs)

-- ---- the terms among a node's inputs that move

module _ (g : Graph) (ok : IsGraph g) (steady : List Bool) (are : AreSteady g (length g) steady) where
  same-moving : (is : List Input) → ((i j : ℕ) → slice_get is i ≡ Some (TermInput j) → j < length g)
      → filter (λ u. not (get_or steady u false)) (filter_map input_number is) ≡ filter (moves_at g) (filter_map input_number is)
  same-moving [] low = refl
  same-moving (BarColumn c ∷ is) low = same-moving is (λ i. low (suc i))
  same-moving (TermInput u ∷ is) low =
      ap (λ b. cond (not b) (u ∷ filter (λ v. not (get_or steady v false)) (filter_map input_number is)) (filter (λ v. not (get_or steady v false)) (filter_map input_number is))) (are u (low 0 u refl))
      ∙ ap (λ us. cond (not (is_steady (term_at g u))) (u ∷ us) us) (same-moving is (λ i. low (suc i)))

  pub moving-is : (k : ℕ) (n : Node) → slice_get g k ≡ Some n → (d : ℕ) → moving_marks steady d n.inputs ≡ map (λ u. (u, d)) (moving_inputs g k)
  moving-is k n e d =
      let inside : k < length g = slice_get_within g k n e in
      let listed : inputs_at g k ≡ filter_map input_number n.inputs = rw e refl in
      ap (map (λ u. (u, d))) (same-moving n.inputs (λ i j f. (let l : j < k = (ok.lower k n e).inputs i j f in omega arith)) ∙ ap (filter (moves_at g)) (sym listed))

  pub marks-are : (k : ℕ) (n : Node) → slice_get g k ≡ Some n → (d m : ℕ) → d ≡ m + (n.window - 1) → moving_marks steady d n.inputs ≡ marks_of g k m
  marks-are k n e d m is =
      let size : window_at g k ≡ n.window = rw e refl in
      moving-is k n e d ∙ ap (λ x. map (λ u. (u, x)) (moving_inputs g k)) (is ∙ ap (λ x. m + (x - 1)) (sym size))

  pub firsts-are : (k : ℕ) (n : Node) → slice_get g k ≡ Some n → cond (is_windowed n.kind) (moving_marks steady (n.window - 1) n.inputs) [] ≡ cond (windowed_at g k) (marks_of g k 0) []
  firsts-are k n e =
      let own : windowed_at g k ≡ is_windowed n.kind = rw e refl in
      ap (λ ms. cond (is_windowed n.kind) ms []) (marks-are k n e (n.window - 1) 0 (omega arith)) ∙ ap (λ b. cond b (marks_of g k 0) []) (sym own)

-- ---- one term after another

pub below-none : (g : Graph) (n : ℕ) (marks : List (ℕ × ℕ)) → mark n marks ≡ None → depths_below g (suc n) marks ≡ depths_below g n marks
below-none g n marks e = rw e (append-nil (depths_below g n (marks ++ [])) ∙ ap (depths_below g n) (append-nil marks))

pub below-some : (g : Graph) (n m : ℕ) (marks : List (ℕ × ℕ)) → mark n marks ≡ Some m → depths_below g (suc n) marks ≡ depths_below g n (marks ++ marks_of g n m) ++ (n, m) ∷ []
below-some g n m marks e = rw e refl

-- ---- room

mark-same : (u d m : ℕ) (us : List ℕ) → mark u (map (λ v. (v, d)) us) ≡ Some m → m ≡ d
mark-same u d m [] e = cc
mark-same u d m (v ∷ us) e = here (v == u) (mark u (map (λ w. (w, d)) us)) (λ x f. mark-same u d x us f) e
  where
    here : (b : Bool) (o : Option ℕ) → ((x : ℕ) → o ≡ Some x → x ≡ d) → cond b (Some (larger d o)) o ≡ Some m → m ≡ d
    here true None rest h = let is : d ≡ m = cc in sym is
    here true (Some x) rest h = let is : max d x ≡ m = cc in let same : x ≡ d = rest x refl in omega arith
    here false o rest h = rest m h

pub room-more : (n d : ℕ) (old new : List (Option ℕ)) (steady : List Bool) (is : List Input) → HaveRoom (n + 1) old → AddsMarks old new (moving_marks steady d is)
    → d + n * 2 ^ 32 ≤ most_terms * 2 ^ 32 → HaveRoom n new
room-more n d old new steady is room adds fits u m h e =
    here (get_or old u None) refl (mark u (moving_marks steady d is)) refl (sym (adds u h) ∙ e)
  where
    here : (a : Option ℕ) → get_or old u None ≡ a → (b : Option ℕ) → mark u (moving_marks steady d is) ≡ b → joined a b ≡ Some m → m + n * 2 ^ 32 ≤ most_terms * 2 ^ 32
    here None f b g i = let same : m ≡ d = mark-same u d m (filter (λ v. not (get_or steady v false)) (filter_map input_number is)) (g ∙ i) in omega arith
    here (Some x) f None g i = let same : x ≡ m = cc in let r = room u x h f in omega arith
    here (Some x) f (Some y) g i =
        let same : max x y ≡ m = cc in
        let last : y ≡ d = mark-same u d y (filter (λ v. not (get_or steady v false)) (filter_map input_number is)) g in
        let r = room u x h f in
        omega arith

no-depths : List (Option ℕ)
no-depths = replicate most_terms None

fresh : (u : ℕ) → u < most_terms → get_or no-depths u None ≡ None
unfolding no-depths
fresh u h = get_or-replicate most_terms u None None h

module _ (n d : ℕ) (steady : List Bool) (is : List Input) (fits : d + n * 2 ^ 32 ≤ most_terms * 2 ^ 32) where
  first-fits : (b : Bool) (u m : ℕ) → joined None (mark u (cond b (moving_marks steady d is) [])) ≡ Some m → m + n * 2 ^ 32 ≤ most_terms * 2 ^ 32
  first-fits true u m f = let same : m ≡ d = mark-same u d m (filter (λ v. not (get_or steady v false)) (filter_map input_number is)) f in omega arith
  first-fits false u m f = cc

  pub room-first : (new : List (Option ℕ)) (b : Bool) → AddsMarks (replicate most_terms None) new (cond b (moving_marks steady d is) []) → HaveRoom n new
  unfolding no-depths
  room-first new b adds u m h e = first-fits b u m (ap (λ o. joined o (mark u (cond b (moving_marks steady d is) []))) (sym (fresh u h)) ∙ sym (adds u h) ∙ e)

-- ---- by the numbers of the code

pub windowed-adds : (b c : Bool) (d e : ℕ) (old new : List (Option ℕ)) (steady : List Bool) (is : List Input) → AddsMarks old new (moving_marks steady d is) → b ≡ c → b ≡ true → d ≡ e
    → AddsMarks old new (cond c (moving_marks steady e is) [])
windowed-adds b c d e old new steady is adds same t f =
    subst (λ q. AddsMarks old new (cond q (moving_marks steady e is) [])) (sym t ∙ same) (subst (λ x. AddsMarks old new (moving_marks steady x is)) f adds)

pub not-windowed : (b c : Bool) (marks : List (ℕ × ℕ)) (old : List (Option ℕ)) → b ≡ c → b ≡ false → AddsMarks old old (cond c marks [])
not-windowed b c marks old same t = subst (λ q. AddsMarks old old (cond q marks [])) (sym t ∙ same) (adds-none old)

module _ (g : Graph) (count n : ℕ) (is : count ≡ n + 1) (few : n < most_terms) (depths : List (Option ℕ)) where
  pub last-none : get_or depths n None ≡ None → (marks : List (ℕ × ℕ)) → AreMarks depths marks → depths_below g count marks ≡ depths_below g n marks
  last-none e marks are = let next : count ≡ suc n = omega arith in ap (λ k. depths_below g k marks) next ∙ below-none g n marks (sym (are n few) ∙ e)

  pub last-some : (m : ℕ) → get_or depths n None ≡ Some m → (marks : List (ℕ × ℕ)) → AreMarks depths marks
      → depths_below g count marks ≡ depths_below g n (marks ++ marks_of g n m) ++ (n, m) ∷ []
  last-some m e marks are = let next : count ≡ suc n = omega arith in ap (λ k. depths_below g k marks) next ∙ below-some g n m marks (sym (are n few) ∙ e)

  pub last-few : (m : ℕ) → get_or depths n None ≡ Some m → HaveRoom count depths → m + count * 2 ^ 32 ≤ most_terms * 2 ^ 32
  last-few m e room = room n m few e

  pub room-next : (m before : ℕ) (new : List (Option ℕ)) (steady : List Bool) (inputs : List Input) → get_or depths n None ≡ Some m → HaveRoom count depths → before < 2 ^ 32
      → AddsMarks depths new (moving_marks steady (m + before) inputs) → HaveRoom n new
  room-next m before new steady inputs e room small adds =
      let first = last-few m e room in
      room-more n (m + before) depths new steady inputs (subst (λ k. HaveRoom k depths) is room) adds (omega arith)

-- ---- all cones

pub cones-none : cones_of [] ≡ []
unfolding cones_of
cones-none = refl

pub cones-more : (f : ℕ → List (ℕ × ℕ)) (k : ℕ) (cs after : List Cone) (c : Cone) → cones_of cs ≡ map f (range_with_len 0 k) → after ≡ cs ++ c ∷ [] → pairs_of c.terms.items ≡ f k
    → cones_of after ≡ map f (range_with_len 0 (k + 1))
unfolding cones_of
cones-more f k cs after c so_far e own =
    ap cones_of e ∙ map-append (λ (d : Cone). pairs_of d.terms.items) cs (c ∷ []) ∙ ap (λ l. l ++ pairs_of c.terms.items ∷ []) so_far ∙ ap (λ x. map f (range_with_len 0 k) ++ x ∷ []) own
    ∙ sym (map-append f (range_with_len 0 k) (k ∷ [])) ∙ ap (map f) (sym (range-next k))

pub cones-listed : (ns ms : List code.Node) (cs : List (List (ℕ × ℕ))) → cs ≡ map (cone_depths (graph_of ns)) (range_with_len 0 (length ns)) → ns ≡ ms
    → cs ≡ map (cone_depths (graph_of ms)) (range_with_len 0 (length (graph_of ms)))
cones-listed ns ms cs is e =
    is ∙ ap (λ l. map (cone_depths (graph_of l)) (range_with_len 0 (length l))) e ∙ ap (λ n. map (cone_depths (graph_of ms)) (range_with_len 0 n)) (sym (graph-long ms))

-- ---- those of a plan

pub cones-long : (cs : List Cone) → length (cones_of cs) ≡ length cs
unfolding cones_of
cones-long cs = length-map cs (λ (c : Cone). pairs_of c.terms.items)

pub cone-within : (p now : Planned) → p ≡ now → KeepsLimits p → (t : ℕ) → is_used now t ≡ true → t < length p.cones
cone-within p now is keeps t used = keeps.cones t (subst (λ q. is_used q t ≡ true) (sym is) used)

pub listed-at : (cs : List Cone) (t : ℕ) (x : Cone) → t < length cs → x ≡ get_or cs t x → pairs_of x.terms.items ≡ get_or (cones_of cs) t []
unfolding cones_of
listed-at cs t x h e = ap (λ (c : Cone). pairs_of c.terms.items) e ∙ sym (get_or-map (λ (c : Cone). pairs_of c.terms.items) cs t x [] h)

pub cone-at : (p now : Planned) → p ≡ now → (t : ℕ) (cs : List Cone) (x : Cone) → t < length cs → x ≡ get_or cs t x → p.cones ≡ cones_of cs → pairs_of x.terms.items ≡ cone now t
unfolding cone
cone-at p now is t cs x h e listed = listed-at cs t x h e ∙ ap (λ l. get_or l t []) (sym listed) ∙ ap (λ (q : Planned). get_or q.cones t []) is

-- whether one of them has a term, cone after cone
pub any_none : (cs : List Cone) → length cs ≡ 0 → list_any (λ c. nat_lt 0 (length c)) (cones_of cs) ≡ false
unfolding cones_of
any_none [] e = refl
any_none (x ∷ cs) e = absurd (omega (arith, e))

pub any-first : (cs : List Cone) (x : Cone) → 1 ≤ length cs → x ≡ get_or cs 0 x
    → list_any (λ c. nat_lt 0 (length c)) (cones_of cs) ≡ (nat_lt 0 (length x.terms.items) || list_any (λ c. nat_lt 0 (length c)) (cones_of (take (length cs - 1) (drop 1 cs))))
unfolding cones_of pairs_of
any-first [] x h e = absurd (omega (arith, h))
any-first (y ∷ cs) x h e =
    let rest : take (length (y ∷ cs) - 1) cs ≡ cs = take_all (length (y ∷ cs) - 1) cs (omega arith) in
    ap (λ n. nat_lt 0 n || list_any (λ c. nat_lt 0 (length c)) (map (λ (c : Cone). map pair_of c.terms.items) cs)) (length-map y.terms.items pair_of)
    ∙ ap (λ (z : Cone). nat_lt 0 (length z.terms.items) || list_any (λ c. nat_lt 0 (length c)) (map (λ (c : Cone). map pair_of c.terms.items) cs)) (sym e)
    ∙ ap (λ l. nat_lt 0 (length x.terms.items) || list_any (λ c. nat_lt 0 (length c)) (map (λ (c : Cone). map pair_of c.terms.items) l)) (sym rest)
