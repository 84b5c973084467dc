-- Lows by the definitions, from the numbers of sessions that terms are read back; and the least reach.
use Rattle.std.proofs.Common.{◌≡◌, ℕ, suc, ◌+◌, ◌-◌, ◌<◌, ◌≤◌, Bool, true, false, ℤ, pos, ◌-ℤ◌, ◌≤ℤ◌, ◌<ℤ◌, List, [], ◌∷◌, length, map, filter_map, AllPairs, Option, Some, None, refl, sym, ◌∙◌, subst, arith, inl, inr, slice_get, ◌==◌}
use Rattle.std.specs.List.{list_any, range_with_len}
use Rattle.std.proofs.lemmas.List.FromFn.{get_or-map-range_with_len, length-map-range_with_len}
use Rattle.std.proofs.lemmas.Bool.{cases_lt, eq-eqb, or_left, or_right, true≢false}
use Rattle.std.proofs.lemmas.Int.{ints, int_min_is}
use Rattle.pl_spec.specs.declared.Column.{Column}
use Rattle.pl_spec.specs.Window.{before}
use Rattle.pl_pipeline.specs.Term.{Input, Node, Graph, term_at}
use Rattle.pl_pipeline.specs.Term.Input.{BarColumn, TermInput}
use Rattle.pl_pipeline.specs.Graph.{contains, reads_at, reach, Used}
use Rattle.pl_pipeline.specs.Lows.{Reads, Needs, least_reach}
use Rattle.pl_laws.specs.LowLaws.{ReachCovers, bar_from, own_from}
use Rattle.pl_laws.proofs.Reaches.{AllFrom, below_least}
use Rattle.pl_laws.proofs.Lows.{reach-covers, reaches-meet, reaches-rise, reads-rise, reads_at-rises, least_above}
use Rattle.pl_planner.specs.declared.uses.Use.{Use}
use Rattle.pl_planner.specs.Extra.{back_from}
use Rattle.pl_planner.specs.Uses.{use_at, AreUses, HaveExtras}
use Rattle.pl_planner.specs.Columns.{is_bar, bars_back, node_back, reads_back, most_back}
use Rattle.pl_planner.proofs.Pipelines.{IsPipeline}
use Rattle.pl_planner.proofs.Gathers.{back-of, read-before}
use Rattle.pl_planner.proofs.Mentions.{needs-used}
use Rattle.pl_planner.proofs.Counting.{Reached, most_in, most-reached}
use Rattle.pl_planner.proofs.Live.{used_within}

-- for a later session nothing earlier is needed
pub needs-rise : (days : List ℤ) → AllPairs (λ a b. a <ℤ b) days → (g : Graph) (outs : List ℕ) (d e : ℤ) → d ≤ℤ e → (t : ℕ) (r : ℤ) → Needs days g outs e t r
    → (q : ℤ) × Needs days g outs d t q × (q ≤ℤ r)
needs-rise days rise g outs d e h t r (Needs.output o) = (d, Needs.output o, h)
needs-rise days rise g outs d e h t r (Needs.read u n s needs at reads) =
    let before_u = needs-rise days rise g outs d e h u s needs in
    let first = reads-rise days rise n before_u.0 s t r before_u.2 reads in
    (first.0, Needs.read u n before_u.0 before_u.1 at first.1, first.2)

-- ---- how far back bars are read

has-bar : (is : List Input) → list_any is_bar is ≡ true → (i : ℕ) × (c : Column) × (slice_get is i ≡ Some (BarColumn c))
has-bar [] e = absurd (true≢false (sym e))
has-bar (BarColumn c ∷ is) e = (0, c, refl)
has-bar (TermInput u ∷ is) e = let r = has-bar is e in (suc r.0, r.1, r.2)

bars-above : (low s : ℤ) (w : ℕ) (is : List Input) → (list_any is_bar is ≡ true → low ≤ℤ before s w) → AllFrom low (filter_map (bar_from w s) is)
bars-above low s w [] h = tt
bars-above low s w (BarColumn c ∷ is) h = (h refl, bars-above low s w is (λ e. h refl))
bars-above low s w (TermInput k ∷ is) h = bars-above low s w is h

-- a node that is computed m sessions early or less reads bars so far back at most
own-above : (days : List ℤ) → AllPairs (λ a b. a <ℤ b) days → (s : ℕ) (n : Node) (m : ℕ) (r : ℤ) → (pos s -ℤ pos m) ≤ℤ r → (pos s -ℤ pos (back_from days s n.kind m + bars_back n)) ≤ℤ own_from days n r
own-above days rise s n m r h =
    let start : ℤ = reads_at days n.kind r in
    let early : reads_at days n.kind (pos s -ℤ pos m) ≤ℤ start = reads_at-rises days rise n.kind (pos s -ℤ pos m) r h in
    let e = back-of days s n.kind m in
    least_above (pos s -ℤ pos (back_from days s n.kind m + bars_back n)) start (filter_map (bar_from n.window start) n.inputs) (omega (arith, ints))
    (bars-above (pos s -ℤ pos (back_from days s n.kind m + bars_back n)) start n.window n.inputs (λ f. let w : bars_back n ≡ n.window = rw f refl in omega (arith, ints)))

-- ---- the most that used terms read back

module _ (days : List ℤ) (s : ℕ) (g : Graph) (outs : List ℕ) (uses : List Use) (ok : IsPipeline g outs) (are : AreUses g outs uses) where
  -- a used term reads no farther back
  pub used-back : (t : ℕ) → Used g outs t → node_back days s (slice_get g t) (use_at uses t).extra ≤ most_back days s g uses (length g)
  used-back t u =
      let within : t < length g = used_within g outs ok.graph are t u in
      let m : reads_back days s g uses t ≤ most_back days s g uses (length g) = most_in (reads_back days s g uses) (length g) t within in
      let yes : (use_at uses t).used ≡ true = (are.used t).1 u in
      let is : reads_back days s g uses t ≡ node_back days s (slice_get g t) (use_at uses t).extra = rw yes refl in
      omega arith

module _ (days : List ℤ) (rise : AllPairs (λ a b. a <ℤ b) days) (g : Graph) (outs : List ℕ) (uses : List Use) (ok : IsPipeline g outs) (are : AreUses g outs uses) (s : ℕ) (have : HaveExtras days s g outs uses) where
  abbrev most : ℕ
  most = most_back days s g uses (length g)

  wide : (k : ℕ) (n : Node) → slice_get g k ≡ Some n → 1 ≤ n.window
  wide k n e = (ok.windows k n e).0

  -- what an output reaches lies no farther back
  reach-above : (t : ℕ) → contains outs t ≡ true → (pos s -ℤ pos most) ≤ℤ reach days (term_at g t) (pos s)
  reach-above t h =
      let met = reaches-meet days rise g ok.graph wide outs (pos s) t (pos s) (ok.outputs_in t h) (Needs.output h) in
      above met.0 met.1 met.2 met.3 met.4 met.5
    where
      above : (u : ℕ) (n : Node) (r : ℤ) → Needs days g outs (pos s) u r → slice_get g u ≡ Some n → own_from days n r ≡ reach days (term_at g t) (pos s) → (pos s -ℤ pos most) ≤ℤ reach days (term_at g t) (pos s)
      above u n r needs e is =
          let used : Used g outs u = needs-used days g outs (pos s) u r needs in
          let w : back_from days s n.kind (use_at uses u).extra + bars_back n ≤ most = subst (λ o. node_back days s o (use_at uses u).extra ≤ most) e (used-back days s g outs uses ok are u used) in
          let own = own-above days rise s n (use_at uses u).extra r ((have u used).least r needs) in
          subst (λ z. (pos s -ℤ pos most) ≤ℤ z) is (omega (arith, ints, own, w))

  all-above : (os : List ℕ) → ((t : ℕ) → contains os t ≡ true → (pos s -ℤ pos most) ≤ℤ reach days (term_at g t) (pos s)) → AllFrom (pos s -ℤ pos most) (map (λ t. reach days (term_at g t) (pos s)) os)
  all-above [] h = tt
  all-above (o ∷ os) h = (h o (or_left (o == o) (contains os o) (eq-eqb o o refl)), all-above os (λ t e. h t (or_right (o == t) (contains os t) e)))

  least-high : (pos s -ℤ pos most) ≤ℤ least_reach days g outs (pos s)
  least-high = least_above (pos s -ℤ pos most) (pos s) (map (λ t. reach days (term_at g t) (pos s)) outs) (omega (arith, ints)) (all-above outs reach-above)

  itself : (z : ℤ) → z ≤ℤ z
  itself z = omega (arith, ints)

  covers : ReachCovers days g outs (pos s)
  covers = reach-covers days g ok.graph wide outs (pos s)

  abbrev least : ℤ
  least = least_reach days g outs (pos s)

  -- what a needed term reads of bars, or up to what it reads, is reached
  read-low : (t : ℕ) (n : Node) (m : ℕ) → slice_get g t ≡ Some n → Needs days g outs (pos s) t (pos s -ℤ pos m) → least ≤ℤ (pos s -ℤ pos (back_from days s n.kind m + bars_back n))
  read-low t n m e needs = bars (list_any is_bar n.inputs) refl
    where
      up_to : least ≤ℤ (pos s -ℤ pos (back_from days s n.kind m))
      up_to = elim (ok.reads t n e) [
        | inl now ↦ (let low : least ≤ℤ (pos s -ℤ pos m) = covers.sessions t (pos s -ℤ pos m) needs in subst (λ z. least ≤ℤ z) (sym (now days (pos s -ℤ pos m)) ∙ back-of days s n.kind m) low)
        | inr term ↦ (
            let low : least ≤ℤ before (reads_at days n.kind (pos s -ℤ pos m)) (n.window - 1) = covers.sessions term.0 _ (Needs.read t n (pos s -ℤ pos m) needs e (Reads.input 0 term.1)) in
            let is = read-before days s n m in
            omega (arith, ints))
      ]

      bars : (b : Bool) → list_any is_bar n.inputs ≡ b → least ≤ℤ (pos s -ℤ pos (back_from days s n.kind m + bars_back n))
      bars true f =
          let low : least ≤ℤ before (reads_at days n.kind (pos s -ℤ pos m)) n.window = covers.bars t n (pos s -ℤ pos m) needs e (has-bar n.inputs f) in
          let is = back-of days s n.kind m in
          rw f (omega (arith, ints))
      bars false f = let low = up_to in rw f (omega (arith, ints))

  least-low : least ≤ℤ (pos s -ℤ pos most)
  least-low = elim (cases_lt 0 most) [
    | inl p ↦ (
        let r : Reached (map (reads_back days s g uses) (range_with_len 0 (length g))) most = most-reached (map (reads_back days s g uses) (range_with_len 0 (length g))) 0 p in
        let inside : r.place < length g = omega (arith, r.within, length-map-range_with_len (reads_back days s g uses) 0 (length g)) in
        let is = get_or-map-range_with_len (reads_back days s g uses) 0 (length g) r.place r.place 0 inside (omega arith) in
        here r.place (use_at uses r.place).used refl (sym is ∙ r.is) p)
    | inr p ↦ (let b = (below_least least (pos s) (map (λ t. reach days (term_at g t) (pos s)) outs) (itself least)).0 in omega (arith, ints))
  ]
    where
      here : (t : ℕ) (b : Bool) → (use_at uses t).used ≡ b → reads_back days s g uses t ≡ most → 0 < most → least ≤ℤ (pos s -ℤ pos most)
      here t false e is p = let z : 0 ≡ most = rw e at is in absurd (omega arith)
      here t true e is p = node (slice_get g t) refl (rw e at is)
        where
          used : Used g outs t
          used = (are.used t).0 e

          needs : Needs days g outs (pos s) t (pos s -ℤ pos (use_at uses t).extra)
          needs = (have t used).needed

          node : (o : Option Node) → slice_get g t ≡ o → node_back days s (slice_get g t) (use_at uses t).extra ≡ most → least ≤ℤ (pos s -ℤ pos most)
          node None f z =
              let is : (use_at uses t).extra ≡ most = rw f at z in
              let low : least ≤ℤ (pos s -ℤ pos (use_at uses t).extra) = covers.sessions t (pos s -ℤ pos (use_at uses t).extra) needs in
              omega (arith, ints)
          node (Some n) f z =
              let is : back_from days s n.kind (use_at uses t).extra + bars_back n ≡ most = rw f at z in
              let low = read-low t n (use_at uses t).extra f needs in
              omega (arith, ints)

  pub least-is : least_reach days g outs (pos s) ≡ pos s -ℤ pos most
  least-is = let a = least-low in let b = least-high in omega (arith, ints)

-- of one output alone it is the reach
pub reach-alone : (days : List ℤ) (g : Graph) (t : ℕ) (d : ℤ) → least_reach days g (t ∷ []) d ≡ reach days (term_at g t) d
reach-alone days g t d = omega (arith, ints, int_min_is d (reach days (term_at g t) d), reaches-rise.within days (term_at g t) d)
