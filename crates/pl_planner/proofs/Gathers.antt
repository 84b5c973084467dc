-- The uses gathered from the last term down are the uses of the definitions.
use Rattle.std.proofs.Common.{◌≡◌, ◌≢◌, ℕ, suc, ◌+◌, ◌-◌, ◌*◌, ◌<◌, ◌≤◌, Bool, true, false, max, ℤ, pos, negsuc, ◌+ℤ◌, ◌-ℤ◌, ◌≤ℤ◌, ◌<ℤ◌, unsigned_abs, List, [], ◌∷◌, length, AllPairs, Some, refl, sym, ◌∙◌, ap, subst, arith, inl, inr, ◌⊎◌, slice_get, ◌==◌, replicate, length-set, get_or-set_same, get_or-set_other}
use Rattle.std.proofs.lemmas.Bool.{cases_lt, cases_eq, true≢false, or_cases, or_left, or_right, eqb-true, eq-eqb}
use Rattle.std.proofs.lemmas.Int.{ints, by_lt_z}
use Rattle.std.proofs.lemmas.List.{length-replicate}
use Rattle.std.proofs.lemmas.Option.{slice_get_within}
use Rattle.pl_spec.specs.Limits.{most_window}
use Rattle.pl_spec.specs.Window.{before}
use Rattle.pl_pipeline.specs.Term.{Node, Graph, IsGraph}
use Rattle.pl_pipeline.specs.Kind.{Kind}
use Rattle.pl_pipeline.specs.Graph.{reads_at, contains, mentions_at, Used}
use Rattle.pl_pipeline.specs.Graph.Used.{output, mentioned}
use Rattle.pl_pipeline.specs.Lows.{Reads, Needs}
use Rattle.pl_laws.proofs.Lows.{reads_at-within, reads-rise}
use Rattle.pl_planner.proofs.Moved.{early-still, late-still}
use Rattle.pl_planner.specs.declared.uses.Use.{Use}
use Rattle.pl_planner.specs.Extra.{Ask, back_from, asks}
use Rattle.pl_planner.specs.Uses.{unused, use_at, all_asked, marked, all_marked, AreUses, HaveExtras}
use Rattle.pl_spec.proofs.Each.{each_at}
use Rattle.pl_planner.proofs.Counting.{all_same}
use Rattle.pl_planner.proofs.Asking.{Found, Grows, all_grow, all_given, all_sound, all_else, each-asks, found-group, found-input, found-mask}
use Rattle.pl_planner.proofs.Mentions.{mention-read, mentioning, mentioning-within, needs-used, read-lower, reads-mention}

-- ---- so many sessions before a session

back-is : (days : List ℤ) (s : ℕ) (k : Kind) (n : ℕ) → pos (back_from days s k n) ≡ pos s -ℤ reads_at days k (pos s -ℤ pos n)
back-is days s k n =
    let l : reads_at days k (pos s -ℤ pos n) ≤ℤ (pos s -ℤ pos n) = reads_at-within days k (pos s -ℤ pos n) in
    whole (pos s -ℤ reads_at days k (pos s -ℤ pos n)) (omega (arith, ints, l))
  where
    whole : (z : ℤ) → pos 0 ≤ℤ z → pos (unsigned_abs z) ≡ z
    whole (pos z) h = refl
    whole (negsuc z) h = absurd (omega (arith, ints))

pub back-of : (days : List ℤ) (s : ℕ) (k : Kind) (n : ℕ) → reads_at days k (pos s -ℤ pos n) ≡ pos s -ℤ pos (back_from days s k n)
back-of days s k n = let e = back-is days s k n in omega (arith, ints)

-- no session of the calendar, and none before it, is moved before the calendar
pub back-few : (days : List ℤ) (s : ℕ) (k : Kind) (n : ℕ) → back_from days s k n ≤ max n s
back-few days s k n = elim (cases_lt s n) [
  | inl p ↦ (let e : reads_at days k (pos s -ℤ pos n) ≡ pos s -ℤ pos n = early-still days k (pos s -ℤ pos n) (omega (arith, ints)) in let b = back-is days s k n in omega (arith, ints))
  | inr p ↦ (let l : pos 0 ≤ℤ reads_at days k (pos s -ℤ pos n) = late-still days k (pos s -ℤ pos n) (omega (arith, ints)) in let b = back-is days s k n in omega (arith, ints))
]

-- ---- what a node asks for is what it reads

module _ (days : List ℤ) (s : ℕ) (n : Node) (m : ℕ) where
  -- the first session of an input that is read
  pub read-before : before (reads_at days n.kind (pos s -ℤ pos m)) (n.window - 1) ≡ pos s -ℤ pos (back_from days s n.kind m + (n.window - 1))
  read-before = let e = back-of days s n.kind m in omega (arith, ints)

  abbrev Read : Ask → Type 0
  Read a = Reads days n (pos s -ℤ pos m) a.0 (pos s -ℤ pos a.1)

  read-of : (i : ℕ) (a : Ask) → slice_get (asks days s n m) i ≡ Some a → Read a
  read-of i a e = each_at Read (asks days s n m) i a
      (each-asks Read (back_from days s n.kind m) m n (λ j t f. subst (Reads days n (pos s -ℤ pos m) t) read-before (Reads.input j f)) (λ t f. Reads.mask f) (λ t f. Reads.group f)) e

  -- a session that it reads, so many before s, is asked for
  record Asked (t : ℕ) (r : ℤ) : Type 0 where
    back : ℕ
    found : Found (asks days s n m) (t, back)
    is : r ≡ pos s -ℤ pos back

  asked-of : (t : ℕ) (r : ℤ) → Reads days n (pos s -ℤ pos m) t r → Asked t r
  asked-of t r (Reads.input i e) = record { back = back_from days s n.kind m + (n.window - 1); found = found-input (back_from days s n.kind m) m n i t e; is = read-before }
  asked-of t r (Reads.mask e) = record { back = m; found = found-mask (back_from days s n.kind m) m n t e; is = refl }
  asked-of t r (Reads.group e) = record { back = m; found = found-group (back_from days s n.kind m) m n t e; is = refl }

-- ---- the pass

module _ (days : List ℤ) (s : ℕ) (g : Graph) (outputs : List ℕ) where
  -- the last reader of term t, or the number of all terms where it is an output
  abbrev IsReader : ℕ → ℕ → Type 0
  IsReader t l = ((contains outputs t ≡ true) × (l ≡ length g)) ⊎ (Used g outputs l × (contains (mentions_at g l) t ≡ true))

  -- before the terms below k are asked, what is used is needed, and what the other used terms read is
  -- computed
  pub record AreGathered (k : ℕ) (us : List Use) : Type 0 where
    pub size : length us ≡ length g
    pub sound : (t : ℕ) → (use_at us t).used ≡ true → Needs days g outputs (pos s) t (pos s -ℤ pos (use_at us t).extra) × IsReader t (use_at us t).last
    pub outs : (t : ℕ) → contains outputs t ≡ true → ((use_at us t).used ≡ true) × ((use_at us t).last ≡ length g)
    pub given : (u : ℕ) (n : Node) (t : ℕ) (r : ℤ) → k ≤ u → (use_at us u).used ≡ true → slice_get g u ≡ Some n → Reads days n (pos s -ℤ pos (use_at us u).extra) t r
        → ((use_at us t).used ≡ true) × ((pos s -ℤ pos (use_at us t).extra) ≤ℤ r) × (u ≤ (use_at us t).last)

module _ (days : List ℤ) (rise : AllPairs (λ a b. a <ℤ b) days) (s : ℕ) (g : Graph) (outputs : List ℕ) (ok : IsGraph g) where
  module _ (us : List Use) (k : ℕ) (n : Node) (so_far : AreGathered days s g outputs (suc k) us) (at : slice_get g k ≡ Some n) (used : (use_at us k).used ≡ true) where
    abbrev list : List Ask
    list = asks days s n (use_at us k).extra

    abbrev after : List Use
    after = all_asked us k list

    low : (i : ℕ) (a : Ask) → slice_get list i ≡ Some a → a.0 < k
    low i a e = read-lower days n _ k a.0 _ (ok.lower k n at) (read-of days s n (use_at us k).extra i a e)

    low_in : (i : ℕ) (a : Ask) → slice_get list i ≡ Some a → a.0 < length us
    low_in i a e = omega (arith, low i a e, slice_get_within g k n at, so_far.size)

    grown : Grows us after
    grown = all_grow k list us low_in

    still : (t : ℕ) → (use_at after t).used ≡ true → Needs days g outputs (pos s) t (pos s -ℤ pos (use_at after t).extra) × IsReader days s g outputs t (use_at after t).last
    still t h = all_sound k (λ t b. Needs days g outputs (pos s) t (pos s -ℤ pos b)) (IsReader days s g outputs) list us low_in
        (λ i a e.
        let needs = (so_far.sound k used).0 in
        let reads = read-of days s n (use_at us k).extra i a e in
        (Needs.read k n _ needs at reads, inr (needs-used days g outputs (pos s) k _ needs, rw at (reads-mention days n _ a.0 _ reads))))
        (λ t h. so_far.sound t h) t h

    reader_most : (t l : ℕ) → IsReader days s g outputs t l → l ≤ length g
    reader_most t l (inl h) = omega (arith, h.1)
    reader_most t l (inr h) = omega (arith, mentioning-within g l t h.1)

    own : (m : Node) (t : ℕ) (r : ℤ) → slice_get g k ≡ Some m → Reads days m (pos s -ℤ pos (use_at us k).extra) t r
        → ((use_at after t).used ≡ true) × ((pos s -ℤ pos (use_at after t).extra) ≤ℤ r) × (k ≤ (use_at after t).last)
    own m t r e reads =
        let same : m ≡ n = (let both : Some m ≡ Some n = sym e ∙ at in cc) in
        let a = asked-of days s n (use_at us k).extra t r (subst (λ x. Reads days x (pos s -ℤ pos (use_at us k).extra) t r) same reads) in
        let given = all_given k list us low_in a.found.0 (t, a.back) a.found.1 in
        (given.0, omega (arith, ints, given.1, a.is), given.2)

    pub step : AreGathered days s g outputs k after
    step = record {
      size = grown.size ∙ so_far.size;
      sound = still;
      outs = λ t h.
          let o = so_far.outs t h in
          let u : (use_at after t).used ≡ true = grown.used t o.0 in
          (u, omega (arith, grown.last t o.0, o.1, reader_most t (use_at after t).last (still t u).1));
      given = λ u m t r l h e reads.
          let same : use_at after u ≡ use_at us u = all_else k list us k u low l in
          let before : (use_at us u).used ≡ true = ap (λ (x : Use). x.used) (sym same) ∙ h in
          let was : Reads days m (pos s -ℤ pos (use_at us u).extra) t r = subst (λ (x : Use). Reads days m (pos s -ℤ pos x.extra) t r) same reads in
          elim (cases_eq u k) [
            | inl p ↦ (let here = own m t r (rw p at e) (rw p at was) in (here.0, here.1, omega (arith, here.2, p)))
            | inr p ↦ (let given = so_far.given u m t r (omega arith) before e was in
                (grown.used t given.0, omega (arith, ints, given.1, grown.extra t given.0), omega (arith, given.2, grown.last t given.0)))
          ];
    }

  module _ (us : List Use) (all : AreGathered days s g outputs 0 us) where
    given_at : (u t : ℕ) → (use_at us u).used ≡ true → contains (mentions_at g u) t ≡ true → ((use_at us t).used ≡ true) × (u ≤ (use_at us t).last)
    given_at u t h m =
        let n = mentioning g u t m in
        let read = mention-read days n.0 (pos s -ℤ pos (use_at us u).extra) t n.2 in
        let given = all.given u n.0 t read.0 (omega arith) h n.1 read.1 in
        (given.0, given.2)

    used_of : (t : ℕ) → Used g outputs t → (use_at us t).used ≡ true
    used_of t (output h) = (all.outs t h).0
    used_of t (mentioned u h m) = (given_at u t (used_of u h) m).0

    -- nothing earlier is needed
    least : (t : ℕ) (r : ℤ) → Needs days g outputs (pos s) t r → ((use_at us t).used ≡ true) × ((pos s -ℤ pos (use_at us t).extra) ≤ℤ r)
    least t r (Needs.output h) = ((all.outs t h).0, omega (arith, ints))
    least t r (Needs.read u n q needs at reads) =
        let so_far = least u q needs in
        let first = reads-rise days rise n (pos s -ℤ pos (use_at us u).extra) q t r so_far.1 reads in
        let given = all.given u n t first.0 (omega arith) so_far.0 at first.1 in
        (given.0, omega (arith, ints, given.1, first.2))

    pub gathered : AreUses g outputs us
    gathered = record {
      size = all.size;
      used = λ t. (λ h. needs-used days g outputs (pos s) t _ (all.sound t h).0, λ h. used_of t h);
      last = λ t h. record {
        output = λ o. (all.outs t o).1;
        reader = λ o. elim (all.sound t (used_of t h)).1 [
          | inl p ↦ absurd (true≢false (sym p.0 ∙ o))
          | inr p ↦ p
        ];
        most = λ u v m. (given_at u t (used_of u v) m).1;
      };
    }

    pub extras : HaveExtras days s g outputs us
    extras = λ t h. record { needed = (all.sound t (used_of t h)).0; least = λ r needs. (least t r needs).1 }

-- ---- the outputs are marked first

marked_at : (count : ℕ) (outs : List ℕ) (us : List Use) (t : ℕ) → ((o : ℕ) → contains outs o ≡ true → o < length us)
    → (contains outs t ≡ true → use_at (all_marked us count outs) t ≡ record { used = true; extra = 0; last = count })
    × (contains outs t ≡ false → use_at (all_marked us count outs) t ≡ use_at us t)
    × (length (all_marked us count outs) ≡ length us)
marked_at count [] us t within = (λ h. absurd (true≢false (sym h)), λ h. refl, refl)
marked_at count (o ∷ outs) us t within =
    let long : length (marked count us o) ≡ length us = length-set us o (record { used = true; extra = 0; last = count }) in
    let rest = marked_at count outs (marked count us o) t (λ p e. let l = within p (or_right (o == p) (contains outs p) e) in omega arith) in
    let in_us : o < length us = within o (or_left (o == o) (contains outs o) (eq-eqb o o refl)) in (
      λ h. here (contains outs t) refl rest.0 rest.1 h in_us,
      λ h. rest.1 (other h).1 ∙ get_or-set_other us o t (record { used = true; extra = 0; last = count }) unused (other h).0,
      rest.2 ∙ long,
    )
  where
    other : contains (o ∷ outs) t ≡ false → (t ≢ o) × (contains outs t ≡ false)
    other h = (λ p. true≢false (sym (or_left (o == t) (contains outs t) (eq-eqb o t (sym p))) ∙ h), no_tail (contains outs t) refl h)
      where
        no_tail : (b : Bool) → contains outs t ≡ b → contains (o ∷ outs) t ≡ false → contains outs t ≡ false
        no_tail true e f = absurd (true≢false (sym (or_right (o == t) (contains outs t) e) ∙ f))
        no_tail false e f = e

    here : (b : Bool) → contains outs t ≡ b → (contains outs t ≡ true → use_at (all_marked (marked count us o) count outs) t ≡ record { used = true; extra = 0; last = count }) → (contains outs t ≡ false → use_at (all_marked (marked count us o) count outs) t ≡ use_at (marked count us o) t)
        → contains (o ∷ outs) t ≡ true → o < length us → use_at (all_marked (marked count us o) count outs) t ≡ record { used = true; extra = 0; last = count }
    here true e tail head h i = tail e
    here false e tail head h i = elim (or_cases (o == t) (contains outs t) h) [
      | inl p ↦ (let is : o ≡ t = eqb-true o t p in head e ∙ ap (use_at (marked count us o)) (sym is) ∙ get_or-set_same us o (record { used = true; extra = 0; last = count }) unused i)
      | inr p ↦ tail p
    ]

module _ (days : List ℤ) (s : ℕ) (g : Graph) (outputs : List ℕ) (within : (o : ℕ) → contains outputs o ≡ true → o < length g) where
  abbrev unasked : List Use
  unasked = replicate (length g) unused

  abbrev first : List Use
  first = all_marked unasked (length g) outputs

  in-first : (o : ℕ) → contains outputs o ≡ true → o < length unasked
  in-first o e = omega (arith, within o e, length-replicate (length g) unused)

  at-first : (t : ℕ) (b : Bool) → contains outputs t ≡ b → (use_at first t).used ≡ true
      → Needs days g outputs (pos s) t (pos s -ℤ pos (use_at first t).extra) × IsReader days s g outputs t (use_at first t).last
  at-first t true e h =
      let itself : pos s ≡ pos s -ℤ pos 0 = omega (arith, ints) in
      rw ((marked_at (length g) outputs unasked t in-first).0 e) (subst (Needs days g outputs (pos s) t) itself (Needs.output e), inl (e, refl))
  at-first t false e h =
      let is = (marked_at (length g) outputs unasked t in-first).1 e ∙ all_same (length g) t unused in
      absurd (true≢false (sym h ∙ ap (λ (x : Use). x.used) is))

  pub begun : AreGathered days s g outputs (length g) first
  begun = record {
    size = (marked_at (length g) outputs unasked 0 in-first).2 ∙ length-replicate (length g) unused;
    sound = λ t h. at-first t (contains outputs t) refl h;
    outs = λ t h. rw ((marked_at (length g) outputs unasked t in-first).0 h) (refl, refl);
    given = λ u n t r l h e reads. absurd (omega (arith, slice_get_within g u n e, l));
  }

-- ---- no session is needed so far back

-- a node reads no farther back than its window, from its session or from the first one of the calendar
read-near : (days : List ℤ) (n : Node) (q : ℤ) (t : ℕ) (r : ℤ) → n.window ≤ most_window → Reads days n q t r → (q ≤ℤ (r +ℤ pos most_window)) ⊎ (pos 0 ≤ℤ (r +ℤ pos most_window))
read-near days n q t r w (Reads.input i e) =
    by_lt_z q (pos 0)
    (λ early. inl (omega (arith, ints, w, early-still days n.kind q early)))
    (λ late. inr (omega (arith, ints, w, late-still days n.kind q late)))
read-near days n q t r w (Reads.mask e) = inl (omega (arith, ints))
read-near days n q t r w (Reads.group e) = inl (omega (arith, ints))

pub needs-near : (days : List ℤ) (s : ℕ) (g : Graph) (outputs : List ℕ) → IsGraph g → ((t : ℕ) → contains outputs t ≡ true → t < length g) → ((k : ℕ) (n : Node) → slice_get g k ≡ Some n → n.window ≤ most_window)
    → (t : ℕ) (r : ℤ) → Needs days g outputs (pos s) t r → (pos (most_window * t) ≤ℤ (r +ℤ pos (most_window * length g))) × (t < length g)
needs-near days s g outputs ok within short t r (Needs.output h) = let l = within t h in (omega (arith, ints, l), l)
needs-near days s g outputs ok within short t r (Needs.read u n q needs at reads) =
    let so_far = needs-near days s g outputs ok within short u q needs in
    let lower : t < u = read-lower days n q u t r (ok.lower u n at) reads in
    elim (read-near days n q t r (short u n at) reads) [
      | inl near ↦ (omega (arith, ints, so_far.0, so_far.1, lower, near), omega (arith, lower, so_far.1))
      | inr near ↦ (omega (arith, ints, so_far.1, lower, near), omega (arith, lower, so_far.1))
    ]
