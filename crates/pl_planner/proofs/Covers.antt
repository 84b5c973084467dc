-- What a plan says is what the definitions say.
use Rattle.std.proofs.Common.{◌≡◌, ℕ, ◌+◌, ◌-◌, ◌*◌, ◌<◌, ◌≤◌, Bool, true, false, ◌&&◌, max, nat_le, nat_lt, if◌then◌else◌, ℤ, pos, ◌-ℤ◌, ◌≤ℤ◌, ◌<ℤ◌, List, [], length, map, fold, AllPairs, Some, None, refl, sym, ◌∙◌, ap, subst, arith, inl, inr, ◌⊎◌, slice_get, get_or, leb-true, FitsSigned, w64, to_z, of_z}
use Rattle.std.specs.List.{list_any, range_with_len, count_by}
use Rattle.std.proofs.lemmas.Bool.{true≢false, cases_lt, or_right, and_from, and_parts}
use Rattle.std.proofs.lemmas.Bool.Decides.{nat_tests}
use Rattle.std.specs.Int.Signed.{lt_z}
use Rattle.std.proofs.lemmas.Int.{ints, to_z-of_z}
use Rattle.std.proofs.lemmas.Option.{slice_get_within}
use Rattle.std.proofs.lemmas.List.FromFn.{get_or-map-range_with_len, length-map-range_with_len}
use Rattle.pl_spec.specs.Limits.{most_terms, most_extra_rows}
use Rattle.pl_pipeline.specs.Table.{Pipeline}
use Rattle.pl_pipeline.specs.Term.{Node, Graph}
use Rattle.pl_pipeline.specs.Graph.{reads_at, contains, mentions_at, Used, used_terms}
use Rattle.pl_pipeline.specs.Cones.{cone_depths, border_terms, reads_of}
use Rattle.pl_pipeline.proofs.Contained.{in-front}
use Rattle.pl_pipeline.specs.Lows.{Needs, IsLow, least_reach}
use Rattle.pl_spec.specs.Window.{before}
use Rattle.pl_laws.specs.LowLaws.{HasBar, ReachCovers}
use Rattle.pl_laws.proofs.Lows.{lows-cover, reach-covers, reads_at-within}
use Rattle.pl_laws.proofs.Uses.{lower, used_terms-sound, used_terms-complete}
use Rattle.pl_terms.specs.Checked.{IsChecked}
use Rattle.pl_terms.specs.Uses as pipeline
use Rattle.pl_terms.specs.Uses.{outputs}
use Rattle.pl_planner.specs.declared.uses.Use.{Use}
use Rattle.pl_planner.specs.declared.slots.TermSlots.{TermSlots}
use Rattle.pl_planner.specs.Holds.{is_live_by}
use Rattle.pl_planner.specs.Uses.{use_at, is_kept, IsLastBy, AreUsesBy}
use Rattle.pl_planner.specs.Columns.{columns_held, held_at, most_held}
use Rattle.pl_planner.specs.Rows.{extra_at, IsRow, AreRows, most_extra}
use Rattle.pl_planner.specs.Slotting.{slots_at, own_slot, kept_below, one, IsHad, IsHadBefore, IsLowest, IsSlotted, AreSlotted}
use Rattle.pl_planner.specs.Plans as plans
use Rattle.pl_planner.specs.Plans.{Planned, is_used, low_at, last_user, is_read_by, slot_of, column_slot, cone, live_terms, AreLows, AreLastUsers, IsLive, HasSlot, HasColumn, IsPlanOf, IsDeepest, KeepsLimits}
use Rattle.pl_planner.specs.Laws.{ReadsAreCovered}
use Rattle.pl_planner.proofs.Pipelines.{IsPipeline, is-pipeline}
use Rattle.pl_planner.proofs.Mentions.{needs-used, reads-mention}
use Rattle.pl_planner.proofs.Counting.{count_more, most_in, held-few}
use Rattle.pl_planner.proofs.ReadTerms.{reads-lower}
use Rattle.pl_planner.proofs.Live.{turned, contains-filter, some_holds, used_within, live_is, bound_is}
use Rattle.pl_planner.proofs.Lows.{needs-rise}
use Rattle.pl_planner.proofs.Tables.{ReachedAt, most-at, most-in, extra-used, extra-some}

pub live-intro : (p : Pipeline) (k t : ℕ) → is_live_by (reads_of p.graph) p.graph (outputs p) k t ≡ true → contains (used_terms p.graph (outputs p)) t ≡ true → IsLive p k t
live-intro p k t a b = contains-filter (is_live_by (reads_of p.graph) p.graph (outputs p) k) (used_terms p.graph (outputs p)) t ∙ and_from _ _ b a

-- ---- what a used term reads is computed, and live

pub reads-covered : ReadsAreCovered
reads-covered days rise p checked plan is k t c n s r asked e low reads =
    let ok : IsPipeline p.graph (outputs p) = is-pipeline p checked in
    let mention : contains (mentions_at p.graph k) t ≡ true = rw e (reads-mention days n s t r reads) in
    let listed : contains (used_terms p.graph (outputs p)) k ≡ true = sym (is.used k) ∙ asked.0 in
    let used_k : Used p.graph (outputs p) k = used_terms-sound p.graph (outputs p) ok.graph k listed in
    let used_t : Used p.graph (outputs p) t = Used.mentioned k used_k mention in
    let below : t < k = lower p.graph (outputs p) ok.graph k t mention in
    let inside : k < length p.graph = slice_get_within p.graph k n e in
    let listed_t : contains (used_terms p.graph (outputs p)) t ≡ true = used_terms-complete p.graph (outputs p) ok.graph t (omega arith) used_t in
    let used : is_used plan t ≡ true = is.used t ∙ listed_t in
    let first : nat_le t k ≡ true = grind (arith, nat_tests) in
    let itself : nat_le k k ≡ true = grind (arith, nat_tests) in
    let read : contains (reads_of p.graph k) t ≡ true = in-front (mentions_at p.graph k) (border_terms p.graph k) t mention in
    let any : list_any (λ u. nat_le k u && contains (reads_of p.graph u) t) (used_terms p.graph (outputs p)) ≡ true
    = some_holds (λ u. nat_le k u && contains (reads_of p.graph u) t) (used_terms p.graph (outputs p)) k listed (and_from _ _ itself read) in
    record {
      used = used;
      lower = below;
      live = live-intro p k t (and_from _ _ first (or_right (contains (outputs p) t) _ any)) listed_t;
      computed = lows-cover days rise p.graph (outputs p) (pos c) k t n (pos (low_at plan k c)) (pos (low_at plan t c)) s r (is.lows.exact k c asked) (is.lows.exact t c (used, asked.1)) e low reads;
    }

-- the cone of a term
pub cone-of : (days : List ℤ) (p : Pipeline) (plan : Planned) → IsPlanOf days p plan → (t : ℕ) → t < length p.graph → cone plan t ≡ cone_depths p.graph t
unfolding cone
cone-of days p plan is t h =
    ap (λ cs. get_or cs t []) is.cones ∙ get_or-map-range_with_len (cone_depths p.graph) 0 (length p.graph) t t [] h (let z : 0 + t ≡ t = omega arith in z)

-- ---- the extra sessions of a range

module _ (days : List ℤ) (p : Pipeline) (checked : IsChecked p) (from to : ℕ) (order : from ≤ to) (extras : List ℕ) (rows : AreRows days p.graph (outputs p) from (to + 1 - from) extras) where
  abbrev own_extra : ℕ → ℕ → ℕ
  own_extra s t = extra_at extras (length p.graph) (s - from) t

  row : (s : ℕ) → from ≤ s → s ≤ to → IsRow days p.graph (outputs p) s (extra_at extras (length p.graph) (s - from))
  row s a b = let same : from + (s - from) ≡ s = omega arith in subst (λ z. IsRow days p.graph (outputs p) z (extra_at extras (length p.graph) (s - from))) same (rows.rows (s - from) (omega arith))

  its-low : (t s : ℕ) → Used p.graph (outputs p) t → from ≤ s → s ≤ to → IsLow days p.graph (outputs p) (pos s) t (pos s -ℤ pos (own_extra s t))
  its-low t s u a b =
      let r = row s a b in
      let within : t < length p.graph = used_within p.graph (outputs p) (is-pipeline p checked).graph r.are t u in
      let same : own_extra s t ≡ (use_at r.uses t).extra = r.is t within ∙ extra-used (use_at r.uses t) ((r.are.used t).1 u) in
      subst (λ n. IsLow days p.graph (outputs p) (pos s) t (pos s -ℤ pos n)) (sym same) (r.have t u)

  own-most : (t s : ℕ) → t < length p.graph → from ≤ s → s ≤ to → own_extra s t ≤ most_extra extras
  own-most t s within a b = most-in extras (to + 1 - from) (length p.graph) (s - from) t rows.size (omega arith) within

  need-most : (t s : ℕ) (l : ℤ) → from ≤ s → s ≤ to → Needs days p.graph (outputs p) (pos s) t l → (pos s -ℤ l) ≤ℤ pos (most_extra extras)
  need-most t s l a b needs =
      let u : Used p.graph (outputs p) t = needs-used days p.graph (outputs p) (pos s) t l needs in
      let within : t < length p.graph = used_within p.graph (outputs p) (is-pipeline p checked).graph (row s a b).are t u in
      omega (arith, ints, (its-low t s u a b).least l needs, own-most t s within a b)

  pub deepest : 0 < most_extra extras → IsDeepest days p from to (most_extra extras)
  deepest some =
      let m : ReachedAt extras (to + 1 - from) (length p.graph) (most_extra extras) = most-at extras (to + 1 - from) (length p.graph) rows.size some in
      let inside = m.in_rows in
      let r = rows.rows m.row m.in_rows in
      let w : ((use_at r.uses m.term).used ≡ true) × ((use_at r.uses m.term).extra ≡ most_extra extras) = extra-some (use_at r.uses m.term) (most_extra extras) some (sym (r.is m.term m.in_terms) ∙ m.is) in
      let used : Used p.graph (outputs p) m.term = (r.are.used m.term).0 w.0 in
      record {
        term = m.term;
        session = from + m.row;
        low = pos (from + m.row) -ℤ pos (use_at r.uses m.term).extra;
        within = (omega arith, omega arith);
        is_low = r.have m.term used;
        is = (let e = w.1 in omega (arith, ints));
        most = λ t s l a b low. need-most t s l a b low.needed;
      }

module _ (days : List ℤ) (rise : AllPairs (λ a b. a <ℤ b) days) (p : Pipeline) (checked : IsChecked p) (uses : List Use) (are : AreUsesBy (reads_of p.graph) p.graph (outputs p) uses) where
  abbrev g : Graph
  g = p.graph

  abbrev outs : List ℕ
  outs = outputs p

  ok : IsPipeline p.graph (outputs p)
  ok = is-pipeline p checked

  used-in : (t : ℕ) → (use_at uses t).used ≡ true → t < length uses
  used-in t h = let w = used_within g outs ok.graph are t ((are.used t).0 h) in let s = are.size in omega arith

  module _ (slots : List TermSlots) (slotted : AreSlotted uses slots) (long : length slots ≡ length uses) (from to : ℕ) (order : from ≤ to) (within : to < length days)
      (extras : List ℕ) (rows : AreRows days p.graph (outputs p) from (to + 1 - from) extras)
      (reach : ℤ) (held : ℕ) (least : reach ≡ least_reach days p.graph (outputs p) (pos from)) (early : pos 0 ≤ℤ reach) (held_is : held ≡ most_held p.graph (outputs p)) (shallow : most_extra extras ≤ most_extra_rows)
      (cones : List (List (ℕ × ℕ))) (listed : cones ≡ map (cone_depths p.graph) (range_with_len 0 (length p.graph))) where
    abbrev plan : Planned
    plan = record { from = from; to = to; reach = reach; bound = held; uses = uses; extras = extras; slots = slots; cones = cones }

    abbrev extra_of : ℕ → ℕ → ℕ
    extra_of s t = extra_at extras (length g) (s - from) t

    covers : ReachCovers days g outs (pos from)
    covers = reach-covers days g ok.graph (λ k n e. (ok.windows k n e).0) outs (pos from)

    -- ---- lows

    -- for a session of the range, what is known of it for the first one
    first-need : (t s : ℕ) (r : ℤ) → from ≤ s → Needs days g outs (pos s) t r → (q : ℤ) × Needs days g outs (pos from) t q × (q ≤ℤ r)
    first-need t s r a needs = needs-rise days rise g outs (pos from) (pos s) (omega (arith, ints)) t r needs

    module _ (t s : ℕ) (used : (use_at uses t).used ≡ true) (after : from ≤ s) (until : s ≤ to) where
      its_low : IsLow days g outs (pos s) t (pos s -ℤ pos (extra_of s t))
      its_low = its-low days p checked from to order extras rows t s ((are.used t).0 used) after until

      pub reached : reach ≤ℤ (pos s -ℤ pos (extra_of s t))
      reached =
          let f = first-need t s (pos s -ℤ pos (extra_of s t)) after its_low.needed in
          let l : least_reach days g outs (pos from) ≤ℤ f.0 = covers.sessions t f.0 f.1 in
          let m = f.2 in
          omega (arith, ints, least)

      pub within-session : extra_of s t ≤ s
      within-session = let r = reached in let e = early in omega (arith, ints)

      pub is-few : extra_of s t ≤ most_extra_rows
      is-few = let m = own-most days p checked from to order extras rows t s (let w = used-in t used in let z = are.size in omega arith) after until in omega arith

      pub is-low-at : low_at plan t s ≡ s - extra_of s t
      unfolding low_at
      is-low-at = ap (λ n. s - extra_at extras n (s - from) t) are.size

      pub low-exact : IsLow days g outs (pos s) t (pos (low_at plan t s))
      low-exact =
          let w = within-session in
          let e : pos s -ℤ pos (extra_of s t) ≡ pos (s - extra_of s t) = omega (arith, ints) in
          subst (IsLow days g outs (pos s) t) (e ∙ ap pos (sym is-low-at)) its_low

      pub low-reached : reach ≤ℤ pos (low_at plan t s)
      low-reached = let w = within-session in let r = reached in let e = is-low-at in omega (arith, ints)

      pub bars-reached : (n : Node) → slice_get g t ≡ Some n → HasBar n → reach ≤ℤ before (pos (low_at plan t s)) n.window
      bars-reached n e h =
          let f = first-need t s (pos s -ℤ pos (extra_of s t)) after its_low.needed in
          let l : least_reach days g outs (pos from) ≤ℤ before (reads_at days n.kind f.0) n.window = covers.bars t n f.0 f.1 e h in
          let r : reads_at days n.kind f.0 ≤ℤ f.0 = reads_at-within days n.kind f.0 in
          let m = f.2 in
          let w = within-session in
          let is = is-low-at in
          omega (arith, ints, least)

    lows : AreLows days p plan
    unfolding is_used
    lows = record {
      exact = λ t s a. low-exact t s a.0 a.1.0 a.1.1;
      few = λ t s a. (let w = within-session t s a.0 a.1.0 a.1.1 in let f = is-few t s a.0 a.1.0 a.1.1 in let e = is-low-at t s a.0 a.1.0 a.1.1 in (omega arith, omega arith));
      covered = λ t s a. low-reached t s a.0 a.1.0 a.1.1;
      bars = λ t s n a e h. bars-reached t s a.0 a.1.0 a.1.1 n e h;
    }

    -- ---- used, last users, liveness

    used-here : (t : ℕ) → is_used plan t ≡ (use_at uses t).used
    unfolding is_used
    used-here t = refl

    used-is : (t : ℕ) → is_used plan t ≡ pipeline.is_used p t
    unfolding is_used
    used-is t = here (use_at uses t).used refl (contains (used_terms g outs) t) refl
      where
        here : (b : Bool) → (use_at uses t).used ≡ b → (c : Bool) → contains (used_terms g outs) t ≡ c → (use_at uses t).used ≡ contains (used_terms g outs) t
        here true e true f = e ∙ sym f
        here false e false f = e ∙ sym f
        here true e false f = let u = (are.used t).0 e in absurd (true≢false (sym (used_terms-complete g outs ok.graph t (used_within g outs ok.graph are t u) u) ∙ f))
        here false e true f = absurd (true≢false (sym ((are.used t).1 (used_terms-sound g outs ok.graph t f)) ∙ e))

    abbrev last_of : ℕ → ℕ
    last_of t = (use_at uses t).last

    last-is : (t : ℕ) → is_used plan t ≡ true → AreLastUsers g outs t (last_user plan t)
    unfolding is_used last_user
    last-is t h = here (nat_lt (last_of t) (length uses)) refl (contains outs t) refl
      where
        is : IsLastBy (reads_of g) g outs t (last_of t)
        is = are.last t ((are.used t).0 h)

        here : (b : Bool) → nat_lt (last_of t) (length uses) ≡ b → (c : Bool) → contains outs t ≡ c → AreLastUsers g outs t (if nat_lt (last_of t) (length uses) then Some (last_of t) else None)
        here true e true f = let l = is.output f in let s = are.size in let less : last_of t < length uses = grind (arith, nat_tests) in absurd (omega arith)
        here true e false f = let r = is.reader f in rw e (f, record { used = r.0; reads = r.1; most = is.most })
        here false e true f = rw e f
        here false e false f =
            let r = is.reader f in
            let w = used_within g outs ok.graph are (last_of t) r.0 in
            let s = are.size in
            let less : nat_lt (last_of t) (length uses) ≡ true = (let l : last_of t < length uses = omega arith in grind (arith, nat_tests)) in
            absurd (true≢false (sym less ∙ e))

    read-by : (k t : ℕ) → k < length g → is_read_by (last_user plan t) k ≡ nat_le k (last_of t)
    unfolding last_user
    read-by k t h = here (nat_lt (last_of t) (length uses)) refl
      where
        here : (b : Bool) → nat_lt (last_of t) (length uses) ≡ b → is_read_by (if nat_lt (last_of t) (length uses) then Some (last_of t) else None) k ≡ nat_le k (last_of t)
        here true e = rw e refl
        here false e =
            let s = are.size in
            let l : length uses ≤ last_of t = grind (arith, nat_tests) in
            let m : k ≤ last_of t = omega arith in
            let y : nat_le k (last_of t) ≡ true = grind (arith, nat_tests) in
            rw (e, y) refl

    live-kept : (k t : ℕ) → k < length g → contains (live_terms p k) t ≡ (nat_le t k && is_kept uses k t)
    live-kept k t h =
        contains-filter (is_live_by (reads_of g) g outs k) (used_terms g outs) t
        ∙ ap (λ b. b && is_live_by (reads_of g) g outs k t) (sym (used-is t))
        ∙ used-live
      where
        used-live : (is_used plan t && is_live_by (reads_of g) g outs k t) ≡ (nat_le t k && is_kept uses k t)
        used-live = ap (λ b. b && is_live_by (reads_of g) g outs k t) (used-here t) ∙ live_is g outs uses ok.graph are k t h

    live-plan : (k t : ℕ) → k < length g → plans.is_live plan k t ≡ contains (live_terms p k) t
    live-plan k t h =
        ap (λ b. is_used plan t && nat_le t k && b) (read-by k t h)
        ∙ ap (λ b. b && nat_le t k && nat_le k (last_of t)) (used-here t)
        ∙ turned (use_at uses t).used (nat_le t k) (nat_le k (last_of t)) ∙ sym (live-kept k t h)

    -- ---- slots

    abbrev kept : ℕ → ℕ → Bool
    kept k t = is_kept uses k t

    kept-later : (k m t : ℕ) → m ≤ k → kept k t ≡ true → kept m t ≡ true
    kept-later k m t h e =
        let two = and_parts (use_at uses t).used (nat_le k (last_of t)) e in
        let l : k ≤ last_of t = leb-true k (last_of t) two.1 in
        let r : nat_le m (last_of t) ≡ true = (let n : m ≤ last_of t = omega arith in grind (arith, nat_tests)) in
        and_from _ _ two.0 r

    -- a term is kept at least until it is computed
    kept-self : (k : ℕ) → (use_at uses k).used ≡ true → kept k k ≡ true
    kept-self k h = here (contains outs k) refl
      where
        used : Used g outs k
        used = (are.used k).0 h

        is : IsLastBy (reads_of g) g outs k (last_of k)
        is = are.last k used

        inside : k < length g
        inside = used_within g outs ok.graph are k used

        at-most : k ≤ last_of k → kept k k ≡ true
        at-most l = let r : nat_le k (last_of k) ≡ true = grind (arith, nat_tests) in and_from _ _ h r

        here : (b : Bool) → contains outs k ≡ b → kept k k ≡ true
        here true e = let l = is.output e in let i = inside in at-most (omega arith)
        here false e = let r = is.reader e in let l = reads-lower g ok.graph (last_of k) k r.1 in at-most (omega arith)

    live-of : (k t : ℕ) → k < length g → t ≤ k → kept k t ≡ true → IsLive p k t
    live-of k t h l e = live-kept k t h ∙ and_from _ _ (let r : nat_le t k ≡ true = grind (arith, nat_tests) in r) e

    of-live : (k t : ℕ) → k < length g → IsLive p k t → (t ≤ k) × (kept k t ≡ true)
    of-live k t h e = let two = and_parts (nat_le t k) (kept k t) (sym (live-kept k t h) ∙ e) in (leb-true t k two.0, two.1)

    slot-is : (t : ℕ) → slot_of plan t ≡ own_slot slots t
    unfolding slot_of
    slot-is t = refl

    column-is : (t i : ℕ) → column_slot plan t i ≡ get_or (slots_at slots t).columns i 0
    unfolding column_slot
    column-is t i = refl

    same-lowest : (T S : ℕ → Type 0) → ((s : ℕ) → T s → S s) → ((s : ℕ) → S s → T s) → (slot : ℕ) → IsLowest T slot → IsLowest S slot
    same-lowest T S f h slot l = record { free = λ e. l.free (h slot e); lowest = λ s e. f s (l.lowest s e) }

    module _ (k : ℕ) (used : (use_at uses k).used ≡ true) where
      inside : k < length g
      inside = let w = used-in k used in let s = are.size in omega arith

      slotted-here : IsSlotted uses slots k (slots_at slots k)
      slotted-here = slotted.each k (let w = used-in k used in omega arith)

      abbrev own : ℕ
      own = own_slot slots k

      had-slot : (n s : ℕ) → k ≤ n → IsHad uses slots k k s → HasSlot p plan k n s
      had-slot n s l i = record { term = i.term; below = (let b = i.below in omega arith); live = live-of k i.term inside (let b = i.below in omega arith) i.kept; has = slot-is i.term ∙ i.has }

      own-had : (s : ℕ) → own ≡ s → HasSlot p plan k (k + 1) s
      own-had s e = record { term = k; below = omega arith; live = live-of k k inside (omega arith) (kept-self k used); has = slot-is k ∙ e }

      slot-had : (s : ℕ) → HasSlot p plan k k s → IsHad uses slots k k s
      slot-had s i = record { term = i.term; below = i.below; kept = (of-live k i.term inside i.live).1; has = sym (slot-is i.term) ∙ i.has }

      had-or-own : (s : ℕ) → HasSlot p plan k (k + 1) s → IsHad uses slots k k s ⊎ (own ≡ s)
      had-or-own s i = elim (cases_lt i.term k) [
        | inl l ↦ inl (record { term = i.term; below = l; kept = (of-live k i.term inside i.live).1; has = sym (slot-is i.term) ∙ i.has })
        | inr l ↦ (let b = i.below in let e : i.term ≡ k = omega arith in inr (ap (own_slot slots) (sym e) ∙ sym (slot-is i.term) ∙ i.has))
      ]

      pub own-lowest : IsLowest (HasSlot p plan k k) (slot_of plan k)
      own-lowest = subst (IsLowest (HasSlot p plan k k)) (sym (slot-is k)) (same-lowest (IsHad uses slots k k) (HasSlot p plan k k) (λ s. had-slot k s (omega arith)) slot-had own slotted-here.own)

      abbrev Taken : ℕ → ℕ → Type 0
      Taken i s = HasSlot p plan k (k + 1) s ⊎ HasColumn plan k i s

      had-in : (i s : ℕ) → IsHadBefore uses slots k (slots_at slots k) i s → Taken i s
      had-in i s (inl (inl h)) = inl (had-slot (k + 1) s (omega arith) h)
      had-in i s (inl (inr e)) = inl (own-had s e)
      had-in i s (inr r) = inr (r.0, r.1, column-is k r.0 ∙ r.2)

      had-out : (i s : ℕ) → Taken i s → IsHadBefore uses slots k (slots_at slots k) i s
      had-out i s (inl h) = inl (had-or-own s h)
      had-out i s (inr r) = inr (r.0, r.1, sym (column-is k r.0) ∙ r.2)

      pub column-lowest : (i : ℕ) → i < 5 → IsLowest (λ s. HasSlot p plan k (k + 1) s ⊎ HasColumn plan k i s) (column_slot plan k i)
      column-lowest i h = subst (IsLowest (Taken i)) (sym (column-is k i)) (same-lowest (IsHadBefore uses slots k (slots_at slots k) i) (Taken i) (had-in i) (had-out i) _ (slotted-here.columns i h))

      held-here : kept_below uses k + 1 + columns_held g k ≤ held
      held-here =
          let b : fold max 0 (map (held_at g uses) (range_with_len 0 (length g))) ≡ most_held g outs = bound_is g outs uses ok.graph are in
          let m : held_at g uses k ≤ fold max 0 (map (held_at g uses) (range_with_len 0 (length g))) = most_in (held_at g uses) (length g) k inside in
          let is : held_at g uses k ≡ count_by (is_kept uses k) (range_with_len 0 (k + 1)) + columns_held g k = rw used refl in
          let c : count_by (is_kept uses k) (range_with_len 0 (k + 1)) ≡ count_by (is_kept uses k) (range_with_len 0 k) + one (is_kept uses k k) = count_more (is_kept uses k) k in
          let itself : one (is_kept uses k k) ≡ 1 = ap one (kept-self k used) in
          let e = held_is in
          omega arith

      pub own-room : slot_of plan k < held
      own-room = let s = slot-is k in let b = slotted-here.below in let r = held-here in omega arith

      pub column-room : (i : ℕ) → i < 5 → i < columns_held g k → column_slot plan k i < held
      column-room i h l = let s = column-is k i in let b = slotted-here.columns_below i h in let r = held-here in omega arith

    apart-below : (k t u : ℕ) → k < length g → t < u → IsLive p k t → IsLive p k u → slot_of plan t ≡ slot_of plan u → ⊥
    apart-below k t u h l a b e =
        let ta = of-live k t h a in
        let ub = of-live k u h b in
        let used : (use_at uses u).used ≡ true = (and_parts (use_at uses u).used (nat_le k (last_of u)) ub.1).0 in
        (slotted-here u used).own.free (record { term = t; below = l; kept = kept-later k u t ub.0 ta.1; has = sym (slot-is t) ∙ e ∙ slot-is u })

    apart : (k t u : ℕ) → (use_at uses k).used ≡ true → IsLive p k t → IsLive p k u → slot_of plan t ≡ slot_of plan u → t ≡ u
    apart k t u used a b e = elim (cases_lt t u) [
      | inl l ↦ absurd (apart-below k t u (inside k used) l a b e)
      | inr l ↦ elim (cases_lt u t) [
        | inl m ↦ absurd (apart-below k u t (inside k used) m b a (sym e))
        | inr m ↦ omega arith
      ]
    ]

    used-of : (t : ℕ) → is_used plan t ≡ true → (use_at uses t).used ≡ true
    used-of t h = sym (used-here t) ∙ h

    pub is-plan : IsPlanOf days p plan
    is-plan = record {
      order = order;
      within = within;
      used = used-is;
      least = least;
      early = early;
      lows = lows;
      held = held_is;
      last = last-is;
      live = live-plan;
      slots = record {
        own = λ k h. own-lowest k (used-of k h);
        columns = λ k i h l. column-lowest k (used-of k h) i l;
        apart = λ k t u h a b e. apart k t u (used-of k h) a b e;
        room = λ k h. own-room k (used-of k h);
        columns_room = λ k i h l. column-room k (used-of k h) i (let f = held-few g k in omega arith) l;
      };
      cones = listed;
    }

    pub limits : length p.graph ≤ most_terms → held ≤ most_terms + 5 → KeepsLimits plan
    limits few most_held = record {
      order = order;
      early = early;
      few = most_held;
      terms = (let s = are.size in omega arith);
      within = λ t h. (let w = used-in t (used-of t h) in omega arith);
      size = rows.size ∙ ap (λ n. (to + 1 - from) * n) (sym are.size);
      rows = λ t s a.
          let used = used-of t a.0 in
          let size : extra_at extras (length uses) (s - from) t ≡ extra_of s t = ap (λ n. extra_at extras n (s - from) t) are.size in
          let w = within-session t s used a.1.0 a.1.1 in
          let f = is-few t s used a.1.0 a.1.1 in
          (omega arith, omega arith);
      among = λ t h. used-in t (used-of t h);
      slots = λ t h. own-room t (used-of t h);
      cones = λ t h. (let u = used-in t (used-of t h) in let z = are.size in
          let long : length cones ≡ length g = ap (λ cs. length cs) listed ∙ length-map-range_with_len (cone_depths g) 0 (length g) in omega arith);
    }

-- ---- the test of the reach

pub is-early : (z : ℤ) → FitsSigned w64 z → lt_z (to_z w64 (of_z w64 z)) (pos 0) ≡ true → z <ℤ pos 0
is-early z fit h = let e = rw (to_z-of_z w64 z fit) at h in grind (arith, ints, e)

pub not-early : (z : ℤ) → FitsSigned w64 z → lt_z (to_z w64 (of_z w64 z)) (pos 0) ≡ false → pos 0 ≤ℤ z
not-early z fit h = let e = rw (to_z-of_z w64 z fit) at h in grind (arith, ints, e)
