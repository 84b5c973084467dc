-- What a used term mentions is there while it is computed, and in which slots.
use Rattle.std.proofs.Common.{◌≡◌, ℕ, ◌+◌, ◌-◌, ◌<◌, ◌≤◌, Bool, true, false, ◌&&◌, nat_le, ℤ, pos, ◌-ℤ◌, ◌≤ℤ◌, List, length, Option, Some, None, slice_get, refl, sym, ◌∙◌, ap, subst, arith, ◌⊎◌, inl, inr}
use Rattle.std.proofs.lemmas.Bool.{true≢false, eqb-true, and_from}
use Rattle.std.proofs.lemmas.Bool.Decides.{nat_tests}
use Rattle.std.proofs.lemmas.Int.{ints}
use Rattle.std.specs.Cmp.{first_so, second_so}
use Rattle.pl_spec.specs.Window.{before}
use Rattle.pl_pipeline.specs.Kind as kind
use Rattle.pl_pipeline.specs.Kind.{Kind}
use Rattle.pl_pipeline.specs.Term.{Graph, Node, Input}
use Rattle.pl_pipeline.specs.Term.Input.{BarColumn, TermInput}
use Rattle.pl_spec.specs.declared.Frequency.{Frequency}
use Rattle.pl_spec.specs.Periods.{period_start}
use Rattle.pl_pipeline.specs.Kind.Kind.{Downsample}
use Rattle.pl_pipeline.specs.Graph.{Used, contains, columns_at, reads_at}
use Rattle.pl_laws.proofs.Lows.{reads_at-within}
use Rattle.pl_pipeline.specs.Lows.{Reads}
use Rattle.pl_laws.specs.LowLaws.{HasBar}
use Rattle.pl_laws.proofs.Uses.{used_terms-sound, used_terms-complete}
use Rattle.pl_terms.specs.Sorts.{Place, has_window, places}
use Rattle.pl_terms.specs.Uses.{outputs}
use Rattle.pl_planner.specs.Plans.{IsAsked, IsLive, AreLastUsers, is_read_by, is_used, last_user, low_at, slot_of, column_slot}
use Rattle.pl_planner.specs.Laws.{IsCovered}
use Rattle.pl_planner.proofs.Pipelines.{IsPipeline, is-pipeline, used-inside}
use Rattle.pl_planner.proofs.Covers.{reads-covered}
use Rattle.pl_planner.proofs.Held.{columns-same}
use Rattle.pl_planner.proofs.ReadTerms.{reads-lower}
use Rattle.pl_values.proofs.Typed.{has-input}
use Rattle.pl_values.proofs.Formulas.{first-place}
use Rattle.pl_workspace.specs.Slots.{Slots, Free, Begun, slot_at, with_slot}
use Rattle.pl_exec.specs.Slotted.{AreApart, AreLive, ends_at}
use Rattle.pl_exec.specs.Tasks.{Task, IsArray, graph_in, kept_in, low_in}
use Rattle.pl_exec.specs.ChunkInputs.{AreFree, IsRead, IsReady, IsRun, IsTask}
use Rattle.pl_exec.proofs.Trips.{still_free, still_held, long}

-- ---- kinds over windows have an input

window_or_one : (k : Kind) (w : ℕ) → has_window k w ≡ true → ((q : Place) × (slice_get (places k) 0 ≡ Some q)) ⊎ (w ≡ 1)
unfolding has_window places
window_or_one (kind.Window f) w e = inl (first-place f)
window_or_one k w e = inr (eqb-true w 1 e)

module _ (t : Task) (is : IsTask t) where
  abbrev g : Graph
  g = graph_in t

  abbrev outs : List ℕ
  outs = outputs t.pipeline

  pub pipe : IsPipeline g outs
  pipe = is-pipeline t.pipeline is.checked

  pub asked : (k : ℕ) → is_used t.plan k ≡ true → IsAsked t.plan k t.from
  asked k u = (u, (is.from, (let a = is.order in let b = is.to in omega arith)))

  -- ---- which terms are used and live

  pub used_is : (k : ℕ) → k < length g → Used g outs k → is_used t.plan k ≡ true
  used_is k h u = is.plan.used k ∙ used_terms-complete g outs pipe.graph k h u

  pub is_used' : (k : ℕ) → is_used t.plan k ≡ true → Used g outs k
  is_used' k e = used_terms-sound g outs pipe.graph k (sym (is.plan.used k) ∙ e)

  pub used_known : (k : ℕ) → is_used t.plan k ≡ true → k < length g
  used_known k e = used-inside g outs pipe k (is_used' k e)

  -- a kept term is live, and the other way round
  pub live_kept : (k u : ℕ) → k < length g → IsLive t.pipeline k u → (u ≤ k) × (kept_in t k u ≡ true)
  live_kept k u h l =
      let e = is.plan.live k u h ∙ l in
      let b = first_so (is_used t.plan u && nat_le u k) (is_read_by (last_user t.plan u) k) e in
      let a = first_so (is_used t.plan u) (nat_le u k) b in
      let low = second_so (is_used t.plan u) (nat_le u k) b in
      ((let r : u ≤ k = grind (arith, nat_tests) in r), and_from _ _ a (second_so (is_used t.plan u && nat_le u k) (is_read_by (last_user t.plan u) k) e))

  pub kept_live : (k u : ℕ) → k < length g → u ≤ k → kept_in t k u ≡ true → IsLive t.pipeline k u
  kept_live k u h low e =
      let l : nat_le u k ≡ true = grind (arith, nat_tests) in
      sym (is.plan.live k u h) ∙ and_from _ _ (and_from _ _ (first_so (is_used t.plan u) (is_read_by (last_user t.plan u) k) e) l) (second_so (is_used t.plan u) (is_read_by (last_user t.plan u) k) e)

  -- a used term is read by itself or later
  pub own_kept : (k : ℕ) → is_used t.plan k ≡ true → kept_in t k k ≡ true
  own_kept k u = and_from _ _ u (here (last_user t.plan k) refl)
    where
      here : (o : Option ℕ) → last_user t.plan k ≡ o → is_read_by (last_user t.plan k) k ≡ true
      here None e = rw e refl
      here (Some l) e =
          let a = subst (AreLastUsers g outs k) e (is.plan.last k u) in
          let b : k < l = reads-lower g pipe.graph l k a.1.reads in
          let r : nat_le k l ≡ true = grind (arith, nat_tests) in
          rw e r

  pub apart_at : (k : ℕ) → is_used t.plan k ≡ true → AreApart (slot_of t.plan) (kept_in t k) (k + 1)
  apart_at k u i j a b x y e =
      let h = used_known k u in
      is.plan.slots.apart k i j u (kept_live k i h (omega arith) x) (kept_live k j h (omega arith) y) e

  -- ---- what term k reads

  module _ (w : Slots) (k : ℕ) (live : AreLive (slot_of t.plan) (IsArray t) (kept_in t k) k w) (used : is_used t.plan k ≡ true) (n : Node) (node : slice_get g k ≡ Some n) where
    window_some : 1 ≤ n.window
    window_some = (pipe.windows k n node).0

    abbrev low : ℕ
    low = low_in t k

    covered : (u : ℕ) (r : ℤ) → Reads t.world.days n (pos low) u r → IsCovered t.pipeline t.plan k u t.from r
    covered u r x = reads-covered t.world.days is.days t.pipeline is.checked t.plan is.plan k u t.from n (pos low) r (asked k used) node (omega (arith, ints)) x

    read : (u size : ℕ) (r : ℤ) → 1 ≤ size → r ≤ℤ (pos low -ℤ pos (size - 1)) → Reads t.world.days n (pos low) u r → IsRead t w low size u
    read u size r some e x =
        let c = covered u r x in
        let l = live_kept k u (used_known k used) c.live in
        let early : pos (low_at t.plan u t.from) ≤ℤ r = c.computed in
        record {
          known = used_known u c.used;
          used = c.used;
          held = live.held u c.lower l.1;
          some = some;
          early = omega (arith, ints, early, e);
        }

    input_read : (i u : ℕ) → slice_get n.inputs i ≡ Some (TermInput u) → IsRead t w low n.window u
    input_read i u e =
        let l : reads_at t.world.days n.kind (pos low) ≤ℤ pos low = reads_at-within t.world.days n.kind (pos low) in
        let near : before (reads_at t.world.days n.kind (pos low)) (n.window - 1) ≤ℤ (pos low -ℤ pos (n.window - 1)) = omega (arith, ints, l) in
        read u n.window (before (reads_at t.world.days n.kind (pos low)) (n.window - 1)) window_some near (Reads.input i e)

    now_read : (u : ℕ) → Reads t.world.days n (pos low) u (pos low) → IsRead t w low 1 u
    now_read u x = read u 1 (pos low) (omega arith) (omega (arith, ints)) x

    start_read : (f : Frequency) (u : ℕ) → n.kind ≡ Downsample f → slice_get n.inputs 0 ≡ Some (TermInput u) → pos (low_in t u) ≤ℤ period_start f t.world.days (pos low)
    start_read f u e i =
        let r : ℤ = before (reads_at t.world.days n.kind (pos low)) (n.window - 1) in
        let early : pos (low_at t.plan u t.from) ≤ℤ before (reads_at t.world.days n.kind (pos low)) (n.window - 1) = (covered u r (Reads.input 0 i)).computed in
        let at : reads_at t.world.days n.kind (pos low) ≡ period_start f t.world.days (pos low) = ap (λ q. reads_at t.world.days q (pos low)) e in
        omega (arith, ints)

    pub ready_before : IsReady t w low n
    ready_before = record {
      inputs = input_read;
      mask = λ u e. now_read u (Reads.mask e);
      group = λ u e. now_read u (Reads.group e);
      start = start_read;
    }

    pub bars_deep : HasBar n → n.window ≤ low
    bars_deep h =
        let b = is.plan.lows.bars k t.from n (asked k used) node h in
        let r = is.plan.early in
        omega (arith, ints, b, r)

    pub window_deep : n.window ≤ low + 1
    window_deep = elim (window_or_one n.kind n.window (is.checked.nodes k n node).window) [
      | inr e ↦ omega arith
      | inl q ↦ (let x = has-input g (places n.kind) n.inputs 0 q.0 (is.checked.nodes k n node).inputs q.1 in here x.0 x.1)
    ]
      where
        here : (x : Input) → slice_get n.inputs 0 ≡ Some x → n.window ≤ low + 1
        here (BarColumn c) e = let d = bars_deep (0, c, e) in omega arith
        here (TermInput u) e = let r = (input_read 0 u e).early in omega arith

  -- a free slot is begun
  pub run_still : (w v : Slots) (k s : ℕ) → IsRun t w k → slot_at w s ≡ Free → v ≡ with_slot w s Begun → IsRun t v k
  run_still w v k s r free e = record { known = r.known; used = r.used; ready = λ n x. again n (r.ready n x); deep = r.deep }
    where
      once : (size first u : ℕ) → IsRead t w first size u → IsRead t v first size u
      once size first u x = record { known = x.known; used = x.used; held = still_held w v (slot_of t.plan u) s x.held free e; some = x.some; early = x.early }

      again : (n : Node) → IsReady t w (low_in t k) n → IsReady t v (low_in t k) n
      again n x = record { inputs = λ i u y. once n.window _ u (x.inputs i u y); mask = λ u y. once 1 _ u (x.mask u y); group = λ u y. once 1 _ u (x.group u y); start = x.start }

  -- ---- term k is begun

  module _ (w : Slots) (k : ℕ) (live : AreLive (slot_of t.plan) (IsArray t) (kept_in t k) k w) (used : is_used t.plan k ≡ true) (room : t.plan.bound ≤ length w.slots) where
    pub run_before : IsRun t w k
    run_before = record {
      known = used_known k used;
      used = used;
      ready = λ n e. ready_before w k live used n e;
      deep = λ n e. window_deep w k live used n e;
    }

    pub slot_within : slot_of t.plan k < length w.slots
    slot_within = let r = is.plan.slots.room k used in omega arith

    pub own_free : slot_at w (slot_of t.plan k) ≡ Free
    own_free = live.free (slot_of t.plan k) slot_within (λ u h l e. let i : u ≡ k = apart_at k used u k (omega arith) (omega arith) l (own_kept k used) e in omega arith)

    pub run_begun : (v : Slots) → v ≡ with_slot w (slot_of t.plan k) Begun → IsRun t v k
    run_begun v e = run_still w v k (slot_of t.plan k) run_before own_free e

    pub columns_free : (v : Slots) → v ≡ with_slot w (slot_of t.plan k) Begun → columns_at g k ≤ 3 → AreFree t v k 0
    columns_free v e few m from below =
        let lowest = is.plan.slots.columns k m used (omega arith) in
        let same = columns-same g is.checked.steady k in
        let room' = is.plan.slots.columns_room k m used (omega arith) in
        let l = long w v (slot_of t.plan k) Begun e in
        let never : (u : ℕ) → u < k + 1 → kept_in t k u ≡ true → slot_of t.plan u ≡ column_slot t.plan k m → ⊥ = λ u h l' s. lowest.free (inl (record { term = u; below = h; live = kept_live k u (used_known k used) (omega arith) l'; has = s })) in
        let inside : column_slot t.plan k m < length w.slots = omega arith in
        (omega arith, still_free w v (slot_of t.plan k) (column_slot t.plan k m) e (live.free (column_slot t.plan k m) inside (λ u h l' s. never u (omega arith) l' s)) (λ s. never k (omega arith) (own_kept k used) (sym s)))

  pub free_still : (w v : Slots) (k i : ℕ) → is_used t.plan k ≡ true → columns_at g k ≤ 3 → i < columns_at g k → AreFree t w k i → v ≡ with_slot w (column_slot t.plan k i) Begun → AreFree t v k (i + 1)
  free_still w v k i used few h free e m from below =
      let f = free m (omega arith) below in
      let lowest = is.plan.slots.columns k m used (omega arith) in
      let l = long w v (column_slot t.plan k i) Begun e in
      let inside = f.0 in
      (omega arith, still_free w v (column_slot t.plan k i) (column_slot t.plan k m) e f.1 (λ s. lowest.free (inr (i, omega arith, sym s))))

  -- ---- what is live after an unused term, and at the end

  pub unread : (k : ℕ) → k < length g → is_used t.plan k ≡ false → (u : ℕ) → is_used t.plan u ≡ true → ends_at (last_user t.plan u) k ≡ true → ⊥
  unread k h off u used e = here (last_user t.plan u) refl
    where
      here : (o : Option ℕ) → last_user t.plan u ≡ o → ⊥
      here None f = true≢false (sym e ∙ ap (λ o. ends_at o k) f)
      here (Some l) f =
          let a = subst (AreLastUsers g outs u) f (is.plan.last u used) in
          let p : l ≡ k = eqb-true l k (sym (ap (λ o. ends_at o k) f) ∙ e) in
          true≢false (sym (used_is k h (subst (Used g outs) p a.1.used)) ∙ off)

  pub live_at_last : (u : ℕ) → u < length g → kept_in t (length g) u ≡ contains outs u
  live_at_last u h = here (contains outs u) refl (is_used t.plan u) refl (last_user t.plan u) refl
    where
      here : (b : Bool) → contains outs u ≡ b → (x : Bool) → is_used t.plan u ≡ x → (o : Option ℕ) → last_user t.plan u ≡ o → kept_in t (length g) u ≡ contains outs u
      here true e false f o q = absurd (true≢false (sym (used_is u h (Used.output e)) ∙ f))
      here true e true f None q = rw (f, q, e) refl
      here true e true f (Some l) q = absurd (true≢false (sym e ∙ (subst (AreLastUsers g outs u) q (is.plan.last u f)).0))
      here false e false f o q = rw (f, e) refl
      here false e true f None q = absurd (true≢false (sym (subst (AreLastUsers g outs u) q (is.plan.last u f)) ∙ e))
      here false e true f (Some l) q =
          let a = subst (AreLastUsers g outs u) q (is.plan.last u f) in
          let b = used-inside g outs pipe l a.1.used in
          let r : nat_le (length g) l ≡ false = grind (arith, nat_tests) in
          rw (f, q, r, e) refl

  pub output_known : (u : ℕ) → contains outs u ≡ true → u < length g
  output_known u e = pipe.outputs_in u e
