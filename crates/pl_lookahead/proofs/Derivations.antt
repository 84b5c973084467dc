-- Worlds that are seen alike up to a session have the same derivations up to it, but for the codes of labels.
use Rattle.std.proofs.Common.{◌≡◌, ℕ, zero, suc, Bool, true, false, ◌||◌, if◌then◌else◌, ℤ, pos, ◌<ℤ◌, ◌≤ℤ◌, List, [], ◌∷◌, ◌++◌, map, flat_map, fold, Option, Some, None, option_map, unwrap_or, refl, sym, ◌∙◌, ap, arith, slice_get}
use Rattle.std.specs.Prelude.{option_and_then}
use Rattle.std.specs.Ordering.{int_eq}
use Rattle.std.proofs.lemmas.Int.{ints}
use Rattle.pl_spec.specs.declared.Column.{Column}
use Rattle.pl_spec.specs.World.{World, IsWorld, events_of, day_of, bar_cell, exists, living_sids}
use Rattle.pl_spec.specs.Numbers.{known_at}
use Rattle.pl_spec.specs.Window.{before, downward, effects_from, effects}
use Rattle.pl_spec.specs.Periods.{period_start}
use Rattle.pl_spec.proofs.Each.{Each, each_both, each_in_map, each_in_flat, each_all, each_more, map_each}
use Rattle.pl_pipeline.specs.Kind as kinds
use Rattle.pl_pipeline.specs.Kind.{Kind}
use Rattle.pl_pipeline.specs.Kind.Kind.{Window, Point, LabelTest, Cross, Downsample}
use Rattle.pl_pipeline.specs.Term.{Graph, Input, Node, term_at}
use Rattle.pl_pipeline.specs.Term.Input.{BarColumn, TermInput}
use Rattle.pl_pipeline.specs.Value.{Value, View, Own, From, seen_from, view_of, holds, passes, name_at, seen, is_steady}
use Rattle.pl_pipeline.specs.Table.{Pipeline, value_of, in_array}
use Rattle.pl_laws.proofs.Law as law
use Rattle.pl_laws.proofs.Law.{SeenAlike, IsSeenBy, seen_by_here, seen-earlier, inner-seen, between_same, day_by}
use Rattle.pl_laws.proofs.Calendars.{reads_at-same}
use Rattle.pl_laws.proofs.Starts.{start-within}
use Rattle.pl_cross.specs.Arrays.{HasTexts}
use Rattle.pl_derivation.specs.Facts.{Fact, Reading, number_in, kind_known, known_day, value_fact, told_fact, window_facts, facts_now, number_facts, over_inputs, entry_facts, kind_facts, term_read, number_read, node_facts, value_facts, premises}
use Rattle.pl_derivation.specs.Facts.Fact.{Seen, TermValue, SeenValue}
use Rattle.pl_derivation.specs.Lines.{Line}
use Rattle.pl_derivation.specs.Lines.Line.{SeenLine, ValueLine, SeenValueLine}
use Rattle.pl_derivation.specs.Right.{after_each, seen_cells}
use Rattle.pl_derivation.specs.Walks.{is_in, finish, depth_of, facts_for, date_of, line_for, derivation}
use Rattle.pl_lookahead.specs.Derivations.{recoded}
use Rattle.pl_derivation.proofs.Codes.{kept, seen_kept}

-- ---- facts of sessions up to one

-- the fact is of sessions up to d, and what is seen from one is of none that is later
abbrev pub IsBy : ℤ → Fact → Type 0
IsBy d (Seen c a s e) = (s <ℤ e) × (e ≤ℤ d)
IsBy d (TermValue t a e) = e ≤ℤ d
IsBy d (SeenValue t a s e) = (s ≤ℤ e) × (e ≤ℤ d)

before-itself : (s : ℤ) (n : ℕ) → before s n ≤ℤ s
before-itself s n = omega (arith, ints)

-- on its own session everything is seen by then
own-by : (e d : ℤ) → e ≤ℤ d → IsSeenBy d Own e
own-by e d l = record { from = omega (arith, ints); by = l }

-- what a fact rests on is of sessions up to its own
module _ (d : ℤ) where
  abbrev By : Fact → Type 0
  By f = IsBy d f

  told-by : (g : Graph) (view : View) (t a : ℕ) (s : ℤ) → IsSeenBy d view s → By (told_fact g t a s view)
  told-by g Own t a s l = l.by
  told-by g (From v) t a s l = here (is_steady (term_at g t) || int_eq s v)
    where
      here : (b : Bool) → By (value_fact t a s (if b then Own else From v))
      here true = seen_by_here d (From v) s l
      here false = (l.from, l.by)

  window-by : (g : Graph) (view : View) (size a : ℕ) (e : ℤ) → IsSeenBy d view e → (o : Option Input) → Each By (window_facts g view size a e o)
  window-by g view size a e l None = tt
  window-by g view size a e l (Some (BarColumn c)) =
      each_in_map By (λ n. Seen c a (before e (suc n)) (seen_from view e)) (downward size) (each_all _ (downward size) (λ n. (bar-before n, l.by)))
    where
      bar-before : (n : ℕ) → before e (suc n) <ℤ seen_from view e
      bar-before n = let low : e ≤ℤ seen_from view e = l.from in omega (arith, ints)
  window-by g view size a e l (Some (TermInput t)) =
      each_in_map By (λ n. told_fact g t a (before e n) view) (downward size)
      (each_all _ (downward size) (λ n. told-by g view t a (before e n) (seen-earlier d view e (before e n) (before-itself e n) l)))

  now-by : (g : Graph) (view : View) (a : ℕ) (e : ℤ) → IsSeenBy d view e → (o : Option Input) → Each By (facts_now g view a e o)
  now-by g view a e l None = tt
  now-by g view a e l (Some (BarColumn c)) = tt
  now-by g view a e l (Some (TermInput t)) = (told-by g view t a e l, tt)

  number-by : (a : ℕ) (e : ℤ) → e ≤ℤ d → (o : Option ℕ) → Each By (number_facts a e o)
  number-by a e l None = tt
  number-by a e l (Some t) = (l, tt)

  three-by : (xs ys zs : List Fact) → Each By xs → Each By ys → Each By zs → Each By (xs ++ ys ++ zs)
  three-by xs ys zs x y z = each_both By (xs ++ ys) zs (each_both By xs ys x y) z

  inputs-by : (f : Option Input → List Fact) (n : Node) → ((o : Option Input) → Each By (f o)) → Each By (over_inputs f n)
  inputs-by f n h =
      three-by (f (slice_get n.inputs 0)) (f (slice_get n.inputs 1)) (f (slice_get n.inputs 2)) (h (slice_get n.inputs 0)) (h (slice_get n.inputs 1)) (h (slice_get n.inputs 2))

  entry-by : (g : Graph) (n : Node) (e : ℤ) → e ≤ℤ d → (b : ℕ) → Each By (entry_facts g n e b)
  entry-by g n e l b =
      three-by (number_facts b e n.mask) (number_facts b e n.group) (over_inputs (facts_now g Own b e) n) (number-by b e l n.mask) (number-by b e l n.group)
      (inputs-by (facts_now g Own b e) n (now-by g Own b e (own-by e d l)))

  module _ (w : World) (p : Pipeline) (r : Reading) where
    abbrev g : Graph
    g = p.graph

    kind-by : (n : Node) (k : Kind) (view : View) (a : ℕ) (e : ℤ) → IsSeenBy d view e → Each By (kind_facts w g n k view a e)
    kind-by n (Window k) view a e l =
        let v : View = view_of (Window k) view e in
        inputs-by (window_facts g v n.window a e) n (window-by g v n.window a e (inner-seen d w.days (Window k) view e l))
    kind-by n (Point k) view a e l =
        let v : View = view_of (Point k) view e in
        inputs-by (facts_now g v a e) n (now-by g v a e (inner-seen d w.days (Point k) view e l))
    kind-by n (LabelTest k) view a e l = inputs-by (facts_now g Own a e) n (now-by g Own a e (own-by e d (seen_by_here d view e l)))
    kind-by n (Cross k) view a e l = each_in_flat By (entry_facts g n e) (living_sids w e) (each_all _ (living_sids w e) (entry-by g n e (seen_by_here d view e l)))
    kind-by n (Downsample f) view a e l =
        let start : period_start f w.days e ≤ℤ e = start-within f w.days e in
        let here : e ≤ℤ d = seen_by_here d view e l in
        let by : period_start f w.days e ≤ℤ d = omega (arith, ints) in
        inputs-by (facts_now g Own a (period_start f w.days e)) n (now-by g Own a (period_start f w.days e) (own-by (period_start f w.days e) d by))
    kind-by n k view a e l = tt

    node-by : (n : Node) (view : View) (a : ℕ) (e : ℤ) → IsSeenBy d view e → Each By (node_facts w p r n view a e)
    node-by n view a e l = living (exists w a e)
      where
        passed : (b : Bool) → Each By (if b then kind_facts w g n n.kind view a e else [])
        passed true = kind-by n n.kind view a e l
        passed false = tt

        living : (b : Bool) → Each By (if b then number_facts a e n.mask ++ (if passes (number_read w p r n.mask) a e then kind_facts w g n n.kind view a e else []) else [])
        living true = each_both By (number_facts a e n.mask) _ (number-by a e (seen_by_here d view e l) n.mask) (passed (passes (number_read w p r n.mask) a e))
        living false = tt

    value-by : (t : ℕ) (view : View) (a : ℕ) (e : ℤ) → IsSeenBy d view e → Each By (value_facts w p r t view a e)
    value-by t view a e l = of_node (slice_get p.graph t)
      where
        of_node : (o : Option Node) → Each By (unwrap_or (option_map (λ n. node_facts w p r n view a e) o) [])
        of_node None = tt
        of_node (Some n) = node-by n view a e l

    pub premises-by : (f : Fact) → IsBy d f → Each By (premises w p r f)
    premises-by (Seen c a s e) h = tt
    premises-by (TermValue t a e) h = value-by t Own a e (own-by e d h)
    premises-by (SeenValue t a s e) h = value-by t (From e) a s (record { from = h.0; by = h.1 })

-- ---- two worlds

module _ (w v : World) (d day : ℤ) (ok : IsWorld w) (ok' : IsWorld v) (agree : SeenAlike w v d day)
    (records : (name : List ℕ) (a : ℕ) (x : ℤ) → x ≤ℤ day → known_at w.numbers name a x ≡ known_at v.numbers name a x)
    (p : Pipeline) (coded : HasTexts w) (coded' : HasTexts v) where
  pub value-same : (t a : ℕ) (e : ℤ) → e ≤ℤ d → value_of w p t a e ≡ value_of v p t a e
  value-same t a e l = law.values_agree w v d day ok ok' agree p.names (term_at p.graph t) a e l

  pub seen-same : (t a : ℕ) (s e : ℤ) → s ≤ℤ e → e ≤ℤ d → seen w p.names (term_at p.graph t) (From e) a s ≡ seen v p.names (term_at p.graph t) (From e) a s
  seen-same t a s e from by = law.seen_agree w v d day ok ok' agree p.names (term_at p.graph t) (From e) a s (record { from = from; by = by })

  -- what a code stands for is the value of the term
  read-same : (t a : ℕ) (e : ℤ) → e ≤ℤ d → term_read w p (number_in w p) Own t a e ≡ term_read v p (number_in v p) Own t a e
  read-same t a e l = kept w coded p.names (term_at p.graph t) a e ∙ value-same t a e l ∙ sym (kept v coded' p.names (term_at p.graph t) a e)

  passes-same : (o : Option ℕ) (a : ℕ) (e : ℤ) → e ≤ℤ d → passes (number_read w p (number_in w p) o) a e ≡ passes (number_read v p (number_in v p) o) a e
  passes-same None a e l = refl
  passes-same (Some t) a e l = ap holds (read-same t a e l)

  kind-same : (n : Node) (k : Kind) (view : View) (a : ℕ) (e : ℤ) → e ≤ℤ d → kind_facts w p.graph n k view a e ≡ kind_facts v p.graph n k view a e
  kind-same n (Cross k) view a e l = ap (flat_map (entry_facts p.graph n e)) (law.living_same w v d day ok ok' agree e l)
  kind-same n (Downsample f) view a e l = ap (λ s. over_inputs (facts_now p.graph Own a s) n) (reads_at-same w.days v.days d (λ i h. agree.days (pos i) h) (Downsample f) e l)
  kind-same n k view a e l = refl

  node-same : (n : Node) (view : View) (a : ℕ) (e : ℤ) → e ≤ℤ d → node_facts w p (number_in w p) n view a e ≡ node_facts v p (number_in v p) n view a e
  node-same n view a e l = rw (agree.lifetimes a e l, passes-same n.mask a e l, kind-same n n.kind view a e l) refl

  facts-same : (t : ℕ) (view : View) (a : ℕ) (e : ℤ) → e ≤ℤ d → value_facts w p (number_in w p) t view a e ≡ value_facts v p (number_in v p) t view a e
  facts-same t view a e l = of_node (slice_get p.graph t)
    where
      of_node : (o : Option Node) → unwrap_or (option_map (λ n. node_facts w p (number_in w p) n view a e) o) [] ≡ unwrap_or (option_map (λ n. node_facts v p (number_in v p) n view a e) o) []
      of_node None = refl
      of_node (Some n) = node-same n view a e l

  premises-same : (f : Fact) → IsBy d f → premises w p (number_in w p) f ≡ premises v p (number_in v p) f
  premises-same (Seen c a s e) h = refl
  premises-same (TermValue t a e) h = facts-same t Own a e h
  premises-same (SeenValue t a s e) h = facts-same t (From e) a s (let from : s ≤ℤ e = h.0 in let by : e ≤ℤ d = h.1 in omega (arith, ints))

  -- ---- walks

  abbrev behind : World → Fact → List Fact
  behind u f = premises u p (number_in u p) f

  abbrev Walks : ℕ → Type 0
  Walks depth = (done : List Fact) (f : Fact) → IsBy d f → finish w p depth done f ≡ finish v p depth done f

  fold-same : (depth : ℕ) → Walks depth → (done fs : List Fact) → Each (IsBy d) fs → fold (finish w p depth) done fs ≡ fold (finish v p depth) done fs
  fold-same depth one done [] h = refl
  fold-same depth one done (f ∷ fs) h = ap (λ out. fold (finish w p depth) out fs) (one done f h.0) ∙ fold-same depth one (finish v p depth done f) fs h.1

  walk-same : (depth : ℕ) → Walks depth
  walk-same zero done f h = refl
  walk-same (suc depth) done f h =
      ap (λ out. if is_in done f then done else out ++ f ∷ [])
      (fold-same depth (walk-same depth) done (behind w f) (premises-by d w p (number_in w p) f h) ∙ ap (fold (finish v p depth) done) (premises-same f h))

  -- what a walk finishes is of sessions up to d
  abbrev Stays : ℕ → Type 0
  Stays depth = (done : List Fact) (f : Fact) → Each (IsBy d) done → IsBy d f → Each (IsBy d) (finish v p depth done f)

  fold-by : (depth : ℕ) → Stays depth → (done fs : List Fact) → Each (IsBy d) done → Each (IsBy d) fs → Each (IsBy d) (fold (finish v p depth) done fs)
  fold-by depth one done [] g h = g
  fold-by depth one done (f ∷ fs) g h = fold-by depth one (finish v p depth done f) fs (one done f g h.0) h.1

  walk-by : (depth : ℕ) → Stays depth
  walk-by zero done f g h = g
  walk-by (suc depth) done f g h =
      step (is_in done f) (fold-by depth (walk-by depth) done (behind v f) g (premises-by d v p (number_in v p) f h))
    where
      step : (b : Bool) → Each (IsBy d) (fold (finish v p depth) done (behind v f)) → Each (IsBy d) (if b then done else fold (finish v p depth) done (behind v f) ++ f ∷ [])
      step true i = g
      step false i = each_both (IsBy d) _ (f ∷ []) i (h, tt)

  -- ---- lines

  date-same : (e : ℤ) → e ≤ℤ d → date_of w e ≡ date_of v e
  date-same e l = ap (λ o. unwrap_or o (pos 0)) (agree.days e l)

  cells-same : (a : ℕ) (c : Column) (s e : ℤ) → s <ℤ e → e ≤ℤ d → seen_cells w a c s e ≡ seen_cells v a c s e
  cells-same a c s e before_e by_d =
      let bars : bar_cell w a c s ≡ bar_cell v a c s = agree.bars a c s (omega (arith, ints)) in
      let day_s : day_of w s ≡ day_of v s = agree.days s (omega (arith, ints)) in
      let day_e : day_of w e ≡ day_of v e = agree.days e by_d in
      let rows : effects w a c s e ≡ effects v a c s e =
      between_same w v d day ok ok' agree a c (day_of w s) (day_of w e) (λ x at_e. day_by w ok e d x day by_d at_e agree.is_day)
      ∙ ap (λ o. effects_from c o (day_of w e) (events_of v a)) day_s ∙ ap (λ o. effects_from c (day_of v s) o (events_of v a)) day_e in
      ap (λ x. after_each x (effects w a c s e)) bars ∙ ap (after_each (bar_cell v a c s)) rows

  kind_known-same : (k : Kind) (a : ℕ) (e : ℤ) → e ≤ℤ d → kind_known w p k a e ≡ kind_known v p k a e
  kind_known-same (kinds.Number f n) a e l = on_day (day_of w e) refl ∙ ap (option_and_then (known_at v.numbers (name_at p.names n) a)) (agree.days e l)
    where
      on_day : (o : Option ℤ) → day_of w e ≡ o → option_and_then (known_at w.numbers (name_at p.names n) a) o ≡ option_and_then (known_at v.numbers (name_at p.names n) a) o
      on_day None at = refl
      on_day (Some x) at = records (name_at p.names n) a x (day_by w ok e d x day l at agree.is_day)
  kind_known-same k a e l = refl

  known-same : (t a : ℕ) (e : ℤ) → e ≤ℤ d → known_day w p (TermValue t a e) ≡ known_day v p (TermValue t a e)
  known-same t a e l =
      ap (λ b. if b then known_of w (slice_get p.graph t) else None) (agree.lifetimes a e l)
      ∙ ap (λ o. if exists v a e then o else None) (of_node (slice_get p.graph t))
    where
      known_of : World → Option Node → Option ℤ
      known_of u o = option_and_then (λ (n : Node). kind_known u p n.kind a e) o

      of_node : (o : Option Node) → known_of w o ≡ known_of v o
      of_node None = refl
      of_node (Some n) = kind_known-same n.kind a e l

  line-same : (f : Fact) → IsBy d f → line_for w p f ≡ recoded p v.texts w.texts (line_for v p f)
  line-same (Seen c a s e) h =
      ap (λ x. SeenLine c a x (date_of w e) (seen_cells w a c s e)) (date-same s (let b : s <ℤ e = h.0 in let l : e ≤ℤ d = h.1 in omega (arith, ints)))
      ∙ ap (λ x. SeenLine c a (date_of v s) x (seen_cells w a c s e)) (date-same e h.1)
      ∙ ap (SeenLine c a (date_of v s) (date_of v e)) (cells-same a c s e h.0 h.1)
  line-same (TermValue t a e) h =
      ap (λ x. ValueLine t a x (in_array w.texts (value_of w p t a e)) (known_day w p (TermValue t a e))) (date-same e h)
      ∙ ap (λ x. ValueLine t a (date_of v e) (in_array w.texts x) (known_day w p (TermValue t a e)))
      (value-same t a e h ∙ sym (kept v coded' p.names (term_at p.graph t) a e))
      ∙ ap (ValueLine t a (date_of v e) (in_array w.texts (term_read v p (number_in v p) Own t a e))) (known-same t a e h)
  line-same (SeenValue t a s e) h =
      let from : s ≤ℤ e = h.0 in
      let by : e ≤ℤ d = h.1 in
      let x : Value = seen w p.names (term_at p.graph t) (From e) a s in
      ap (λ y. SeenValueLine t a y (date_of w e) (in_array w.texts x)) (date-same s (omega (arith, ints)))
      ∙ ap (λ y. SeenValueLine t a (date_of v s) y (in_array w.texts x)) (date-same e by)
      ∙ ap (λ y. SeenValueLine t a (date_of v s) (date_of v e) (in_array w.texts y)) (seen-same t a s e from by ∙ sym (seen_kept v coded' p.names (term_at p.graph t) (From e) a s))

  -- the same lines, with codes of the first world
  pub lines-same : (t a : ℕ) (e : ℤ) → e ≤ℤ d → derivation w p t a e ≡ map (recoded p v.texts w.texts) (derivation v p t a e)
  lines-same t a e l =
      let f : Fact = TermValue t a e in
      ap (map (line_for w p)) (walk-same (depth_of f) [] f l)
      ∙ map_each (line_for w p) (λ g. recoded p v.texts w.texts (line_for v p g)) (facts_for v p f)
      (each_more (IsBy d) _ (facts_for v p f) line-same (walk-by (depth_of f) [] f tt l))
      ∙ sym (maps (recoded p v.texts w.texts) (line_for v p) (facts_for v p f))
    where
      maps : (g : Line → Line) (h : Fact → Line) (fs : List Fact) → map g (map h fs) ≡ map (λ f. g (h f)) fs
      maps g h [] = refl
      maps g h (x ∷ xs) = ap (λ l. g (h x) ∷ l) (maps g h xs)

  -- and the same bytes where values have the same codes
  module _ (codes : (t a : ℕ) (e : ℤ) → e ≤ℤ d → in_array w.texts (value_of w p t a e) ≡ in_array v.texts (value_of w p t a e))
      (seen_codes : (t a : ℕ) (s e : ℤ) → s ≤ℤ d → in_array w.texts (seen w p.names (term_at p.graph t) (From e) a s) ≡ in_array v.texts (seen w p.names (term_at p.graph t) (From e) a s)) where
    line-one : (f : Fact) → IsBy d f → line_for w p f ≡ line_for v p f
    line-one (Seen c a s e) h = line-same (Seen c a s e) h
    line-one (TermValue t a e) h =
        ap (λ x. ValueLine t a x (in_array w.texts (value_of w p t a e)) (known_day w p (TermValue t a e))) (date-same e h)
        ∙ ap (λ x. ValueLine t a (date_of v e) x (known_day w p (TermValue t a e))) (codes t a e h ∙ ap (in_array v.texts) (value-same t a e h))
        ∙ ap (ValueLine t a (date_of v e) (in_array v.texts (value_of v p t a e))) (known-same t a e h)
    line-one (SeenValue t a s e) h =
        let from : s ≤ℤ e = h.0 in
        let by : e ≤ℤ d = h.1 in
        let here : s ≤ℤ d = omega (arith, ints) in
        let x : Value = seen w p.names (term_at p.graph t) (From e) a s in
        ap (λ y. SeenValueLine t a y (date_of w e) (in_array w.texts x)) (date-same s here)
        ∙ ap (λ y. SeenValueLine t a (date_of v s) y (in_array w.texts x)) (date-same e by)
        ∙ ap (SeenValueLine t a (date_of v s) (date_of v e)) (seen_codes t a s e here ∙ ap (in_array v.texts) (seen-same t a s e from by))

    pub lines-one : (t a : ℕ) (e : ℤ) → e ≤ℤ d → derivation w p t a e ≡ derivation v p t a e
    lines-one t a e l =
        let f : Fact = TermValue t a e in
        ap (map (line_for w p)) (walk-same (depth_of f) [] f l)
        ∙ map_each (line_for w p) (line_for v p) (facts_for v p f) (each_more (IsBy d) _ (facts_for v p f) line-one (walk-by (depth_of f) [] f tt l))
