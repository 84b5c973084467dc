-- What the functions of a walk leave, from what those that they call leave.
use Rattle.std.proofs.Common.{◌≡◌, ℕ, suc, ◌+◌, ◌<◌, ◌≤◌, ◌==◌, Bool, true, false, ℤ, pos, ◌≤ℤ◌, All, List, [], ◌∷◌, ◌++◌, length, map, take, drop, append-nil, get_or, Option, Some, None, option_map, unwrap_or, slice_get, Result, Ok, Err, refl, sym, ◌∙◌, ap, subst, arith, IsErrAnd}
use Rattle.std.specs.List.{list_any}
use Rattle.std.specs.Int.RustNames.{int_lt}
use Rattle.std.proofs.lemmas.Int.{ints}
use Rattle.std.proofs.lemmas.Bool.{and_parts, and_from, eq-eqb}
use Rattle.std.proofs.lemmas.List.Folds.{list_any_at}
use Rattle.std.proofs.lemmas.List.{take_more, take-append-drop, map-append}
use Rattle.std.proofs.lemmas.Option.{slice_get_within, slice_get-get_or, get_or_from_slice_get, same_Some}
use Rattle.pl_spec.specs.Limits.{most_lines}
use Rattle.pl_spec.specs.declared.AssetRow.{AssetRow}
use Rattle.pl_spec.specs.declared.Column.{Column}
use Rattle.pl_spec.specs.Rounding.{IsCell}
use Rattle.pl_spec.specs.Parts.{sid_at}
use Rattle.pl_spec.specs.World.{World as SpecWorld, exists, bar_cell}
use Rattle.pl_spec.specs.Window.{Effect, effects}
use Rattle.pl_pipeline.specs.Term.{term_at}
use Rattle.pl_pipeline.specs.Graph.{reach}
use Rattle.pl_terms.specs.declared.node.Node.{Node}
use Rattle.pl_terms.specs.Checked.{Parts, pipeline_of, IsChecked}
use Rattle.pl_terms.specs.Nodes.{graph_of, number_of}
use Rattle.pl_terms.specs.Uses.{is_used}
use Rattle.pl_cross.specs.Arrays.{HasTexts}
use Rattle.pl_derivation.specs.declared.error.ExplainError.{ExplainError}
use Rattle.pl_derivation.specs.declared.error.ExplainError.TheVariants.{Memory, TooLong}
use Rattle.pl_derivation.specs.declared.line.Line.{Line}
use Rattle.pl_derivation.specs.Listed.{line_of}
use Rattle.pl_derivation.specs.Lines.Line.{SeenLine, ValueLine, SeenValueLine}
use Rattle.pl_derivation.specs.Texts.{AreCells, AreWritable, IsWritable}
use Rattle.pl_spec.proofs.Columns.{no_asset, sid-there}
use Rattle.pl_spec.proofs.Each.{Each, each_front, each_back, each_of_map, each_at}
use Rattle.pl_derivation.specs.Facts.{Fact, known_day, number_in, number_facts, premises, value_fact}
use Rattle.pl_derivation.specs.Facts.Fact.{Seen, TermValue, SeenValue}
use Rattle.pl_world.specs.Views.{view_at}
use Rattle.pl_derivation.specs.Laws as laws
use Rattle.pl_derivation.specs.Right.{after_each, has_sid, is_fitting, seen_cells}
use Rattle.pl_derivation.specs.Walks.{is_in, line_for, depth_of, derivation}
use Rattle.pl_derivation.proofs.Walking.{complete, walked}
use Rattle.pl_derivation.proofs.Lean.{walk_is_lean}
use Rattle.pl_derivation.specs.Lean.{IsLean}
use Rattle.pl_world.specs.declared.world.World.{World}
use Rattle.pl_world.specs.Worlds.{world_of, PartsMakeAWorld}
use Rattle.pl_terms.specs.declared.node.TermId.{TermId}
use Rattle.pl_explain.specs.declared.fact.Fact as code
use Rattle.pl_explain.specs.declared.fact_numbers.FactNumbers.{FactNumbers}
use Rattle.pl_explain.specs.declared.rows.Rows.{Rows}
use Rattle.pl_explain.specs.Keys.{fact_of}
use Rattle.pl_explain.specs.Given.{facts_read, given, has, has_all, mask_passes, own_facts, KeepsRows}
use Rattle.pl_explain.proofs.Given.{given-yes}
use Rattle.pl_explain.proofs.Values.{premises-front, premises-masked}
use Rattle.pl_explain.specs.declared.walk.Walk.{Walk}
use Rattle.pl_explain.specs.Judging.{IsTable}
use Rattle.pl_explain.specs.Walking.{MayBeDerived, CanBeDerivedWithin, HasWalked, HoldsSoFar, Finishes, IsPut, IsTooLong, IsWalkTo}
use Rattle.pl_explain.proofs.Behind.{premises-stand, sessions-held}
use Rattle.pl_explain.proofs.Standing.{stands-more}
use Rattle.pl_explain.proofs.Walks.{walk-both, walk-states, walk-more, long-front, long-back, long-first, long-last, deeper, deeper-long}

-- want of memory says nothing of the lines
pub no-memory : {T : Type 0} (w : World) (c : Parts) (most : ℕ) (fs : List Fact) (old new : Walk) (r : Result T ExplainError) → IsErrAnd r (λ e. e ≡ Memory) → IsWalkTo w c most fs old new r
no-memory w c most fs old new (Ok x) h = absurd h
no-memory w c most fs old new (Err e) h = record { stands = tt; finished = tt; long = λ i. absurd (let bad : Memory ≡ TooLong = sym h ∙ i in cc) }

-- what a walk has finished is stated
pub stated-now : (w : World) (c : Parts) (t : ℕ) (old new : Walk) (fs : List Fact) → HoldsSoFar w c old → Finishes w c (t + 1) old new fs → has_all new.stated fs ≡ true
stated-now w c t old new fs from first = let one : t + 1 ≡ suc t = omega arith in walk-states w c t old new fs from (subst (λ k. Finishes w c k old new fs) one first)

-- ---- facts, one by one

module _ (facts : List code.Fact) (i : ℕ) (f : code.Fact) (at : slice_get facts i ≡ Some f) where
  pub passed-more : map fact_of (take (i + 1) facts) ≡ map fact_of (take i facts) ++ fact_of f ∷ []
  passed-more =
      ap (map fact_of) (take_more facts i f (slice_get_within facts i f at)) ∙ map-append fact_of (take i facts) (get_or facts i f ∷ [])
      ∙ ap (λ x. map fact_of (take i facts) ++ fact_of x ∷ []) (get_or_from_slice_get facts i f f at)

  pub passed-rest : map fact_of facts ≡ (map fact_of (take i facts) ++ fact_of f ∷ []) ++ map fact_of (drop (i + 1) facts)
  passed-rest =
      ap (map fact_of) (sym (take-append-drop (i + 1) facts)) ∙ map-append fact_of (take (i + 1) facts) (drop (i + 1) facts)
      ∙ ap (λ l. l ++ map fact_of (drop (i + 1) facts)) passed-more

  module _ (w : World) (c : Parts) (most : ℕ) (stand : Each (CanBeDerivedWithin w c most) (map fact_of facts)) where
    pub all-stand : CanBeDerivedWithin w c most (fact_of f)
    all-stand = each_at (λ x. CanBeDerivedWithin w c most (fact_of x)) facts i f (each_of_map (CanBeDerivedWithin w c most) fact_of facts stand) at

    module _ (old mid : Walk) (first : Finishes w c most old mid (map fact_of (take i facts))) where
      pub all-more : (new : Walk) → Finishes w c (depth_of (fact_of f)) mid new (fact_of f ∷ []) → Finishes w c most old new (map fact_of (take (i + 1) facts))
      all-more new next = subst (λ fs. Finishes w c most old new fs) (sym passed-more)
          (walk-both w c most old mid new (map fact_of (take i facts)) (fact_of f ∷ []) first (deeper w c (depth_of (fact_of f)) most mid new (fact_of f ∷ []) all-stand.1 next))

      pub all-long : IsTooLong w c (depth_of (fact_of f)) mid (fact_of f ∷ []) → IsTooLong w c most old (map fact_of facts)
      all-long long = subst (λ fs. IsTooLong w c most old fs) (sym passed-rest)
          (long-front w c most old (map fact_of (take i facts) ++ fact_of f ∷ []) (map fact_of (drop (i + 1) facts))
          (long-back w c most old mid (map fact_of (take i facts)) (fact_of f ∷ []) first (deeper-long w c (depth_of (fact_of f)) most mid (fact_of f ∷ []) all-stand.1 long)))

-- ---- lines

pub cells-all : (xs : List ℤ) → All IsCell xs → AreCells xs
cells-all [] h = tt
cells-all (x ∷ xs) h = (h 0 x (omega arith), cells-all xs (λ k d l. h (suc k) d (omega (arith, l))))

some-after : (x : ℤ) (fs : List Effect) → 1 ≤ length (after_each x fs)
some-after x [] = omega arith
some-after x (f ∷ fs) = omega arith

pub some-cells : (w : SpecWorld) (a : ℕ) (k : Column) (s d : ℤ) → 1 ≤ length (seen_cells w a k s d)
some-cells w a k s d = some-after (bar_cell w a k s) (effects w a k s d)

module _ (w : World) (c : Parts) where
  pub value-line : (t a d : ℕ) (day x : ℤ) (known : Option ℤ) → slice_get w.sessions.now d ≡ Some day → x ≡ number_in (world_of w) (pipeline_of c) (TermValue t a (pos d))
      → known ≡ known_day (world_of w) (pipeline_of c) (TermValue t a (pos d)) → ValueLine t a day x known ≡ line_for (world_of w) (pipeline_of c) (TermValue t a (pos d))
  value-line t a d day x known at is since =
      ap (λ y. ValueLine t a day y known) is ∙ ap (ValueLine t a day (number_in (world_of w) (pipeline_of c) (TermValue t a (pos d)))) since
      ∙ ap (λ o. ValueLine t a (unwrap_or o (pos 0)) (number_in (world_of w) (pipeline_of c) (TermValue t a (pos d))) (known_day (world_of w) (pipeline_of c) (TermValue t a (pos d)))) (sym at)

  pub seen-line : (t a s d : ℕ) (own day x : ℤ) → slice_get w.sessions.now s ≡ Some own → slice_get w.sessions.now d ≡ Some day → x ≡ number_in (world_of w) (pipeline_of c) (SeenValue t a (pos s) (pos d))
      → SeenValueLine t a own day x ≡ line_for (world_of w) (pipeline_of c) (SeenValue t a (pos s) (pos d))
  seen-line t a s d own day x at_own at is =
      let y : ℤ = number_in (world_of w) (pipeline_of c) (SeenValue t a (pos s) (pos d)) in
      ap (λ y. SeenValueLine t a own day y) is ∙ ap (λ o. SeenValueLine t a own (unwrap_or o (pos 0)) y) (sym at)
      ∙ ap (λ o. SeenValueLine t a (unwrap_or o (pos 0)) (unwrap_or (slice_get w.sessions.now d) (pos 0)) y) (sym at_own)

  pub bar-line : (k : Column) (a s d : ℕ) (bar_day day : ℤ) (cells : List ℤ) → slice_get w.sessions.now s ≡ Some bar_day → slice_get w.sessions.now d ≡ Some day
      → cells ≡ seen_cells (world_of w) a k (pos s) (pos d) → SeenLine k a bar_day day cells ≡ line_for (world_of w) (pipeline_of c) (Seen k a (pos s) (pos d))
  bar-line k a s d bar_day day cells at_bar at is =
      ap (λ y. SeenLine k a bar_day day y) is ∙ ap (λ o. SeenLine k a bar_day (unwrap_or o (pos 0)) (seen_cells (world_of w) a k (pos s) (pos d))) (sym at)
      ∙ ap (λ o. SeenLine k a (unwrap_or o (pos 0)) (unwrap_or (slice_get w.sessions.now d) (pos 0)) (seen_cells (world_of w) a k (pos s) (pos d))) (sym at_bar)

-- ---- bars that may stand

less-of : (s d : ℕ) → int_lt (pos s) (pos d) ≡ true → s < d
less-of s d h = grind (arith, ints)

module _ (w : World) (c : Parts) (k : Column) (a s d : ℕ) (h : MayBeDerived w c (Seen k a (pos s) (pos d))) where
  pub seen-sid : has_sid (world_of w) a ≡ true
  seen-sid = (and_parts (has_sid (world_of w) a) (int_lt (pos s) (pos d)) h.0).0

  pub seen-earlier : s < d
  seen-earlier = less-of s d (and_parts (has_sid (world_of w) a) (int_lt (pos s) (pos d)) h.0).1

  pub seen-day : d < length w.sessions.now
  seen-day = let l = slice_get_within w.sessions.now h.2.0 h.2.1 h.2.3 in let e : pos d ≡ pos h.2.0 = h.2.2 in omega (arith, ints, l, e)

-- ---- a walk with other rows

module _ (w : World) (c : Parts) (mid new : Walk) (same : new.stated ≡ mid.stated) (lines : new.lines ≡ mid.lines) where
  items : new.lines.items ≡ mid.lines.items
  items = ap (λ v. v.items) lines

  other-walked : (facts : List Fact) → HasWalked w c mid facts → HasWalked w c new facts
  other-walked facts h = record {
    stated = subst (λ (t : FactNumbers). (f : Fact) → has t f ≡ is_in facts f) (sym same) h.stated;
    lines = subst (λ (ls : List Line). map line_of ls ≡ map (line_for (world_of w) (pipeline_of c)) facts) (sym items) h.lines;
  }

  pub other-finished : (most : ℕ) (old : Walk) (fs : List Fact) → Finishes w c most old mid fs → Finishes w c most old new fs
  other-finished most old fs first facts h depth l = other-walked _ (first facts h depth l)

  pub other-stands : HoldsSoFar w c mid → KeepsRows w c mid.stated new.rows → HoldsSoFar w c new
  other-stands h kept = record {
    facts = h.facts;
    walked = other-walked h.facts h.walked;
    table = subst (λ (t : FactNumbers). IsTable w c t new.rows) (sym same) (record { ready = h.table.ready; truth = h.table.truth; fits = h.table.fits; kept = kept });
    writable = subst (λ (ls : List Line). AreWritable (map line_of ls)) (sym items) h.writable;
    few = subst (λ (ls : List Line). length ls ≤ most_lines) (sym items) h.few;
  }

-- ---- a fact that is put after its premises

abbrev own_of : World → Parts → Fact → List Fact
own_of w c f = premises (world_of w) (pipeline_of c) (number_in (world_of w) (pipeline_of c)) f

module _ (w : World) (c : Parts) (most : ℕ) (f : Fact) (old mid new : Walk) (fresh : has old.stated f ≡ false) (first : Finishes w c most old mid (own_of w c f))
    (line : Line) (x : ℤ) (is : line_of line ≡ line_for (world_of w) (pipeline_of c) f) where
  module _ (deep : ℕ) (depth : suc most ≤ deep) where
    pub put-walked : {T : Type 0} (r : Result T ExplainError) → HoldsSoFar w c old → HoldsSoFar w c mid → IsWritable (line_of line)
        → x ≡ number_in (world_of w) (pipeline_of c) f → IsCell x → is_fitting (world_of w) (pipeline_of c) f ≡ true → IsPut f x line mid new r → IsWalkTo w c deep (f ∷ []) old new r
    put-walked (Ok u) from stands text value cell fits h = record {
      stands = stands-more w c most f old mid new line x from fresh first stands h.stated h.lines is text (subst (λ (q : Rows). IsTable w c mid.stated q) (sym h.rows) stands.table) value cell fits h.few;
      finished = deeper w c (suc most) deep old new (f ∷ []) depth (walk-more w c most f old fresh mid new line x h.stated h.lines is first);
      long = tt;
    }
    put-walked (Err e) from stands text value cell fits h = record {
      stands = tt;
      finished = tt;
      long = λ i. deeper-long w c (suc most) deep old (f ∷ []) depth (long-last w c most f old fresh mid first (h.long i));
    }

-- where there is no room for its premises
module _ (w : World) (c : Parts) (t : ℕ) (f : Fact) (old : Walk) (fresh : has old.stated f ≡ false) where
  pub own-long : IsTooLong w c (t + 1) old (own_of w c f) → IsTooLong w c (t + 2) old (f ∷ [])
  own-long long = deeper-long w c (suc (t + 1)) (t + 2) old (f ∷ []) (omega arith) (long-first w c (t + 1) f old fresh long)

-- ---- premises

-- the mask that was read
pub mask-is : (m : Option TermId) (s sid a : ℕ) (xs ys : List code.Fact) → xs ≡ ys → map fact_of ys ≡ number_facts sid (pos s) (option_map number_of m) → sid ≡ a → map fact_of xs ≡ number_facts a (pos s) (option_map number_of m)
mask-is m s sid a xs ys e h same = ap (map fact_of) e ∙ h ∙ ap (λ b. number_facts b (pos s) (option_map number_of m)) same

module _ {w : World} {c : Parts} {old : Walk} (from : HoldsSoFar w c old) (t : ℕ) (n : Node) (is : slice_get c.graph t ≡ Some n) (a s : ℕ) (view : Option ℕ) (there : exists (world_of w) a (pos s) ≡ true)
    (read : List Fact) (same : read ≡ number_facts a (pos s) (option_map number_of n.mask)) where
  abbrev own : List Fact
  own = own_facts w c t a s view

  front : (rest : List Fact) × (own ≡ read ++ rest)
  front =
      let f = premises-front w c from.table.ready.checked t n is a s view from.table.ready.texts there in
      (f.0, f.1 ∙ ap (λ l. l ++ f.0) (sym same))

  kept : mask_passes w c n.mask a s ≡ true → own ≡ read ++ facts_read w c t a s view
  kept passed = premises-masked w c from.table.ready.checked t n is a s view from.table.ready.texts there true passed ∙ ap (λ l. l ++ facts_read w c t a s view) (sym same)

  pub mask-stands : MayBeDerived w c (value_fact t a (pos s) (view_at view)) → Each (CanBeDerivedWithin w c (t + 1)) read
  mask-stands h = each_front (CanBeDerivedWithin w c (t + 1)) read front.0 (subst (λ fs. Each (CanBeDerivedWithin w c (t + 1)) fs) front.1 (premises-stand w c from.table.ready.checked t a s view h))

  pub mask-long : IsTooLong w c (t + 1) old read → IsTooLong w c (t + 1) old own
  mask-long long = subst (λ fs. IsTooLong w c (t + 1) old fs) (sym front.1) (long-front w c (t + 1) old read front.0 long)

  module _ (mid : Walk) (first : Finishes w c (t + 1) old mid read) (o : Option Bool) (stated : o ≡ given mid.stated (number_facts a (pos s) (option_map number_of n.mask)) (mask_passes w c n.mask a s)) where
    known : o ≡ Some (mask_passes w c n.mask a s)
    known = stated ∙ given-yes mid.stated (number_facts a (pos s) (option_map number_of n.mask)) (mask_passes w c n.mask a s) (ap (has_all mid.stated) (sym same) ∙ stated-now w c t old mid read from first)

    passed : (b : Bool) → o ≡ Some b → mask_passes w c n.mask a s ≡ b
    passed b e = sym (same_Some b (mask_passes w c n.mask a s) (sym e ∙ known))

    pub mask-known : o ≡ None → ⊥
    mask-known e = let bad : None ≡ Some (mask_passes w c n.mask a s) = sym e ∙ known in cc

    pub facts-stand : o ≡ Some true → MayBeDerived w c (value_fact t a (pos s) (view_at view)) → Each (CanBeDerivedWithin w c (t + 1)) (facts_read w c t a s view)
    facts-stand e h =
        each_back (CanBeDerivedWithin w c (t + 1)) read (facts_read w c t a s view)
        (subst (λ fs. Each (CanBeDerivedWithin w c (t + 1)) fs) (kept (passed true e)) (premises-stand w c from.table.ready.checked t a s view h))

    pub stopped-finished : o ≡ Some false → Finishes w c (t + 1) old mid own
    stopped-finished e =
        let barred = premises-masked w c from.table.ready.checked t n is a s view from.table.ready.texts there false (passed false e) in
        subst (λ fs. Finishes w c (t + 1) old mid fs) (sym (barred ∙ ap (λ l. l ++ []) (sym same) ∙ append-nil read)) first

    pub passed-walked : o ≡ Some true → {T : Type 0} (new : Walk) (r : Result T ExplainError) → IsWalkTo w c (t + 1) (facts_read w c t a s view) mid new r → IsWalkTo w c (t + 1) own old new r
    passed-walked e new (Ok u) h = record {
      stands = h.stands;
      finished = subst (λ fs. Finishes w c (t + 1) old new fs) (sym (kept (passed true e))) (walk-both w c (t + 1) old mid new read (facts_read w c t a s view) first h.finished);
      long = tt;
    }
    passed-walked e new (Err x) h = record {
      stands = tt;
      finished = tt;
      long = λ i. subst (λ fs. IsTooLong w c (t + 1) old fs) (sym (kept (passed true e))) (long-back w c (t + 1) old mid read (facts_read w c t a s view) first (h.long i));
    }

-- ---- the value that is asked for

sid-known : (assets : List AssetRow) (col : ℕ) → col < length assets → list_any (λ (x : AssetRow). x.sid == sid_at assets col) assets ≡ true
sid-known assets col l =
    list_any_at (λ (x : AssetRow). x.sid == sid_at assets col) assets col no_asset l (eq-eqb (get_or assets col no_asset).sid (sid_at assets col) (sym (sid-there assets col l)))

module _ (w : World) (c : Parts) (t col d : ℕ) (used : is_used (pipeline_of c) t ≡ true) (place : col < length w.assets.now) (session : d < length w.sessions.now)
    (reached : pos 0 ≤ℤ reach w.sessions.now (term_at (graph_of c.graph) t) (pos d)) where
  day : slice_get w.sessions.now d ≡ Some (get_or w.sessions.now d (pos 0))
  day = slice_get-get_or w.sessions.now d (pos 0) session

  pub asked-stands : MayBeDerived w c (TermValue t (sid_at w.assets.now col) (pos d))
  asked-stands = (and_from (has_sid (world_of w) (sid_at w.assets.now col)) (is_used (pipeline_of c) t) (sid-known w.assets.now col place) used, (d, get_or w.sessions.now d (pos 0), refl, day), reached)

  pub asked-right : IsChecked (pipeline_of c) → HasTexts (world_of w) → PartsMakeAWorld w
      → laws.IsDerivation (world_of w) (pipeline_of c) t (sid_at w.assets.now col) d (derivation (world_of w) (pipeline_of c) t (sid_at w.assets.now col) (pos d))
  asked-right checked known made =
      complete (world_of w) (pipeline_of c) made.world known checked.graph (sessions-held c checked) t (sid_at w.assets.now col) d
      (record { used = used; known = sid-known w.assets.now col place; day = get_or w.sessions.now d (pos 0); session = day; reached = reached })

  pub asked-lean : IsChecked (pipeline_of c) → HasTexts (world_of w) → PartsMakeAWorld w
      → IsLean (world_of w) (pipeline_of c) (derivation (world_of w) (pipeline_of c) t (sid_at w.assets.now col) (pos d))
  asked-lean checked known made =
      let asked : laws.IsAsked (world_of w) (pipeline_of c) t (sid_at w.assets.now col) d
      = record { used = used; known = sid-known w.assets.now col place; day = get_or w.sessions.now d (pos 0); session = day; reached = reached } in
      let facts = walked (world_of w) (pipeline_of c) made.world known checked.graph (sessions-held c checked) t (sid_at w.assets.now col) d asked in
      walk_is_lean (world_of w) (pipeline_of c) (suc t) (TermValue t (sid_at w.assets.now col) (pos d)) facts.0 facts.1 (asked-right checked known made).once
