-- Cells of earlier sessions, computed anew as they are seen on the day.
use Rattle.std.proofs.Common.{◌≡◌, ℕ, suc, ◌+◌, ◌-◌, ◌<◌, ◌≤◌, ◌==◌, inl, inr, slice_set, Bool, true, false, ℤ, pos, negsuc, List, [], ◌∷◌, Some, length, map, get_or, slice_get, refl, sym, subst, ◌∙◌, ap, arith, All, nat_lt, if◌then◌else◌}
use Rattle.std.proofs.lemmas.Bool.{cases_eq, cases_lt, eq-eqb, ne_eqb, true≢false}
use Rattle.std.proofs.lemmas.Bool.Decides.{nat_tests}
use Rattle.std.proofs.lemmas.Int.{ints}
use Rattle.std.proofs.lemmas.List.{ext_get_or}
use Rattle.pl_spec.specs.Cells.{is_true}
use Rattle.pl_spec.specs.Rounding.{IsCell}
use Rattle.pl_spec.specs.Window.{before, downward}
use Rattle.pl_spec.proofs.Windows.{before-pos}
use Rattle.pl_pipeline.specs.Kind.{Kind, PointKind}
use Rattle.pl_pipeline.specs.Kind.Kind.{Point, Window}
use Rattle.pl_pipeline.specs.Table.{in_array}
use Rattle.pl_pipeline.specs.Term.{term_at}
use Rattle.pl_pipeline.specs.Term.Input.{TermInput}
use Rattle.pl_pipeline.specs.Value.{From, keeps_point, sort_kind}
use Rattle.pl_pipeline.proofs.Steady.{steady-own}
use Rattle.pl_laws.proofs.Views.{from-itself}
use Rattle.pl_terms.specs.Sorts.{is_windowed}
use Rattle.pl_terms.specs.declared.row.Family.{Family}
use Rattle.pl_terms.specs.declared.row.Family.TheVariants as families
use Rattle.pl_cross.specs.Arrays.{sid_in}
use Rattle.pl_planner.proofs.Pipelines.{is-pipeline}
use Rattle.pl_pointwise.specs.Operands.{AreOperands, IsOperation, operation}
use Rattle.pl_values.specs.Arrays.{cell_of, chosen, empty_cell, is_kept}
use Rattle.pl_values.specs.Families.{IsOf}
use Rattle.pl_values.specs.Views.{keeps_kind, operand_seen, seen_of}
use Rattle.pl_values.proofs.Formulas.{length-below}
use Rattle.pl_values.proofs.Numbers.{empty_is}
use Rattle.pl_values.proofs.Viewed.{seen-point-cell, unkept-seen}
use Rattle.pl_daily.specs.Changes.{Ring, ring_at}
use Rattle.pl_daily.specs.declared.term_day.TermCells.{TermCells}
use Rattle.pl_daily.specs.declared.term_day.TermDay.{TermDay}
use Rattle.pl_daily.specs.Earlier.{IsHeldBack, IsReadBack, IsRenewed, IsSeenGiven, IsSeenOperand, keeps_back, nth_back, passes_back, passes_on}
use Rattle.pl_daily.specs.Rows.{capacity_of}
use Rattle.pl_daily.specs.TermDays.{Moment, HoldsRings, HoldsWindows, IsTermDay, assets_at, cell_on, earlier_cell, node_at, pipeline_at, seen_on, sids_at}
use Rattle.pl_daily.specs.Windows.{windowed_by}
use Rattle.circular_buffer.specs.Buffer.{buffer}
use Rattle.pl_daily.proofs.Cells.{IsBegun, set_at}
use Rattle.pl_daily.proofs.Earlier.{moved_given, ring_there}
use Rattle.pl_daily.proofs.Endings.{nth-downward, nth_back-is}
use Rattle.pl_daily.proofs.Moving.{mask-steady}
use Rattle.pl_daily.proofs.SeenDays.{seen_below}
use Rattle.pl_daily.proofs.DayByDay.{nobody_is}

-- ---- a cell of a ring

module _ (t : TermDay) (v : Moment) (u : ℕ) (known : u < length t.terms.now) (held : HoldsRings t v u) (i : ℕ) (inside : i < assets_at t) (d : TermCells) (after : ℕ) (few : after < capacity_of (slice_get t.terms.now u)) where
  pub cell_there : (r : Ring) → nth_back after (get_or (get_or t.terms.now u d).rings.rings.items i r).items ≡ Some (earlier_cell t v u i after)
  cell_there r =
      nth_back-is (earlier_cell t v u i) (capacity_of (slice_get t.terms.now u)) after (get_or (get_or t.terms.now u d).rings.rings.items i r).items
      (ap (λ (b : Ring). b.items) (ring_there t v u known held i inside d r) ∙ held.each i inside) few

  pub cell_kept : IsCell (earlier_cell t v u i after)
  cell_kept =
      let size = capacity_of (slice_get t.terms.now u) in
      let all : All IsCell (map (earlier_cell t v u i) (downward size)) = subst (All IsCell) (held.each i inside) (held.rings.each i inside).cells in
      subst IsCell (nth-downward (earlier_cell t v u i) size after (pos 0) few)
      (all (size - after - 1) (pos 0) (let long = length-below (earlier_cell t v u i) size in omega (arith, long, few)))

-- ---- what an operand is seen as

pub seen_earlier : (t : TermDay) (v : Moment) (u i after : ℕ) → after ≤ v.session → earlier_cell t v u i after ≡ seen_of v.world (pipeline_at t) (sids_at t) u (From (pos v.session)) i (v.session - after)
unfolding seen_of
seen_earlier t v u i after h = ap (seen_on v.world (pipeline_at t) (sids_at t) u (pos v.session) i) (before-pos v.session after h)

pub term_operand : (t : TermDay) (v : Moment) (place u i after : ℕ) (x : ℤ) → HoldsWindows t v after → slice_get (node_at t).inputs place ≡ Some (TermInput u) → x ≡ earlier_cell t v u i after → IsSeenOperand t v place i after x
term_operand t v place u i after x held e is =
    is ∙ seen_earlier t v u i after held.within ∙ sym (ap (λ o. operand_seen v.world (pipeline_at t) (sids_at t) o (From (pos v.session)) i (v.session - after)) e)

-- the window of an operand ends within its ring
pub operand_few : (t : TermDay) (v : Moment) (place u after : ℕ) → IsTermDay t v → HoldsWindows t v after → slice_get (node_at t).inputs place ≡ Some (TermInput u) → after < capacity_of (slice_get t.terms.now u)
operand_few t v place u after is held e =
    let some = ((is-pipeline (pipeline_at t) is.checked).windows t.term.0 (node_at t) is.node).0 in
    let fits = (held.values place u e).1 in
    omega (arith, some, fits)

-- ---- operations

module _ (t : TermDay) (v : Moment) (is : IsTermDay t v) (i after : ℕ) (x y z : ℤ) (first : IsSeenOperand t v 0 i after x) (second : IsSeenOperand t v 1 i after y) (third : IsSeenOperand t v 2 i after z)
    (a : IsCell x) (b : IsCell y) (c : IsCell z) (f : PointKind) (e : (node_at t).kind ≡ Point f) (moves : keeps_point f ≡ false) where
  law : IsOperation (node_at t).kind × AreOperands (node_at t).kind (x ∷ []) (y ∷ []) (z ∷ []) 1
      × (seen_of v.world (pipeline_at t) (sids_at t) t.term.0 (From (pos v.session)) i (v.session - after)
      ≡ chosen (is_kept v.world (pipeline_at t) (sids_at t) (node_at t).mask i (v.session - after)) (operation (node_at t).kind x y z) (empty_cell (pipeline_at t) t.term.0))
  law =
      seen-point-cell v.world (pipeline_at t) (sids_at t) t.term.0 (node_at t) i (v.session - after) (record { checked = is.checked; node = is.node }) f (From (pos v.session)) x y z e moves
      (record { first = first; second = second; third = third; first_cell = a; second_cell = b; third_cell = c })

  pub point_asks : IsOperation (node_at t).kind × AreOperands (node_at t).kind (x ∷ []) (y ∷ []) (z ∷ []) 1
  point_asks = (law.0, law.1)

  pub point_given : IsSeenGiven t v i after (operation (node_at t).kind x y z)
  point_given = law.2

-- ---- who is kept

-- the mask's cell as it is seen on the day is its own
pub mask_cell : (t : TermDay) (v : Moment) (is : IsTermDay t v) (m i after : ℕ) → (node_at t).mask ≡ Some m → after ≤ v.session
    → earlier_cell t v m i after ≡ cell_of v.world (pipeline_at t) (sids_at t) m i (v.session - after)
unfolding cell_of
mask_cell t v is m i after e h =
    let p = pipeline_at t in
    ap (seen_on v.world p (sids_at t) m (pos v.session) i) (before-pos v.session after h)
    ∙ ap (in_array v.world.texts) (steady-own v.world p.names (term_at p.graph m) (mask-steady p is.checked t.term.0 (node_at t) m is.node e) (From (pos v.session)) (sid_in (sids_at t) i) (pos (v.session - after)))

pub mask_passes : (t : TermDay) (v : Moment) (m i after : ℕ) (x : ℤ) → IsTermDay t v → (node_at t).mask ≡ Some m → after ≤ v.session → x ≡ earlier_cell t v m i after
    → is_true x ≡ passes_back t v i after
mask_passes t v m i after x is e h same =
    ap is_true (same ∙ mask_cell t v is m i after e h)
    ∙ sym (ap (λ o. passes_on v.world (pipeline_at t) (sids_at t) o i (v.session - after)) e)

-- ---- the term

-- there is no session so far back
pub below_first : (t : TermDay) (v : Moment) (i after : ℕ) → v.session < after → earlier_cell t v t.term.0 i after ≡ empty_cell (pipeline_at t) t.term.0
below_first t v i after h =
    let p = pipeline_at t in
    ap (seen_on v.world p (sids_at t) t.term.0 (pos v.session) i) (far (after - v.session - 1) (omega (arith, h)))
    ∙ ap (in_array v.world.texts)
    (seen_below v.world p.names (term_at p.graph t.term.0) (From (pos v.session)) (sid_in (sids_at t) i) (after - v.session - 1) ∙ nobody_is (term_at p.graph t.term.0) ∙ empty_is (sort_kind (term_at p.graph t.term.0)))
  where
    far : (m : ℕ) → after ≡ v.session + suc m → before (pos v.session) after ≡ negsuc m
    far m e = omega (arith, ints, e)

-- nor is the asset kept
pub unkept_there : (t : TermDay) (v : Moment) (i after : ℕ) → IsTermDay t v → after ≤ v.session → keeps_back t v i after ≡ false → earlier_cell t v t.term.0 i after ≡ empty_cell (pipeline_at t) t.term.0
unkept_there t v i after is h none =
    seen_earlier t v t.term.0 i after h
    ∙ unkept-seen v.world (pipeline_at t) (sids_at t) t.term.0 (node_at t) i (v.session - after) (record { checked = is.checked; node = is.node }) (From (pos v.session)) none

pub none_there : (t : TermDay) (v : Moment) (fed i after : ℕ) (b : Bool) → IsTermDay t v → IsHeldBack t v fed after → b ≡ false → (after ≤ fed → b ≡ keeps_back t v i after)
    → earlier_cell t v t.term.0 i after ≡ empty_cell (pipeline_at t) t.term.0
none_there t v fed i after b is held never is_kept_there = here (nat_lt fed after) refl
  where
    here : (q : Bool) → nat_lt fed after ≡ q → earlier_cell t v t.term.0 i after ≡ empty_cell (pipeline_at t) t.term.0
    here true e = below_first t v i after (let l : fed < after = grind (arith, nat_tests, e) in let s = held.session in omega (arith, l, s))
    here false e =
        let l : after ≤ fed = grind (arith, nat_tests, e) in
        unkept_there t v i after is (let s = held.session in omega (arith, l, s)) (sym (is_kept_there l) ∙ never)

-- where it is kept the term is seen as what is given
pub kept_there : (t : TermDay) (v : Moment) (i after : ℕ) (x : ℤ) → after ≤ v.session → keeps_back t v i after ≡ true → IsSeenGiven t v i after x → x ≡ earlier_cell t v t.term.0 i after
kept_there t v i after x h keeps given =
    sym (seen_earlier t v t.term.0 i after h ∙ given ∙ ap (λ b. chosen b x (empty_cell (pipeline_at t) t.term.0)) keeps)

pub formula_given : (t : TermDay) (v : Moment) (i after : ℕ) → IsTermDay t v → HoldsWindows t v after → is_windowed (node_at t).kind ≡ true → keeps_kind (node_at t).kind ≡ false → i < assets_at t
    → IsSeenGiven t v i after (windowed_by t after i)
formula_given t v i after is held kind moves inside = moved_given t v is after held (v.session - after) (let h = held.within in omega (arith, h)) kind i inside moves

pub kept_within : (fed after : ℕ) (b : Bool) → (fed < after → b ≡ false) → b ≡ true → after ≤ fed
kept_within fed after b early is = elim (cases_lt fed after) [
  | inl l ↦ absurd (true≢false (sym is ∙ early l))
  | inr l ↦ l
]

-- what moves and is no formula is an operation
pub is_operation : (k : Kind) → (is_windowed k ≡ true → ⊥) → keeps_kind k ≡ false → (f : PointKind) × (k ≡ Point f) × (keeps_point f ≡ false)
is_operation (Window f) never moves = absurd (never refl)
is_operation (Point f) never moves = (f, refl, moves)
is_operation k never moves = absurd (true≢false moves)

pub no_formula : (k : Kind) (family : Family) → IsOf k family → (family ≡ families.Window → ⊥) → is_windowed k ≡ true → ⊥
no_formula k families.Window of never e = never refl
no_formula k (families.Constant value) of never e = true≢false (sym e ∙ ap is_windowed of)
no_formula k (families.Label name) of never e = true≢false (sym e ∙ ap is_windowed of)
no_formula k (families.Number figure name) of never e = true≢false (sym e ∙ ap is_windowed of)
no_formula k (families.Downsample f) of never e = true≢false (sym e ∙ ap is_windowed of)
no_formula (Window f) families.Sids of never e = true≢false (sym of)
no_formula (Window f) families.Point of never e = true≢false (sym of)
no_formula (Window f) families.LabelTest of never e = true≢false (sym of)
no_formula (Window f) families.Section of never e = true≢false (sym of)
no_formula k family of never e = true≢false (sym e)

-- ---- all cells of a ring

-- the cells before the newest are the term's as they are seen on the day, and so is the newest
pub all_renewed : (t : TermDay) (fed i : ℕ) (old new : List ℤ) → length new ≡ length old
    → ((v : Moment) → IsTermDay t v → IsReadBack t v fed (length old) → IsBegun (map (earlier_cell t v t.term.0 i) (downward (length old))) (length old - 1) old new)
    → IsRenewed t fed i old new
all_renewed t fed i old new same begun v is held newest =
    let size = length old in
    let to = map (earlier_cell t v t.term.0 i) (downward size) in
    let long : length to ≡ size = length-below (earlier_cell t v t.term.0 i) size in
    let b = begun v is held in
    ext_get_or (pos 0) new to (same ∙ sym long) (λ k h. by_place k (nat_lt k (size - 1)) refl (omega (arith, h, same)))
  where
    own : earlier_cell t v t.term.0 i 0 ≡ cell_on v.world (pipeline_at t) (sids_at t) t.term.0 i (pos v.session)
    own =
        let p = pipeline_at t in
        ap (seen_on v.world p (sids_at t) t.term.0 (pos v.session) i) (this v.session)
        ∙ ap (in_array v.world.texts) (from-itself v.world p.names (term_at p.graph t.term.0) (sid_in (sids_at t) i) (pos v.session))
      where
        this : (s : ℕ) → before (pos s) 0 ≡ pos s
        this s = omega (arith, ints)

    by_place : (k : ℕ) (q : Bool) → nat_lt k (length old - 1) ≡ q → k < length old
        → get_or new k (pos 0) ≡ get_or (map (earlier_cell t v t.term.0 i) (downward (length old))) k (pos 0)
    by_place k true e h = (begun v is held).front k (grind (arith, nat_tests, e))
    by_place k false e h =
        let last : k ≡ length old - 1 = grind (arith, nat_tests, e, h) in
        let some : 0 < length old = omega (arith, h) in
        let place : length old - 0 - 1 ≡ k = omega (arith, last) in
        (begun v is held).rest k (omega (arith, last))
        ∙ ap (λ j. get_or old j (pos 0)) last
        ∙ newest some ∙ sym own
        ∙ sym (nth-downward (earlier_cell t v t.term.0 i) (length old) 0 (pos 0) some)
        ∙ ap (λ j. get_or (map (earlier_cell t v t.term.0 i) (downward (length old))) j (pos 0)) place

-- the next cell
pub next_renewed : (t : TermDay) (v : Moment) (i size place : ℕ) → place < size - 1 → earlier_cell t v t.term.0 i (size - 1 - place) ≡ get_or (map (earlier_cell t v t.term.0 i) (downward size)) place (pos 0)
next_renewed t v i size place h =
    let at : size - (size - 1 - place) - 1 ≡ place = omega (arith, h) in
    sym (nth-downward (earlier_cell t v t.term.0 i) size (size - 1 - place) (pos 0) (omega (arith, h)))
    ∙ ap (λ j. get_or (map (earlier_cell t v t.term.0 i) (downward size)) j (pos 0)) at

-- ---- ring after ring

module _ (t : TermDay) (fed : ℕ) (marks : List Bool) (i : ℕ) (old now : List Ring) (same : length now ≡ length old) (inside : i < length old)
    (renewed : (k : ℕ) → k < i → get_or marks k true ≡ true → IsRenewed t fed k (ring_at old k).items (ring_at now k).items)
    (others : (k : ℕ) → k < i → get_or marks k true ≡ false → ring_at now k ≡ ring_at old k)
    (rest : (k : ℕ) → i ≤ k → ring_at now k ≡ ring_at old k) where
  here_is : (b : Ring) (k : ℕ) → k ≡ i → ring_at (slice_set now i b) k ≡ b
  here_is b k e = let t : (i == k) ≡ true = eq-eqb i k (sym e) in set_at now i k b (buffer [] 0) (omega (arith, inside, same)) ∙ ap (λ (q : Bool). if q then b else ring_at now k) t

  there_is : (b : Ring) (k : ℕ) → (k ≡ i → ⊥) → ring_at (slice_set now i b) k ≡ ring_at now k
  there_is b k never = let t : (i == k) ≡ false = ne_eqb i k (λ e. never (sym e)) in set_at now i k b (buffer [] 0) (omega (arith, inside, same)) ∙ ap (λ (q : Bool). if q then b else ring_at now k) t

  -- one of a marked asset
  module _ (b : Ring) (marked : get_or marks i true ≡ true) (new : IsRenewed t fed i (ring_at now i).items b.items) where
    pub renewed_more : (k : ℕ) → k < i + 1 → get_or marks k true ≡ true → IsRenewed t fed k (ring_at old k).items (ring_at (slice_set now i b) k).items
    renewed_more k h m = elim (cases_eq k i) [
      | inl e ↦
          let from : IsRenewed t fed i (ring_at old i).items b.items = subst (λ (r : Ring). IsRenewed t fed i r.items b.items) (rest i (omega arith)) new in
          subst (λ (r : Ring). IsRenewed t fed k (ring_at old k).items r.items) (sym (here_is b k e)) (subst (λ j. IsRenewed t fed j (ring_at old j).items b.items) (sym e) from)
      | inr never ↦ subst (λ (r : Ring). IsRenewed t fed k (ring_at old k).items r.items) (sym (there_is b k never)) (renewed k (omega (arith, h, never)) m)
    ]

    pub others_more : (k : ℕ) → k < i + 1 → get_or marks k true ≡ false → ring_at (slice_set now i b) k ≡ ring_at old k
    others_more k h m = elim (cases_eq k i) [
      | inl e ↦ absurd (true≢false (sym marked ∙ ap (λ j. get_or marks j true) (sym e) ∙ m))
      | inr never ↦ there_is b k never ∙ others k (omega (arith, h, never)) m
    ]

    pub rest_more : (k : ℕ) → i + 1 ≤ k → ring_at (slice_set now i b) k ≡ ring_at old k
    rest_more k h = there_is b k (λ e. omega (arith, h, e)) ∙ rest k (omega (arith, h))

  -- one of another
  module _ (unmarked : get_or marks i true ≡ false) where
    pub renewed_still : (k : ℕ) → k < i + 1 → get_or marks k true ≡ true → IsRenewed t fed k (ring_at old k).items (ring_at now k).items
    renewed_still k h m = elim (cases_eq k i) [
      | inl e ↦ absurd (true≢false (sym m ∙ ap (λ j. get_or marks j true) e ∙ unmarked))
      | inr never ↦ renewed k (omega (arith, h, never)) m
    ]

    pub others_still : (k : ℕ) → k < i + 1 → get_or marks k true ≡ false → ring_at now k ≡ ring_at old k
    others_still k h m = elim (cases_eq k i) [
      | inl e ↦ rest k (omega (arith, e))
      | inr never ↦ others k (omega (arith, h, never)) m
    ]

    pub rest_still : (k : ℕ) → i + 1 ≤ k → ring_at now k ≡ ring_at old k
    rest_still k h = rest k (omega (arith, h))
