-- One term more has the day.
use Rattle.std.proofs.Common.{◌≡◌, ℕ, zero, suc, ◌+◌, ◌-◌, ◌<◌, ◌≤◌, Bool, true, false, ◌&&◌, not, nat_lt, ℤ, pos, List, [], ◌∷◌, map, take, drop, ◌++◌, get_or, None, refl, length, set, length-set, Some, slice_get, sym, ◌∙◌, ap, arith, subst, All, inl, inr}
use Rattle.std.proofs.lemmas.Bool.{and_parts, cases_eq, true≢false}
use Rattle.std.proofs.lemmas.Bool.Decides.{nat_tests}
use Rattle.circular_buffer.proofs.Places.{slice_get-set_other, slice_get-set_same}
use Rattle.std.proofs.Math.Seq.{map-set_same}
use Rattle.std.proofs.lemmas.Option.{get_or_from_slice_get, slice_get_within, same_Some}
use Rattle.pl_spec.specs.declared.Frequency.{Frequency}
use Rattle.pl_spec.specs.Rounding.{IsCell}
use Rattle.pl_spec.specs.Window.{downward}
use Rattle.pl_pipeline.specs.Cones.{moves_at}
use Rattle.pl_pipeline.specs.Table.{Pipeline}
use Rattle.pl_pipeline.specs.Term.{term_at}
use Rattle.pl_pipeline.specs.Value.{is_steady}
use Rattle.pl_terms.specs.Checked.{IsChecked}
use Rattle.pl_terms.proofs.Windowed.{windowed}
use Rattle.pl_terms.specs.Uses.{is_used}
use Rattle.pl_daily.specs.Capacities.{deepest}
use Rattle.pl_daily.specs.Changes.{Ring, ring_at}
use Rattle.pl_daily.specs.Days.{Start, FedDay, fed, IsStart, AreFed}
use Rattle.pl_daily.specs.Rows.{sids_of}
use Rattle.pl_daily.specs.TermDays.{cell_on}
use Rattle.pl_daily.proofs.DayByDay.{held_own}
use Rattle.pl_daily.proofs.Depths.{deep-moves}
use Rattle.pl_daily.specs.declared.columns.BarRings.{BarRings}
use Rattle.pl_daily.specs.declared.term_day.TermCells.{TermCells}
use Rattle.pl_daily.specs.Held.{AreTermCells, FollowTerm, HoldsNewest, HoldsRing, HoldsTerm, held_cell}
use Rattle.pl_daily.specs.declared.starts.StartCells.{StartCells}
use Rattle.pl_daily.specs.declared.terms.Lent.{Lent}
use Rattle.pl_daily.specs.Terms.{AreStarts, AreTerms, Downsamples, FollowBelow, FollowNewest, FollowOwn, FollowPut, FollowStart, FollowTermAt, FollowTerms, HaveRoom, HoldsStart, IsAt, IsNewestAt, IsOwnAt, IsReadEarlier, IsPlaced, IsRowOf, IsStartOf, IsStartRoom, assets_at, begins, is_read_earlier, pipeline_at, rooms, start_at}
use Rattle.pl_daily.proofs.Begins.{held_anew, held_on}
use Rattle.pl_daily.proofs.Downsampled.{one_way}

set_there : {X : Type 0} (xs : List X) (k : ℕ) (y t : X) → k < length xs → slice_get (set xs k y) k ≡ Some t → y ≡ t
set_there xs k y t h e = same_Some y t (sym (slice_get-set_same xs k y h) ∙ e)

in-taken : {X : Type 0} (xs : List X) (k u : ℕ) (t : X) → slice_get (take k xs) u ≡ Some t → slice_get xs u ≡ Some t
in-taken xs zero u t e = absurd (let no : None ≡ Some t = e in cc)
in-taken [] (suc k) u t e = e
in-taken (x ∷ xs) (suc k) zero t e = e
in-taken (x ∷ xs) (suc k) (suc u) t e = in-taken xs k u t e

-- a ring of one cell
newest_alone : (g : Start) (next : FedDay) (days : List FedDay) → IsStart g → AreFed g (next ∷ days) → (p : Pipeline) (k i : ℕ) → i < length g.assets → (t : TermCells) → t.rings.capacity ≡ 1
    → length (ring_at t.rings.rings.items i).items ≡ t.rings.capacity
    → get_or (ring_at t.rings.rings.items i).items (t.rings.capacity - 1) (pos 0) ≡ cell_on (fed g (next ∷ days)) p (sids_of g.assets) k i (pos (length days))
    → HoldsRing g (next ∷ days) p k t i
newest_alone g next days start are p k i inside t one full newest =
    single (ring_at t.rings.rings.items i).items (full ∙ one)
    ∙ ap (λ x. x ∷ []) (ap (λ n. get_or (ring_at t.rings.rings.items i).items (n - 1) (pos 0)) (sym one) ∙ newest ∙ sym (held_own g next days start are p k i inside))
    ∙ ap (λ n. map (held_cell g (next ∷ days) p k i) (downward n)) (sym one)
  where
    single : (xs : List ℤ) → length xs ≡ 1 → xs ≡ get_or xs 0 (pos 0) ∷ []
    single [] h = absurd (omega (arith, h))
    single (x ∷ []) h = refl
    single (x ∷ y ∷ ys) h = absurd (omega (arith, h))

-- ---- the start of a term

module _ (l : Lent) (k : ℕ) (cells : List TermCells) where
  pub start_kept : (s : StartCells) → ((f : Frequency) (u : ℕ) → Downsamples (pipeline_at l) k f u → begins f l.last l.day ≡ false) → FollowStart l k cells s s
  start_kept s none next days at f u down =
      let m = at.may in
      held_on f (start_at l) next days (pipeline_at l) u s m.start m.are_fed (ap (λ o. begins f o next.day) m.last ∙ ap (begins f l.last) m.day ∙ none f u down) (at.start f u down)

  pub start_taken : (s new : StartCells) (f : Frequency) (u : ℕ) (t : TermCells) → u < k → is_used (pipeline_at l) u ≡ true → Downsamples (pipeline_at l) k f u → begins f l.last l.day ≡ true
      → slice_get cells u ≡ Some t → new.session ≡ l.fed → new.row.items ≡ t.row.items → FollowStart l k cells s new
  start_taken s new f u t below used down begun is session row next days at e v other =
      let m = at.may in
      let same = one_way (pipeline_at l) k f e u v down other in
      let here = held_anew f (start_at l) next days (pipeline_at l) u new t m.are_fed (ap (λ o. begins f o next.day) m.last ∙ ap (begins f l.last) m.day ∙ begun) (session ∙ sym m.count) row
      (at.terms.done u t below used is) in
      subst (λ x. HoldsStart (start_at l) (next ∷ days) (pipeline_at l) x v new) same.0 (subst (λ x. HoldsStart (start_at l) (next ∷ days) (pipeline_at l) f x new) same.1 here)

  -- a row of cells of the input has room
  pub start_fills : (new : StartCells) (u : ℕ) (t : TermCells) → is_used (pipeline_at l) u ≡ true → AreTerms (assets_at l) (pipeline_at l) l.bars.now cells
      → slice_get cells u ≡ Some t → new.row.items ≡ t.row.items → IsStartRoom (assets_at l) (pipeline_at l) k new
  start_fills new u t used are is row e v down =
      let full = are.room.full u t used is in
      record { row = ap length row ∙ full.row; cells = subst (All IsCell) (sym row) full.cells }

  -- the row of the day is put in
  pub term_put : (s new : StartCells) (was made : TermCells) (row : List ℤ) → IsChecked (pipeline_at l) → slice_get cells k ≡ Some was → k < length cells → is_used (pipeline_at l) k ≡ true
      → FollowTerm row was made → assets_at l ≡ length row → FollowStart l k cells s new → IsRowOf l k cells new row → FollowPut l k cells s (set cells k made) new
  term_put s new was made row ok is inside used follows long follow right next days at =
      let m = at.may in
      let g = start_at l in
      let p = pipeline_at l in
      let start = follow next days at in
      let due : IsAt l k cells new (next ∷ days) next days = record { may = m; terms = at.terms; start = start } in
      let here : HoldsNewest g next days p k made = follows g next days p k m.start m.are_fed long (windowed p ok k) (right next days due).each (at.terms.left k was (omega arith) used is) in
      record {
        may = m;
        done = λ u t below used_u e. at.terms.done u t below used_u (sym (slice_get-set_other cells k u made (λ same. omega (arith, below, same))) ∙ e);
        own = λ t e. subst (HoldsNewest g next days p k) (set_there cells k made t inside e) here;
        left = λ u t above used_u e. at.terms.left u t (omega (arith, above)) used_u (sym (slice_get-set_other cells k u made (λ same. omega (arith, above, same))) ∙ e);
        start = start;
      }

  -- where nothing is read of the sessions before the day, that is all
  pub newest_whole : (s : StartCells) → AreTerms (assets_at l) (pipeline_at l) l.bars.now cells → is_used (pipeline_at l) k ≡ true → is_read_earlier (pipeline_at l) k (slice_get cells k) ≡ false
      → FollowNewest l k cells s cells
  newest_whole s are used unread next days at = record {
    done = λ u t below used_u e. elim (cases_eq u k) [
      | inl same ↦
          let there : slice_get cells k ≡ Some t = ap (slice_get cells) (sym same) ∙ e in
          subst (λ j. HoldsTerm (start_at l) (next ∷ days) (pipeline_at l) j t) (sym same) (whole t there (moves_at (pipeline_at l).graph k) refl)
      | inr other ↦ at.done u t (omega (arith, below, other)) used_u e
    ];
    left = λ u t above used_u e. at.left u t (omega (arith, above)) used_u e;
  }
    where
      unread_of : (t : TermCells) → slice_get cells k ≡ Some t → is_read_earlier (pipeline_at l) k (Some t) ≡ false
      unread_of t e = ap (is_read_earlier (pipeline_at l) k) (sym e) ∙ unread

      only_one : (t : TermCells) → slice_get cells k ≡ Some t → moves_at (pipeline_at l).graph k ≡ true → t.rings.capacity ≤ 1
      only_one t e moves = here (nat_lt 0 (deepest (pipeline_at l) k)) refl
        where
          here : (b : Bool) → nat_lt 0 (deepest (pipeline_at l) k) ≡ b → t.rings.capacity ≤ 1
          here true h =
              let test : nat_lt 1 t.rings.capacity ≡ false = sym (ap (λ b. b && nat_lt 1 t.rings.capacity) h) ∙ unread_of t e in
              grind (arith, nat_tests, test)
          here false h =
              let most = are.deep k t used e moves in
              let none : deepest (pipeline_at l) k ≡ 0 = grind (arith, nat_tests, h) in
              omega (arith, most, none)

      whole : (t : TermCells) → slice_get cells k ≡ Some t → (b : Bool) → moves_at (pipeline_at l).graph k ≡ b → HoldsTerm (start_at l) (next ∷ days) (pipeline_at l) k t
      whole t e false h = record { row = (at.own t e).row; rings = λ some i inside. (at.own t e).rings some i inside (inl (still h)) }
        where
          still : moves_at (pipeline_at l).graph k ≡ false → is_steady (term_at (pipeline_at l).graph k) ≡ true
          still h = by (is_steady (term_at (pipeline_at l).graph k)) h
            where
              by : (b : Bool) → not b ≡ false → b ≡ true
              by true h = refl
              by false h = absurd (true≢false h)
      whole t e true h = record { row = (at.own t e).row; rings = λ some i inside. one_cell t some i inside (only_one t e h) e }
        where
          one_cell : (t : TermCells) → 0 < t.rings.capacity → (i : ℕ) → i < length (start_at l).assets → t.rings.capacity ≤ 1 → slice_get cells k ≡ Some t → HoldsRing (start_at l) (next ∷ days) (pipeline_at l) k t i
          one_cell t some i inside few e =
              let ring = ((are.room.full k t used e).rings some).each i inside in
              let one : t.rings.capacity ≡ 1 = omega (arith, some, few) in
              newest_alone (start_at l) next days at.may.start at.may.are_fed (pipeline_at l) k i inside t one ring.full ((at.own t e).newest some i inside)

-- the terms that stand before the term's own cells are those below it
pub own_at : (l : Lent) (k : ℕ) (cells below : List TermCells) (own : TermCells) (s : StartCells) → below ≡ take k cells → slice_get cells k ≡ Some own
    → (next : FedDay) (days : List FedDay) → IsNewestAt l k cells s next days → IsOwnAt l k below own s next days
own_at l k cells below own s is there next days at = record {
  may = at.may;
  done = λ u t low used e. at.done u t low used (taken u t e);
  newest = at.own own there;
  start = at.start;
}
  where
    taken : (u : ℕ) (t : TermCells) → slice_get below u ≡ Some t → slice_get cells u ≡ Some t
    taken u t e = in-taken cells k u t (sym (ap (λ ts. slice_get ts u) is) ∙ e)

pub room_below : (assets : ℕ) (p : Pipeline) (rings : BarRings) (k : ℕ) (cells below : List TermCells) → below ≡ take k cells → HaveRoom assets p rings cells → HaveRoom assets p rings below
room_below assets p rings k cells below is have = record {
  full = λ u t used e. have.full u t used (taken u t e);
  values = λ j n place u t used at reads input e. have.values j n place u t used at reads input (taken u t e);
  masks = λ j n u t used at deep mask e. have.masks j n u t used at deep mask (taken u t e);
  bars = have.bars;
  bar_rings = have.bar_rings;
}
  where
    taken : (u : ℕ) (t : TermCells) → slice_get below u ≡ Some t → slice_get cells u ≡ Some t
    taken u t e = in-taken cells k u t (sym (ap (λ ts. slice_get ts u) is) ∙ e)

-- the term's own cells are renewed
pub own_followed : (l : Lent) (k : ℕ) (cells below : List TermCells) (own made : TermCells) (s : StartCells) → below ≡ take k cells → slice_get cells k ≡ Some own → k < length cells
    → FollowOwn l k below own s made → FollowNewest l k cells s (set cells k made)
own_followed l k cells below own made s is there inside follow next days at = record {
  done = λ u t low used e. elim (cases_eq u k) [
    | inl same ↦
        let here = follow next days (own_at l k cells below own s is there next days at) in
        let at_k : slice_get (set cells k made) k ≡ Some t = ap (slice_get (set cells k made)) (sym same) ∙ e in
        subst (λ j. HoldsTerm (start_at l) (next ∷ days) (pipeline_at l) j t) (sym same) (subst (λ c. HoldsTerm (start_at l) (next ∷ days) (pipeline_at l) k c) (set_there cells k made t inside at_k) here)
    | inr other ↦ at.done u t (omega (arith, low, other)) used (sym (slice_get-set_other cells k u made other) ∙ e)
  ];
  left = λ u t above used e. at.left u t (omega (arith, above)) used (sym (slice_get-set_other cells k u made (λ same. omega (arith, above, same))) ∙ e);
}

-- what is held of a term is replaced by cells of the same room
pub terms_more : (assets : ℕ) (p : Pipeline) (rings : BarRings) (now : List TermCells) (k : ℕ) (was made : TermCells) → AreTerms assets p rings now → slice_get now k ≡ Some was → k < length now
    → AreTermCells assets made → made.rings.capacity ≡ was.rings.capacity → AreTerms assets p rings (set now k made)
terms_more assets p rings now k was made are is inside full room = record {
  many = length-set now k made ∙ are.many;
  room = record {
    full = λ u t used e. elim (cases_eq u k) [
      | inl same ↦ subst (AreTermCells assets) (set_there now k made t inside (ap (slice_get (set now k made)) (sym same) ∙ e)) full
      | inr other ↦ are.room.full u t used (sym (slice_get-set_other now k u made other) ∙ e)
    ];
    values = λ j n place u t used e reads input at.
        let old = held_before u t at in
        let fits = are.room.values j n place u old.0 used e reads input old.1 in
        (let same = old.2 in omega (arith, fits, same));
    masks = λ j n u t used e deep mask at.
        let old = held_before u t at in
        let fits = are.room.masks j n u old.0 used e deep mask old.1 in
        (let same = old.2 in omega (arith, fits, same));
    bars = are.room.bars;
    bar_rings = are.room.bar_rings;
  };
  deep = λ u t used at moves.
      let old = held_before u t at in
      let few = are.deep u old.0 used old.1 moves in
      (let same = old.2 in omega (arith, few, same));
}
  where
    held_before : (u : ℕ) (t : TermCells) → slice_get (set now k made) u ≡ Some t → (x : TermCells) × (slice_get now u ≡ Some x) × (t.rings.capacity ≡ x.rings.capacity)
    held_before u t at = elim (cases_eq u k) [
      | inl same ↦
          let made_is : made ≡ t = set_there now k made t inside (ap (slice_get (set now k made)) (sym same) ∙ at) in
          (was, ap (slice_get now) same ∙ is, ap (λ (c : TermCells). c.rings.capacity) (sym made_is) ∙ room)
      | inr other ↦ (t, sym (slice_get-set_other now k u made other) ∙ at, refl)
    ]

pub rooms_stay : (now : List TermCells) (k : ℕ) (was made : TermCells) → slice_get now k ≡ Some was → made.rings.capacity ≡ was.rings.capacity → rooms (set now k made) ≡ rooms now
rooms_stay now k was made is room =
    map-set_same (λ (t : TermCells). t.rings.capacity) now k made was (room ∙ ap (λ (t : TermCells). t.rings.capacity) (sym (get_or_from_slice_get now k was was is)))

pub starts_more : (assets : ℕ) (p : Pipeline) (now : List StartCells) (k : ℕ) (made : StartCells) → AreStarts assets p now → k < length now → IsStartRoom assets p k made → AreStarts assets p (set now k made)
starts_more assets p now k made are inside full = record {
  many = length-set now k made ∙ are.many;
  full = λ j s e. elim (cases_eq j k) [
    | inl same ↦
        let is : made ≡ s = set_there now k made s inside (ap (slice_get (set now k made)) (sym same) ∙ e) in
        subst (λ i. IsStartRoom assets p i s) (sym same) (subst (λ x. IsStartRoom assets p k x) is full)
    | inr other ↦ are.full j s (sym (slice_get-set_other now k j made other) ∙ e)
  ];
}

-- ---- all terms

module _ (l : Lent) (terms : List TermCells) (starts : List StartCells) where
  abbrev g : Start
  g = start_at l

  abbrev p : Pipeline
  p = pipeline_at l

  -- the day comes to a term
  pub comes_to : (cells : List TermCells) (firsts : List StartCells) (k : ℕ) (s : StartCells) (next : FedDay) (days : List FedDay) → FollowBelow l terms starts k cells firsts → slice_get firsts k ≡ Some s
      → IsPlaced l terms starts next days → IsAt l k cells s days next days
  comes_to cells firsts k s next days follow is placed = let x = follow next days placed in record { may = placed.may; terms = x.0; start = x.1.left k s (omega arith) is }

  -- a used one has it
  pub one_more : (cells made : List TermCells) (firsts : List StartCells) (k : ℕ) (s new : StartCells) → FollowBelow l terms starts k cells firsts → slice_get firsts k ≡ Some s → k < length firsts
      → FollowTermAt l k cells s made new → FollowBelow l terms starts (k + 1) made (set firsts k new)
  one_more cells made firsts k s new follow is inside term next days placed =
      let x = follow next days placed in
      let y = term next days (comes_to cells firsts k s next days follow is placed) in (
        y.0,
        record {
          done = λ j t below e. elim (cases_eq j k) [
            | inl same ↦
                let new_is : new ≡ t = set_there firsts k new t inside (ap (slice_get (set firsts k new)) (sym same) ∙ e) in
                subst (λ i. IsStartOf g (next ∷ days) p i t) (sym same) (subst (λ c. IsStartOf g (next ∷ days) p k c) new_is y.1)
            | inr other ↦ x.1.done j t (omega (arith, below, other)) (sym (slice_get-set_other firsts k j new other) ∙ e)
          ];
          left = λ j t above e.
              let other : j ≡ k → ⊥ = λ same. omega (arith, above, same) in
              x.1.left j t (omega (arith, above)) (sym (slice_get-set_other firsts k j new other) ∙ e);
        },
      )

  -- one that is not used is passed over
  pub none_more : (cells : List TermCells) (firsts : List StartCells) (k : ℕ) → FollowBelow l terms starts k cells firsts → is_used p k ≡ false → FollowBelow l terms starts (k + 1) cells firsts
  none_more cells firsts k follow unused next days placed =
      let x = follow next days placed in (
        record {
          done = λ u t below used e. elim (cases_eq u k) [
            | inl same ↦ absurd (true≢false (sym used ∙ ap (is_used p) same ∙ unused))
            | inr other ↦ x.0.done u t (omega (arith, below, other)) used e
          ];
          left = λ u t above used e. x.0.left u t (omega (arith, above)) used e;
        },
        record {
          done = λ j t below e. elim (cases_eq j k) [
            | inl same ↦ λ f u down. absurd (true≢false (sym down.used ∙ ap (is_used p) same ∙ unused))
            | inr other ↦ x.1.done j t (omega (arith, below, other)) e
          ];
          left = λ j t above e. x.1.left j t (omega (arith, above)) e;
        },
      )

  pub all_done : (cells : List TermCells) (firsts : List StartCells) (k : ℕ) → FollowBelow l terms starts k cells firsts → length cells ≤ k → length firsts ≤ k → FollowTerms l terms starts cells firsts
  all_done cells firsts k follow many few next days placed =
      let x = follow next days placed in (
        record { each = λ u t used e. x.0.done u t (let inside = slice_get_within cells u t e in omega (arith, inside, many)) used e },
        record { each = λ j s e. x.1.done j s (let inside = slice_get_within firsts j s e in omega (arith, inside, few)) e },
      )

-- the rings of a term that is read on earlier sessions
pub read_rings : (assets : ℕ) (p : Pipeline) (rings : BarRings) (cells : List TermCells) (k : ℕ) → IsChecked p → AreTerms assets p rings cells → is_used p k ≡ true → is_read_earlier p k (slice_get cells k) ≡ true
    → (t : TermCells) → slice_get cells k ≡ Some t → IsReadEarlier assets p k t
read_rings assets p rings cells k ok are used read t e =
    let parts = and_parts (nat_lt 0 (deepest p k)) (nat_lt 1 t.rings.capacity) (ap (is_read_earlier p k) (sym e) ∙ read) in
    let deep : 0 < deepest p k = grind (arith, nat_tests, parts.0) in
    let more : 1 < t.rings.capacity = grind (arith, nat_tests, parts.1) in
    record { deep = deep; some = omega (arith, more); few = are.deep k t used e (deep-moves p ok k deep); full = are.room.full k t used e }

-- rings of which those of marked assets were renewed stand for the list with the day
pub own_renewed : (l : Lent) (k : ℕ) (below : List TermCells) (own made : TermCells) (s : StartCells) (next : FedDay) (days : List FedDay) → IsOwnAt l k below own s next days
    → made.row.items ≡ own.row.items → made.rings.capacity ≡ own.rings.capacity
    → ((i : ℕ) → i < assets_at l → get_or l.changed.now i true ≡ true → (ring_at made.rings.rings.items i).items ≡ map (held_cell (start_at l) (next ∷ days) (pipeline_at l) k i) (downward own.rings.capacity))
    → ((i : ℕ) → i < assets_at l → get_or l.changed.now i true ≡ false → ring_at made.rings.rings.items i ≡ ring_at own.rings.rings.items i)
    → HoldsTerm (start_at l) (next ∷ days) (pipeline_at l) k made
own_renewed l k below own made s next days at row room renewed others = record {
  row = λ i h. ap (λ r. get_or r i (pos 0)) row ∙ at.newest.row i h;
  rings = λ some i h. by_mark i h (omega (arith, some, room)) (get_or l.changed.now i true) refl ∙ ap (λ n. map (held_cell (start_at l) (next ∷ days) (pipeline_at l) k i) (downward n)) (sym room);
}
  where
    by_mark : (i : ℕ) → i < assets_at l → 0 < own.rings.capacity → (b : Bool) → get_or l.changed.now i true ≡ b
        → (ring_at made.rings.rings.items i).items ≡ map (held_cell (start_at l) (next ∷ days) (pipeline_at l) k i) (downward own.rings.capacity)
    by_mark i h some true e = renewed i h e
    by_mark i h some false e = ap (λ (b : Ring). b.items) (others i h e) ∙ at.newest.rings some i h (inr (at.may.quiet i h e))

pub split_set : {X : Type 0} (xs : List X) (k : ℕ) (y : X) → k < length xs → take k xs ++ set (drop k xs) 0 y ≡ set xs k y
split_set [] k y h = absurd (omega (arith, h))
split_set (x ∷ xs) zero y h = refl
split_set (x ∷ xs) (suc k) y h = ap (λ l. x ∷ l) (split_set xs k y (omega (arith, h)))

pub first-rest : {X : Type 0} (xs : List X) (k : ℕ) → slice_get (drop k xs) 0 ≡ slice_get xs k
first-rest xs zero = refl
first-rest [] (suc k) = refl
first-rest (x ∷ xs) (suc k) = first-rest xs k
