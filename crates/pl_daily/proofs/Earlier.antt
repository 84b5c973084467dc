-- What a term is seen as from the day on a session up to it, by the rings.
use Rattle.std.proofs.Common.{◌≡◌, ℕ, suc, ◌+◌, ◌<◌, Bool, true, false, if◌then◌else◌, ℤ, pos, List, [], Option, Some, None, length, map, get_or, refl, sym, subst, ◌∙◌, ap, arith, slice_get, All}
use Rattle.std.proofs.Math.Path.{fun_ext}
use Rattle.std.proofs.lemmas.Int.{ints}
use Rattle.std.proofs.lemmas.List.{get_or_default}
use Rattle.std.proofs.lemmas.Option.{slice_get-get_or, slice_get_within}
use Rattle.circular_buffer.specs.Buffer.{buffer}
use Rattle.pl_spec.specs.Rounding.{IsCell}
use Rattle.pl_spec.specs.World.{World}
use Rattle.pl_spec.specs.Window.{before, downward, seen_cell}
use Rattle.pl_pipeline.specs.declared.WindowKind.{WindowKind}
use Rattle.pl_pipeline.specs.Kind.Kind.{Window}
use Rattle.pl_pipeline.specs.Term as spec
use Rattle.pl_pipeline.specs.Term.Input.{BarColumn, TermInput}
use Rattle.pl_pipeline.specs.Table.{Pipeline}
use Rattle.pl_pipeline.specs.Value.{View, From, Own, view_of}
use Rattle.pl_terms.specs.Sorts.{is_windowed}
use Rattle.pl_cross.specs.Arrays.{sid_in}
use Rattle.pl_values.specs.Arrays.{chosen, empty_cell, is_kept}
use Rattle.pl_values.specs.Families.{TakesWindows}
use Rattle.pl_values.specs.Laws.{IsGiven}
use Rattle.pl_values.specs.Views.{keeps_kind, seen_of}
use Rattle.pl_values.proofs.KindFamilies.{window_kind}
use Rattle.pl_values.proofs.Viewed.{own-cell}
use Rattle.pl_daily.specs.Changes.{Ring, ring_at}
use Rattle.pl_daily.specs.Columns.{rings_of}
use Rattle.pl_daily.specs.declared.term_day.TermCells.{TermCells}
use Rattle.pl_daily.specs.declared.term_day.TermDay.{TermDay}
use Rattle.pl_daily.specs.Rows.{capacity_of, ending, ring_window, rings_in}
use Rattle.pl_daily.specs.TermDays.{Moment, HoldsRings, HoldsWindows, IsTermDay, assets_at, earlier_cell, node_at, pipeline_at, seen_on, sids_at}
use Rattle.pl_daily.specs.Windows.{window_at, windowed_by}
use Rattle.pl_daily.proofs.Endings.{all-ending, ending-is}
use Rattle.pl_daily.proofs.SeenWindows.{AreSeenFrom, numbers-seen, seen-takes, window_seen, window-seen-cell}

module _ (t : TermDay) (v : Moment) (is : IsTermDay t v) (after : ℕ) (held : HoldsWindows t v after) (r : ℕ) (at : r + after ≡ v.session)
    (kind : is_windowed (node_at t).kind ≡ true) (i : ℕ) (inside : i < assets_at t) where
  abbrev w : World
  w = v.world

  abbrev p : Pipeline
  p = pipeline_at t

  abbrev sids : List ℕ
  sids = sids_at t

  abbrev n : spec.Node
  n = node_at t

  abbrev day : View
  day = From (pos v.session)

  formula_is : (f : WindowKind) × (n.kind ≡ Window f)
  formula_is = window_kind n.kind kind

  abbrev f : WindowKind
  f = formula_is.0

  abbrev the_window : Option spec.Input → List ℤ
  the_window o = window_seen w p sids is.checked t.term.0 n is.node formula_is.0 formula_is.1 i r day o

  bar-back : (m : ℕ) → before (pos v.session) (suc (m + after)) ≡ before (pos r) (suc m)
  bar-back m = omega (arith, ints, at)

  term-back : (m : ℕ) → before (pos v.session) (m + after) ≡ before (pos r) m
  term-back m = omega (arith, ints, at)

  -- the ends of the rings are windows as they are seen on the day
  read : (place : ℕ) (o : Option spec.Input) → slice_get n.inputs place ≡ o
      → (ring_window t.bars.now t.terms.now n.window after o i ≡ the_window o) × All IsCell (ring_window t.bars.now t.terms.now n.window after o i)
  read place None e = (refl, λ j d l. absurd (omega (arith, l)))
  read place (Some (BarColumn c)) e =
      let bars = held.bars place c e in
      let items = (ring_at (rings_of t.bars.now c).rings.items i).items in (
        ap (ending n.window after) (bars.0.each i inside)
            ∙ ending-is (λ m. seen_cell w (sid_in sids i) c (before (pos v.session) (suc m)) (pos v.session)) n.window after (rings_of t.bars.now c).capacity bars.1
            ∙ ap (λ (g : ℕ → ℤ). map g (downward n.window)) (fun_ext (λ m. ap (λ d. seen_cell w (sid_in sids i) c d (pos v.session)) (bar-back m))),
        all-ending IsCell n.window after items (bars.0.rings.each i inside).cells,
      )
  read place (Some (TermInput u)) e =
      let values = held.values place u e in
      let items = (ring_at (rings_in (slice_get t.terms.now u)) i).items in (
        ap (ending n.window after) (values.0.each i inside)
            ∙ ending-is (earlier_cell t v u i) n.window after (capacity_of (slice_get t.terms.now u)) values.1
            ∙ ap (λ (g : ℕ → ℤ). map g (downward n.window))
            (fun_ext (λ m. ap (seen_on w p sids u (pos v.session) i) (term-back m)
            ∙ sym (numbers-seen w p sids is.checked t.term.0 n is.node formula_is.0 formula_is.1 i r day place u e (before (pos r) m)))),
        all-ending IsCell n.window after items (values.0.rings.each i inside).cells,
      )

  windows : AreSeenFrom w p sids is.checked t.term.0 n is.node formula_is.0 formula_is.1 i r day (window_at t 0 after i) (window_at t 1 after i) (window_at t 2 after i)
  windows =
      let a = read 0 (slice_get n.inputs 0) refl in
      let b = read 1 (slice_get n.inputs 1) refl in
      let c = read 2 (slice_get n.inputs 2) refl in
      record { first = a.0; second = b.0; third = c.0; first_cells = a.1; second_cells = b.1; third_cells = c.1 }

  pub windows_take : TakesWindows n.kind (window_at t 0 after i) (window_at t 1 after i) (window_at t 2 after i)
  windows_take = seen-takes w p sids is.checked t.term.0 n is.node formula_is.0 formula_is.1 i r day _ _ _ windows

  -- the term is what its kind gives over them, in a view in which it sees them from the day
  seen_over : (view : View) → view_of n.kind view (pos r) ≡ From (pos v.session)
      → seen_of w p sids t.term.0 view i r ≡ chosen (is_kept w p sids n.mask i r) (windowed_by t after i) (empty_cell p t.term.0)
  seen_over view e =
      window-seen-cell w p sids is.checked t.term.0 n is.node formula_is.0 formula_is.1 i r view _ _ _
      (subst (λ q. AreSeenFrom w p sids is.checked t.term.0 n is.node formula_is.0 formula_is.1 i r q (window_at t 0 after i) (window_at t 1 after i) (window_at t 2 after i)) (sym e) windows)

  -- as it is seen from the day, where it moves
  pub moved_given : keeps_kind n.kind ≡ false → seen_of w p sids t.term.0 (From (pos v.session)) i r ≡ chosen (is_kept w p sids n.mask i r) (windowed_by t after i) (empty_cell p t.term.0)
  moved_given moves = seen_over (From (pos v.session)) (by_kind formula_is.0 formula_is.1)
    where
      by_kind : (g : WindowKind) → n.kind ≡ Window g → view_of n.kind (From (pos v.session)) (pos r) ≡ From (pos v.session)
      by_kind g e =
          let still : keeps_kind (Window g) ≡ false = ap keeps_kind (sym e) ∙ moves in
          ap (λ k. view_of k (From (pos v.session)) (pos r)) e ∙ rw still refl

  -- on the day itself
  pub own_given : r ≡ v.session → IsGiven w p sids t.term.0 n i r (windowed_by t after i)
  own_given same =
      sym (own-cell w p sids t.term.0 i r)
      ∙ seen_over Own (by_kind formula_is.0 formula_is.1)
    where
      here : (b : Bool) → From (if b then pos r else pos r) ≡ From (pos v.session)
      here true = ap (λ m. From (pos m)) same
      here false = ap (λ m. From (pos m)) same

      by_kind : (g : WindowKind) → n.kind ≡ Window g → view_of n.kind Own (pos r) ≡ From (pos v.session)
      by_kind g e = ap (λ k. view_of k Own (pos r)) e ∙ here (keeps_kind (Window g))

-- ---- where the rings are

pub at_room : (terms : List TermCells) (u n : ℕ) → n < capacity_of (slice_get terms u) → u < length terms
at_room terms u n h = here (slice_get terms u) refl
  where
    here : (o : Option TermCells) → slice_get terms u ≡ o → u < length terms
    here None e = absurd (let l : n < capacity_of None = subst (λ o. n < capacity_of o) e h in omega (arith, l))
    here (Some x) e = slice_get_within terms u x e

module _ (t : TermDay) (v : Moment) (u : ℕ) (known : u < length t.terms.now) (held : HoldsRings t v u) (i : ℕ) (inside : i < assets_at t) (d : TermCells) where
  abbrev own : TermCells
  own = get_or t.terms.now u d

  same : slice_get t.terms.now u ≡ Some (get_or t.terms.now u d)
  same = slice_get-get_or t.terms.now u d known

  pub ring_inside : i < length (get_or t.terms.now u d).rings.rings.items
  ring_inside =
      let count : length (get_or t.terms.now u d).rings.rings.items ≡ assets_at t = ap (λ o. length (rings_in o)) (sym same) ∙ held.rings.count in
      omega (arith, inside, count)

  pub ring_there : (r : Ring) → get_or (get_or t.terms.now u d).rings.rings.items i r ≡ ring_at (rings_in (slice_get t.terms.now u)) i
  ring_there r = get_or_default (get_or t.terms.now u d).rings.rings.items i r (buffer [] 0) ring_inside ∙ ap (λ o. ring_at (rings_in o) i) (sym same)

  pub ring_full : (r : Ring) → length (get_or (get_or t.terms.now u d).rings.rings.items i r).items ≡ capacity_of (slice_get t.terms.now u)
  ring_full r = ap (λ (b : Ring). length b.items) (ring_there r) ∙ (held.rings.each i inside).full
