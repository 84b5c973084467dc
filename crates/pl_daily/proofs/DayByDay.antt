-- What is held of a term, from day to day.
use Rattle.std.proofs.Common.{◌≡◌, ◌⊎◌, inl, inr, ℕ, suc, ◌-◌, ◌<◌, ◌++◌, true, ℤ, pos, negsuc, List, [], ◌∷◌, length, map, get_or, replicate, refl, sym, ◌∙◌, ap, arith}
use Rattle.std.proofs.lemmas.Int.{ints}
use Rattle.std.proofs.lemmas.List.{get_or-replicate}
use Rattle.circular_buffer.specs.Buffer.{buffer, keep_last}
use Rattle.pl_pipeline.specs.Table.{Pipeline, in_array}
use Rattle.pl_pipeline.specs.Term.{Term, term_at}
use Rattle.pl_pipeline.specs.Term.Term.{absent, column, node}
use Rattle.pl_pipeline.specs.Reaching.{HasWindows}
use Rattle.pl_pipeline.specs.Value.{From, empty, is_steady, seen, sort_kind}
use Rattle.pl_pipeline.proofs.Steady.{steady-own}
use Rattle.pl_laws.proofs.Views.{from-itself}
use Rattle.pl_adjust.specs.Columns.{events_at}
use Rattle.pl_spec.specs.Window.{before, downward}
use Rattle.pl_spec.specs.World.{World}
use Rattle.pl_cross.specs.Arrays.{sid_in}
use Rattle.pl_values.specs.Arrays.{empty_cell}
use Rattle.pl_values.proofs.Numbers.{empty_is}
use Rattle.pl_daily.specs.Days.{Start, FedDay, fed, last_session, IsStart, AreFed}
use Rattle.pl_daily.specs.Changes.{Ring, pushed, ring_at}
use Rattle.pl_daily.proofs.Moves.{slides, constant, below_none, below_first}
use Rattle.pl_daily.proofs.Values.{nobody, value_below, values_stay}
use Rattle.pl_daily.specs.declared.term_day.TermCells.{TermCells}
use Rattle.pl_daily.specs.Rows.{sids_of}
use Rattle.pl_daily.specs.TermDays.{cell_on, seen_on}
use Rattle.pl_daily.specs.Held.{AreTermCells, FollowTerm, BeginsTerm, held_cell}
use Rattle.pl_daily.proofs.Advances.{newest-pushed}
use Rattle.pl_daily.proofs.KeptPlaces.{sid_is}
use Rattle.pl_daily.proofs.SeenDays.{seen_below, still_seen}

-- one session back from the next day is the last one
steps_back : (days : List FedDay) (m : ℕ) → before (pos (length days)) (suc m) ≡ before (last_session days) m
steps_back [] m = below_first m ∙ sym (below_none m)
steps_back (d ∷ earlier) m = let e : before (pos (suc (length earlier))) (suc m) ≡ before (pos (length earlier)) m = omega (arith, ints) in e

pub fed_texts : (g : Start) (days : List FedDay) → (fed g days).texts ≡ g.texts
unfolding fed
fed_texts g days = refl

module _ (g : Start) (next : FedDay) (days : List FedDay) (start : IsStart g) (are : AreFed g (next ∷ days)) (p : Pipeline) (u i : ℕ) (inside : i < length g.assets) where
  abbrev a : ℕ
  a = sid_in (sids_of g.assets) i

  -- what is seen from the next day as from the one before it
  seen_before : HasWindows (term_at p.graph u) → (is_steady (term_at p.graph u) ≡ true) ⊎ (events_at next.events i ≡ []) → (m : ℕ)
      → seen (fed g (next ∷ days)) p.names (term_at p.graph u) (From (pos (length days))) a (before (last_session days) m)
      ≡ seen (fed g days) p.names (term_at p.graph u) (From (last_session days)) a (before (last_session days) m)
  seen_before wide (inl steady) m =
      steady-own (fed g (next ∷ days)) p.names (term_at p.graph u) steady (From (pos (length days))) a (before (last_session days) m)
      ∙ values_stay g next days start are p.names (term_at p.graph u) a m
      ∙ sym (steady-own (fed g days) p.names (term_at p.graph u) steady (From (last_session days)) a (before (last_session days) m))
  seen_before wide (inr quiet) m =
      let same = sid_is g.assets i inside in
      ap (λ b. seen (fed g (next ∷ days)) p.names (term_at p.graph u) (From (pos (length days))) b (before (last_session days) m)) same
      ∙ still_seen g next days start are i inside quiet p.names (term_at p.graph u) wide m
      ∙ ap (λ b. seen (fed g days) p.names (term_at p.graph u) (From (last_session days)) b (before (last_session days) m)) (sym same)

  held_before : HasWindows (term_at p.graph u) → (is_steady (term_at p.graph u) ≡ true) ⊎ (events_at next.events i ≡ []) → (m : ℕ)
      → held_cell g (next ∷ days) p u i (suc m) ≡ held_cell g days p u i m
  held_before wide still m =
      ap (seen_on (fed g (next ∷ days)) p (sids_of g.assets) u (pos (length days)) i) (steps_back days m)
      ∙ ap (in_array (fed g (next ∷ days)).texts) (seen_before wide still m)
      ∙ ap (λ texts. in_array texts (seen (fed g days) p.names (term_at p.graph u) (From (last_session days)) a (before (last_session days) m))) (fed_texts g (next ∷ days) ∙ sym (fed_texts g days))

  -- the last day's own
  pub held_own : held_cell g (next ∷ days) p u i 0 ≡ cell_on (fed g (next ∷ days)) p (sids_of g.assets) u i (pos (length days))
  held_own =
      ap (seen_on (fed g (next ∷ days)) p (sids_of g.assets) u (pos (length days)) i) (this (length days))
      ∙ ap (in_array (fed g (next ∷ days)).texts) (from-itself (fed g (next ∷ days)) p.names (term_at p.graph u) a (pos (length days)))
    where
      this : (s : ℕ) → before (pos s) 0 ≡ pos s
      this s = omega (arith, ints)

pub follow_term : (row : List ℤ) (old new : TermCells) → new.row.items ≡ row → new.rings.capacity ≡ old.rings.capacity → AreTermCells (length row) old
    → (0 < old.rings.capacity → (i : ℕ) → i < length row → ring_at new.rings.rings.items i ≡ pushed (get_or row i (pos 0)) (ring_at old.rings.rings.items i))
    → FollowTerm row old new
follow_term row old new is room are pushes g next days p u start fed_days long wide cells hold = record {
  row = λ i h. ap (λ l. get_or l i (pos 0)) is ∙ cells i (omega (arith, h, long));
  rings = λ some i h still.
      let has : 0 < old.rings.capacity = omega (arith, some, room) in
      let inside : i < length row = omega (arith, h, long) in
      let size = old.rings.capacity in
      let x = get_or row i (pos 0) in
      items has i inside
      ∙ ap (λ l. keep_last size (l ++ x ∷ [])) (hold.rings has i h)
      ∙ sym (slides size (held_cell g days p u i) (held_cell g (next ∷ days) p u i) x (held_own g next days start fed_days p u i h ∙ sym (cells i inside))
      (λ m. held_before g next days start fed_days p u i h wide still m))
      ∙ ap (λ n. map (held_cell g (next ∷ days) p u i) (downward n)) (sym room);
  newest = λ some i h.
      let has : 0 < old.rings.capacity = omega (arith, some, room) in
      let inside : i < length row = omega (arith, h, long) in
      let x = get_or row i (pos 0) in
      let ring = (are.rings has).each i inside in
      ap (λ n. get_or (ring_at new.rings.rings.items i).items (n - 1) (pos 0)) room
      ∙ ap (λ l. get_or l (old.rings.capacity - 1) (pos 0)) (items has i inside)
      ∙ newest-pushed (ring_at old.rings.rings.items i).items old.rings.capacity x ring.full has
      ∙ cells i inside;
}
  where
    items : 0 < old.rings.capacity → (i : ℕ) → i < length row
        → (ring_at new.rings.rings.items i).items ≡ keep_last old.rings.capacity ((ring_at old.rings.rings.items i).items ++ get_or row i (pos 0) ∷ [])
    items has i inside =
        ap (λ (b : Ring). b.items) (pushes has i inside)
        ∙ ap (λ n. keep_last n ((ring_at old.rings.rings.items i).items ++ get_or row i (pos 0) ∷ [])) ((are.rings has).each i inside).room

-- ---- below session 0

pub nobody_is : (t : Term) → nobody t ≡ empty (sort_kind t)
nobody_is absent = refl
nobody_is (column c) = refl
nobody_is (node k n x y z m p) = refl

below_cell : (w : World) (p : Pipeline) (sids : List ℕ) (u i s : ℕ) → cell_on w p sids u i (negsuc s) ≡ empty_cell p u
below_cell w p sids u i s =
    ap (in_array w.texts) (value_below w p.names (term_at p.graph u) (sid_in sids i) s ∙ nobody_is (term_at p.graph u) ∙ empty_is (sort_kind (term_at p.graph u)))

below_seen : (w : World) (p : Pipeline) (sids : List ℕ) (u i n : ℕ) → seen_on w p sids u (negsuc 0) i (before (negsuc 0) n) ≡ empty_cell p u
below_seen w p sids u i n =
    ap (seen_on w p sids u (negsuc 0) i) (below_none n)
    ∙ ap (in_array w.texts) (seen_below w p.names (term_at p.graph u) (From (negsuc 0)) (sid_in sids i) n ∙ nobody_is (term_at p.graph u) ∙ empty_is (sort_kind (term_at p.graph u)))

pub begin_term : (assets capacity : ℕ) (none : ℤ) (t : TermCells) → t.row.items ≡ replicate assets none → t.rings.capacity ≡ capacity
    → (0 < capacity → t.rings.rings.items ≡ replicate assets (buffer (replicate capacity none) capacity)) → BeginsTerm assets none t
begin_term assets capacity none t row room rings g p u long is = record {
  row = λ i h.
      ap (λ l. get_or l i (pos 0)) row ∙ get_or-replicate assets i none (pos 0) (omega (arith, h, long)) ∙ is ∙ sym (below_cell (fed g []) p (sids_of g.assets) u i 0);
  rings = λ some i h.
      let has : 0 < capacity = omega (arith, some, room) in
      ap (λ l. (ring_at l i).items) (rings has)
      ∙ ap (λ (b : Ring). b.items) (get_or-replicate assets i (buffer (replicate capacity none) capacity) (buffer [] 0) (omega (arith, h, long)))
      ∙ sym (constant (held_cell g [] p u i) none capacity (λ n. below_seen (fed g []) p (sids_of g.assets) u i n ∙ sym is))
      ∙ ap (λ n. map (held_cell g [] p u i) (downward n)) (sym room);
}
