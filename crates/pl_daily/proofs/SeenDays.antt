-- What terms are seen as from the last of fed days, and from the next one.
use Rattle.std.proofs.Common.{◌≡◌, ℕ, suc, ◌<◌, false, ℤ, pos, negsuc, ◌≤ℤ◌, ◌<ℤ◌, ◌+ℤ◌, List, [], ◌∷◌, ◌++◌, length, filter, Some, refl, sym, ◌∙◌, ap, arith, All}
use Rattle.std.specs.Int.RustNames.{int_lt}
use Rattle.std.proofs.lemmas.Int.{ints}
use Rattle.std.proofs.lemmas.List.{append-nil}
use Rattle.pl_spec.specs.declared.Column.TheVariants.{Close}
use Rattle.pl_spec.specs.Parts.{sid_at}
use Rattle.pl_spec.specs.Window.{before, is_between}
use Rattle.pl_spec.specs.World.{World, Event, day_of, events_of}
use Rattle.pl_adjust.specs.Columns.{events_at}
use Rattle.pl_pipeline.specs.Graph.{reach}
use Rattle.pl_pipeline.specs.Reaching.{HasWindows}
use Rattle.pl_pipeline.specs.Term.{Term}
use Rattle.pl_pipeline.specs.Term.Term.{absent, column, node}
use Rattle.pl_pipeline.specs.Value.{View, From, seen}
use Rattle.pl_laws.proofs.Law.{agree-seen, seen_agree}
use Rattle.pl_laws.proofs.Views.{quiet-still, still-stays}
use Rattle.pl_daily.specs.Days.{Start, FedDay, fed, adjustments_of, last_session, IsStart, AreFed}
use Rattle.pl_daily.proofs.Fed.{agrees, all_before, fed_is_a_world}
use Rattle.pl_daily.proofs.Moves.{below_none, days_are_fed, events_at-append, events_fed, All-events}
use Rattle.pl_daily.proofs.Values.{nobody}

-- there is nothing below session 0, from wherever it is seen
pub seen_below : (w : World) (names : List (List ℕ)) (t : Term) (view : View) (a s : ℕ) → seen w names t view a (negsuc s) ≡ nobody t
unfolding seen
seen_below w names absent view a s = refl
seen_below w names (column c) view a s = refl
seen_below w names (node k n x y z m p) view a s = refl

by_last : (s n : ℕ) → before (pos s) n ≤ℤ pos s
by_last s n = omega (arith, ints)

-- what was seen from the last day is seen so where a day more is fed
pub seen_stays : (g : Start) (next : FedDay) (days : List FedDay) → IsStart g → AreFed g (next ∷ days) → (names : List (List ℕ)) (t : Term) (a n : ℕ)
    → seen (fed g (next ∷ days)) names t (From (last_session days)) a (before (last_session days) n) ≡ seen (fed g days) names t (From (last_session days)) a (before (last_session days) n)
seen_stays g next [] start are names t a n =
    ap (seen (fed g (next ∷ [])) names t (From (negsuc 0)) a) (below_none n) ∙ seen_below (fed g (next ∷ [])) names t (From (negsuc 0)) a n
    ∙ sym (ap (seen (fed g []) names t (From (negsuc 0)) a) (below_none n) ∙ seen_below (fed g []) names t (From (negsuc 0)) a n)
seen_stays g next (now ∷ earlier) start are names t a n =
    sym (seen_agree (fed g (now ∷ earlier)) (fed g (next ∷ now ∷ earlier)) (pos (length earlier)) now.day (fed_is_a_world g (now ∷ earlier) start are.0) (fed_is_a_world g (next ∷ now ∷ earlier) start are)
    (agree-seen (fed g (now ∷ earlier)) (fed g (next ∷ now ∷ earlier)) (pos (length earlier)) now.day (agrees g now next earlier start are)) names t (From (pos (length earlier))) a (before (pos (length earlier)) n)
    (record { from = by_last (length earlier) n; by = (let l : pos (length earlier) ≤ℤ pos (length earlier) = omega (arith, ints) in l) }))

-- ---- an asset without adjustments of the day

none_between : (low high : ℤ) (es : List Event) → All (λ (e : Event). e.day ≤ℤ low) es → filter (is_between low high) es ≡ []
none_between low high [] h = refl
none_between low high (e ∷ es) h =
    let by : e.day ≤ℤ low = h 0 e (omega arith) in
    let p : int_lt low e.day ≡ false = grind (arith, ints) in
    rw p (none_between low high es (λ k d l. h (suc k) d (omega arith)))

module _ (g : Start) (start : IsStart g) (i : ℕ) (inside : i < length g.assets) (now next : FedDay) (earlier : List FedDay) (are : AreFed g (next ∷ now ∷ earlier))
    (quiet : events_at next.events i ≡ []) where
  abbrev w : World
  w = fed g (next ∷ now ∷ earlier)

  known_by : All (λ (e : Event). e.day ≤ℤ now.day) (events_at (adjustments_of (now ∷ earlier)) i)
  known_by = All-events (λ e. e.day ≤ℤ now.day) (adjustments_of (now ∷ earlier)) i (λ k d l. up_to _ ((all_before g (now ∷ earlier) are.0 (now.day +ℤ pos 1) next_day).1 k d l))
    where
      up_to : (x : ℤ) → x <ℤ (now.day +ℤ pos 1) → x ≤ℤ now.day
      up_to x h = omega (arith, ints)

      next_day : now.day <ℤ (now.day +ℤ pos 1)
      next_day = omega (arith, ints)

  none : filter (is_between now.day next.day) (events_of w (sid_at g.assets i)) ≡ []
  none =
      ap (filter (is_between now.day next.day))
      (events_fed g start Close i inside (next ∷ now ∷ earlier) are ∙ events_at-append (adjustments_of (now ∷ earlier)) next.events i
      ∙ ap (λ l. events_at (adjustments_of (now ∷ earlier)) i ++ l) quiet ∙ append-nil (events_at (adjustments_of (now ∷ earlier)) i))
      ∙ none_between now.day next.day (events_at (adjustments_of (now ∷ earlier)) i) known_by

  last_is : (d : FedDay) (ds : List FedDay) → day_of (fed g (d ∷ ds)) (pos (length ds)) ≡ Some d.day
  last_is d ds = ap (day_of (fed g (d ∷ ds))) (let e : pos (length ds) ≡ before (pos (length ds)) 0 = omega (arith, ints) in e) ∙ days_are_fed g (d ∷ ds) 0

  before_is : day_of w (pos (length earlier)) ≡ Some now.day
  before_is = sym ((agrees g now next earlier start are).days (pos (length earlier)) (by_it (length earlier))) ∙ last_is now earlier
    where
      by_it : (s : ℕ) → pos s ≤ℤ pos s
      by_it s = omega (arith, ints)

  -- is seen from the day as from the one before
  pub quiet_seen : (names : List (List ℕ)) (t : Term) → HasWindows t → (s : ℤ) → s ≤ℤ pos (length earlier)
      → seen w names t (From (pos (length earlier))) (sid_at g.assets i) s ≡ seen w names t (From (pos (suc (length earlier)))) (sid_at g.assets i) s
  quiet_seen names t wide s by =
      still-stays w names (sid_at g.assets i) (reach w.days t s) (pos (length earlier)) (pos (suc (length earlier))) (later (length earlier))
      (quiet-still w (fed_is_a_world g (next ∷ now ∷ earlier) start are) (sid_at g.assets i) (pos (length earlier)) (pos (suc (length earlier))) now.day next.day (later (length earlier)) before_is
      (last_is next (now ∷ earlier)) none (reach w.days t s))
      t wide s by (itself (reach w.days t s))
    where
      later : (s : ℕ) → pos s ≤ℤ pos (suc s)
      later s = omega (arith, ints)

      itself : (x : ℤ) → x ≤ℤ x
      itself x = omega (arith, ints)

-- so for all that was fed
pub still_seen : (g : Start) (next : FedDay) (days : List FedDay) → IsStart g → AreFed g (next ∷ days) → (i : ℕ) → i < length g.assets → events_at next.events i ≡ []
    → (names : List (List ℕ)) (t : Term) → HasWindows t → (n : ℕ)
    → seen (fed g (next ∷ days)) names t (From (pos (length days))) (sid_at g.assets i) (before (last_session days) n) ≡ seen (fed g days) names t (From (last_session days)) (sid_at g.assets i) (before (last_session days) n)
still_seen g next [] start are i inside quiet names t wide n =
    ap (seen (fed g (next ∷ [])) names t (From (pos 0)) (sid_at g.assets i)) (below_none n) ∙ seen_below (fed g (next ∷ [])) names t (From (pos 0)) (sid_at g.assets i) n
    ∙ sym (ap (seen (fed g []) names t (From (negsuc 0)) (sid_at g.assets i)) (below_none n) ∙ seen_below (fed g []) names t (From (negsuc 0)) (sid_at g.assets i) n)
still_seen g next (now ∷ earlier) start are i inside quiet names t wide n =
    sym (quiet_seen g start i inside now next earlier are quiet names t wide (before (pos (length earlier)) n) (by_last (length earlier) n))
    ∙ seen_stays g next (now ∷ earlier) start are names t (sid_at g.assets i) n
