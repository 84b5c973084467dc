-- Where a day begins a period, it is the first session of it; else that session stays.
use Rattle.std.proofs.Common.{◌≡◌, ℕ, suc, ◌<◌, ◌-◌, true, false, not, ℤ, pos, ◌≤ℤ◌, List, [], ◌∷◌, ◌++◌, length, get_or, Some, option_map, unwrap_or, slice_get, refl, sym, ◌∙◌, ap, arith, All}
use Rattle.std.proofs.lemmas.Bool.{true≢false}
use Rattle.std.proofs.lemmas.Int.{ints}
use Rattle.std.proofs.lemmas.List.{get_or_push, length_push, get_or_append_left}
use Rattle.std.proofs.lemmas.List.Elements.{All-append, All-cons}
use Rattle.std.specs.List.{position_or_len}
use Rattle.std.specs.Ordering.{int_eq}
use Rattle.std.specs.Int.Signed.{≤ℤ_refl}
use Rattle.circular_buffer.proofs.Places.{slice_get-append_left, slice_get-append_right}
use Rattle.pl_spec.specs.declared.Frequency.{Frequency}
use Rattle.pl_spec.specs.Periods.{period, same_period, first_session, period_start}
use Rattle.pl_pipeline.specs.Table.{Pipeline, value_of, in_array}
use Rattle.pl_pipeline.specs.Term.{term_at}
use Rattle.pl_spec.specs.Window.{before}
use Rattle.pl_spec.proofs.Places.{first_at}
use Rattle.pl_spec.proofs.PeriodsRise.{period-rises}
use Rattle.pl_spec.proofs.Signed.{int_eq-itself, lt-is-le, eq-le}
use Rattle.pl_laws.proofs.Starts.{start-same, start-within}
use Rattle.pl_cross.specs.Arrays.{sid_in}
use Rattle.pl_daily.specs.Days.{Start, FedDay, fed, days_of, last_day, last_session, IsStart, AreFed}
use Rattle.pl_daily.proofs.Fed.{length-days, all_before}
use Rattle.pl_daily.proofs.Values.{values_stay}
use Rattle.pl_daily.specs.declared.term_day.TermCells.{TermCells}
use Rattle.pl_daily.specs.Rows.{sids_of}
use Rattle.pl_daily.specs.TermDays.{cell_on}
use Rattle.pl_daily.specs.Held.{HoldsTerm}
use Rattle.pl_daily.proofs.DayByDay.{fed_texts}
use Rattle.pl_daily.specs.declared.starts.StartCells.{StartCells}
use Rattle.pl_daily.specs.Terms.{HoldsStart, begins}

-- ---- the last day of a list

at_end : (xs : List ℤ) (x : ℤ) → slice_get (xs ++ x ∷ []) (length xs) ≡ Some x
at_end xs x = slice_get-append_right xs (x ∷ []) (length xs) 0 (omega arith)

start_at_end : (f : Frequency) (xs : List ℤ) (x : ℤ) → period_start f (xs ++ x ∷ []) (pos (length xs)) ≡ pos (first_session f (xs ++ x ∷ []) x)
unfolding period_start
start_at_end f xs x = ap (λ o. unwrap_or (option_map (λ day. pos (first_session f (xs ++ x ∷ []) day)) o) (pos (length xs))) (at_end xs x)

apart : (a b c : ℤ) → a ≤ℤ b → b ≤ℤ c → not (int_eq b c) ≡ true → int_eq c a ≡ false
apart a b c h l t = grind (arith, ints)

alike : (a b : ℤ) → not (int_eq a b) ≡ false → a ≡ b
alike a b t = grind (arith, ints)

module _ (f : Frequency) (g : Start) (next now : FedDay) (earlier : List FedDay) (are : AreFed g (next ∷ now ∷ earlier)) where
  abbrev xs : List ℤ
  xs = days_of (now ∷ earlier)

  abbrev zs : List ℤ
  zs = xs ++ next.day ∷ []

  long : length xs ≡ suc (length earlier)
  long = length-days (now ∷ earlier)

  up_to_now : All (λ x. x ≤ℤ now.day) xs
  up_to_now = All-append (λ x. x ≤ℤ now.day) (days_of earlier) (now.day ∷ []) (λ k d l. lt-is-le _ now.day ((all_before g earlier are.0.0 now.day are.0.1).0 k d l))
      (All-cons (λ x. x ≤ℤ now.day) now.day [] (≤ℤ_refl now.day) (λ k d l. absurd (omega (arith, l))))

  is_other : not (same_period f now.day next.day) ≡ true → (k : ℕ) → k < length xs → same_period f next.day (get_or zs k (pos 0)) ≡ false
  is_other other k l =
      ap (same_period f next.day) (get_or_append_left xs (next.day ∷ []) (pos 0) k l)
      ∙ apart (period f (get_or xs k (pos 0))) (period f now.day) (period f next.day) (period-rises f (get_or xs k (pos 0)) now.day (up_to_now k (pos 0) l)) (period-rises f now.day next.day (lt-is-le now.day next.day are.1)) other

  pub begun_later : not (same_period f now.day next.day) ≡ true → period_start f zs (pos (suc (length earlier))) ≡ pos (suc (length earlier))
  begun_later other =
      let inside : length xs < length zs = (let e = length_push xs next.day in omega (arith, e)) in
      ap (λ n. period_start f zs (pos n)) (sym long) ∙ start_at_end f xs next.day
      ∙ ap pos (first_at (same_period f next.day) zs (length xs) (pos 0) inside (ap (same_period f next.day) (get_or_push xs next.day (pos 0) (length xs) refl) ∙ int_eq-itself (period f next.day)) (is_other other))
      ∙ ap pos long

  now_is : slice_get xs (length earlier) ≡ Some now.day
  now_is = ap (slice_get xs) (sym (length-days earlier)) ∙ at_end (days_of earlier) now.day

  inside_now : (i : ℕ) → pos i ≤ℤ pos (length earlier) → slice_get zs i ≡ slice_get xs i
  inside_now i l = slice_get-append_left xs (next.day ∷ []) i (let e = long in omega (arith, ints, e, l))

  start_of_now : period_start f zs (pos (length earlier)) ≡ pos (first_session f zs now.day)
  unfolding period_start
  start_of_now = ap (λ o. unwrap_or (option_map (λ day. pos (first_session f zs day)) o) (pos (length earlier))) (inside_now (length earlier) (≤ℤ_refl (pos (length earlier))) ∙ now_is)

  by_period : (x y : ℤ) → period f x ≡ period f y → first_session f zs x ≡ first_session f zs y
  by_period x y e = ap (λ n. position_or_len (λ d. int_eq n (period f d)) zs) e

  pub begun_before : not (same_period f now.day next.day) ≡ false → period_start f zs (pos (suc (length earlier))) ≡ period_start f xs (pos (length earlier))
  begun_before same =
      ap (λ n. period_start f zs (pos n)) (sym long) ∙ start_at_end f xs next.day
      ∙ ap pos (sym (by_period now.day next.day (alike (period f now.day) (period f next.day) same)))
      ∙ sym start_of_now
      ∙ start-same f zs xs (pos (length earlier)) inside_now

pub start_is_next : (f : Frequency) (g : Start) (next : FedDay) (days : List FedDay) → AreFed g (next ∷ days) → begins f (last_day days) next.day ≡ true
    → period_start f (days_of (next ∷ days)) (pos (length days)) ≡ pos (length days)
start_is_next f g next [] are is = start_at_end f [] next.day ∙ ap pos (first_at (same_period f next.day) (next.day ∷ []) 0 (pos 0) (omega arith) (int_eq-itself (period f next.day)) (λ k l. absurd (omega (arith, l))))
start_is_next f g next (now ∷ earlier) are is = begun_later f g next now earlier are is

pub start_stays : (f : Frequency) (g : Start) (next : FedDay) (days : List FedDay) → AreFed g (next ∷ days) → begins f (last_day days) next.day ≡ false
    → period_start f (days_of (next ∷ days)) (pos (length days)) ≡ period_start f (days_of days) (last_session days)
start_stays f g next [] are none = absurd (true≢false none)
start_stays f g next (now ∷ earlier) are none = begun_before f g next now earlier are none

-- ---- the cells

pub days_are : (g : Start) (days : List FedDay) → (fed g days).days ≡ days_of days
unfolding fed
days_are g days = refl

by_steps : (n s : ℕ) → pos s ≤ℤ pos n → before (pos n) (n - s) ≡ pos s
by_steps n s h = omega (arith, ints)

-- on an earlier session a term stays what it was worth
pub cell_stays : (g : Start) (next now : FedDay) (earlier : List FedDay) (p : Pipeline) (u i s : ℕ) → IsStart g → AreFed g (next ∷ now ∷ earlier) → pos s ≤ℤ pos (length earlier)
    → cell_on (fed g (next ∷ now ∷ earlier)) p (sids_of g.assets) u i (pos s) ≡ cell_on (fed g (now ∷ earlier)) p (sids_of g.assets) u i (pos s)
cell_stays g next now earlier p u i s start are h =
    let days = now ∷ earlier in
    let back = by_steps (length earlier) s h in
    ap (cell_on (fed g (next ∷ days)) p (sids_of g.assets) u i) (sym back)
    ∙ ap (in_array (fed g (next ∷ days)).texts) (values_stay g next days start are p.names (term_at p.graph u) (sid_in (sids_of g.assets) i) (length earlier - s))
    ∙ ap (λ texts. in_array texts (value_of (fed g days) p u (sid_in (sids_of g.assets) i) (before (pos (length earlier)) (length earlier - s)))) (fed_texts g (next ∷ days) ∙ sym (fed_texts g days))
    ∙ ap (cell_on (fed g days) p (sids_of g.assets) u i) back

-- where the day begins no period, what was held stands for the list with it
pub held_on : (f : Frequency) (g : Start) (next : FedDay) (days : List FedDay) (p : Pipeline) (u : ℕ) (s : StartCells) → IsStart g → AreFed g (next ∷ days)
    → begins f (last_day days) next.day ≡ false → HoldsStart g days p f u s → HoldsStart g (next ∷ days) p f u s
held_on f g next [] p u s start are none hold = absurd (true≢false none)
held_on f g next (now ∷ earlier) p u s start are none hold = record {
  session = λ some. hold.session (omega arith) ∙ sym (start_stays f g next (now ∷ earlier) are none);
  row = λ some i h. hold.row (omega arith) i h
      ∙ sym (cell_stays g next now earlier p u i s.session start are (eq-le _ _ _ (hold.session (omega arith)) (start-within f (days_of (now ∷ earlier)) (pos (length earlier)))));
}

-- where it begins one, the cells of the day do
pub held_anew : (f : Frequency) (g : Start) (next : FedDay) (days : List FedDay) (p : Pipeline) (u : ℕ) (s : StartCells) (t : TermCells) → AreFed g (next ∷ days)
    → begins f (last_day days) next.day ≡ true → s.session ≡ length days → s.row.items ≡ t.row.items → HoldsTerm g (next ∷ days) p u t → HoldsStart g (next ∷ days) p f u s
held_anew f g next days p u s t are is session row hold = record {
  session = λ some. ap pos session ∙ sym (start_is_next f g next days are is);
  row = λ some i h. ap (λ r. get_or r i (pos 0)) row ∙ hold.row i h ∙ ap (λ n. cell_on (fed g (next ∷ days)) p (sids_of g.assets) u i (pos n)) (sym session);
}
