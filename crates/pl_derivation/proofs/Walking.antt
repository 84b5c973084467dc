-- The lines of a walk are right.
use Rattle.std.proofs.Common.{◌≡◌, ℕ, zero, suc, ◌<◌, ◌≤◌, Bool, true, false, ◌||◌, ℤ, pos, ◌<ℤ◌, List, [], ◌∷◌, ◌++◌, length, map, fold, get_or, Some, None, option_map, refl, sym, ◌∙◌, ap, arith, AllPairs, inl, inr, ◌⊎◌}
use Rattle.std.specs.List.{list_all}
use Rattle.std.specs.Option.{option_eq}
use Rattle.std.specs.Ordering.{int_eq}
use Rattle.std.proofs.lemmas.Int.{ints}
use Rattle.std.proofs.lemmas.Bool.{true≢false, cases_Bool, or_cases, or_left, or_right, and_from}
use Rattle.std.proofs.lemmas.Bool.Decides.{Decides-int_eq}
use Rattle.std.proofs.lemmas.Slice.Eq.{slice_eq-Decides}
use Rattle.std.proofs.lemmas.List.Folds.{list_any-append}
use Rattle.std.proofs.lemmas.List.{map-append}
use Rattle.std.proofs.lemmas.Option.{slice_get_within, get_or_from_slice_get}
use Rattle.pl_spec.specs.World.{World, IsWorld, day_of}
use Rattle.pl_pipeline.specs.Term.{IsGraph}
use Rattle.pl_pipeline.specs.Table.{Pipeline}
use Rattle.pl_spec.proofs.Places.{is_at}
use Rattle.pl_derivation.specs.Facts.{Fact, Reading, same_fact, number_in, known_day, premises, single_step}
use Rattle.pl_derivation.specs.Facts.Fact.{Seen, TermValue, SeenValue}
use Rattle.pl_derivation.specs.Lines.{Line}
use Rattle.pl_derivation.specs.Right.{session_of, fact_of, number_stated, is_about, is_stated, reading_of, is_fitting, seen_cells, states_step, is_right, wrong_behind}
use Rattle.pl_derivation.specs.Walks.{IsOnce, is_in, finish, depth_of, date_of, line_for, facts_for, derivation}
use Rattle.pl_cross.specs.Arrays.{HasTexts}
use Rattle.pl_derivation.specs.Laws.{IsAsked, IsDerivation}
use Rattle.pl_spec.proofs.Each.{Each, each_both, each_more, each_in_map, list_all_each}
use Rattle.pl_derivation.proofs.Steps.{fact_same}
use Rattle.pl_derivation.proofs.Codes.{step_true}
use Rattle.pl_derivation.proofs.Truths.{same_is, is_same, same_turned, same_day, is_fact, last_seen, States, stated_true, behind_right}
use Rattle.pl_derivation.proofs.Closing.{IsClosed, closed_more}
use Rattle.pl_derivation.proofs.Fits.{HasSessions, IsSession, Fits, Ready, premises_ready}

not_equal : (x y : ℤ) → x <ℤ y → int_eq x y ≡ false
not_equal x y h = grind (arith, ints)

-- the session of a day is the only one
session_of_day : (w : World) → AllPairs (λ a b. a <ℤ b) w.days → (n : ℕ) (day : ℤ) → day_of w (pos n) ≡ Some day → session_of w day ≡ Some n
session_of_day w up n day e =
    let within : n < length w.days = slice_get_within w.days n day e in
    let here : get_or w.days n (pos 0) ≡ day = get_or_from_slice_get w.days n day (pos 0) e in
    is_at (λ x. int_eq x day) w.days n (pos 0) within ((Decides-int_eq _ day).1 here)
    (λ k l. let less : get_or w.days k (pos 0) <ℤ get_or w.days n (pos 0) = up k n (pos 0) l within in
    not_equal (get_or w.days k (pos 0)) day (rw here at less))

date_is : (w : World) (d : ℤ) → (s : IsSession w d) → date_of w d ≡ s.1
date_is w d s = rw (s.2, s.3) refl

-- a fact that is put after others is among them
pub in_last : (done : List Fact) (f : Fact) → is_in (done ++ f ∷ []) f ≡ true
in_last done f = list_any-append (same_fact f) done (f ∷ []) ∙ or_right (is_in done f) (is_in (f ∷ []) f) (or_left (same_fact f f) false (is_same f))

module _ (w : World) (p : Pipeline) (ok : IsWorld w) (known : HasTexts w) (graph : IsGraph p.graph) (windows : HasSessions p.graph) where
  abbrev Fit : Fact → Type 0
  Fit f = Fits w p graph windows f

  date_session : (d : ℤ) → (s : IsSession w d) → session_of w (date_of w d) ≡ Some s.0
  date_session d s = rw (date_is w d s) (session_of_day w ok.days_ascend s.0 s.1 s.3)

  -- a fact's line is about it
  line_is : (f : Fact) → Fit f → fact_of w (line_for w p f) ≡ Some f
  line_is (Seen c a s d) h = let e : s ≡ pos h.1.0 = h.1.2 in let f : d ≡ pos h.2.0 = h.2.2 in rw (date_session s h.1, date_session d h.2) (rw (e, f) refl)
  line_is (SeenValue t a s d) h = let e : s ≡ pos h.1.0 = h.1.2 in let f : d ≡ pos h.2.0 = h.2.2 in rw (date_session s h.1, date_session d h.2) (rw (e, f) refl)
  line_is (TermValue t a d) h = let f : d ≡ pos h.1.0 = h.1.2 in rw (date_session d h.1) (rw f refl)

  line_number : (f : Fact) → number_stated (line_for w p f) ≡ number_in w p f
  line_number (Seen c a s d) = last_seen w a c s d
  line_number (TermValue t a d) = refl
  line_number (SeenValue t a s d) = refl

  line_states : (f : Fact) → Fit f → States w p (line_for w p f)
  line_states f h g e =
      let same : Some f ≡ Some g = sym (line_is f h) ∙ e in
      let fact : f ≡ g = cc in
      line_number f ∙ ap (number_in w p) fact

  abbrev lines_of : List Fact → List Line
  lines_of done = map (line_for w p) done

  states_all : (done : List Fact) → Each Fit done → Each (States w p) (lines_of done)
  states_all done h = each_in_map (States w p) (line_for w p) done (each_more _ _ done line_states h)

  stands : (done : List Fact) (f : Fact) → Each Fit done → is_in done f ≡ true → is_stated w (lines_of done) f ≡ true
  stands [] f h i = absurd (true≢false (sym i))
  stands (g ∷ done) f h i = elim (or_cases (same_fact f g) (is_in done f) i) [
    | inl e ↦ let same : f ≡ g = same_is f g e in
        or_left (is_about w f (line_for w p g)) (is_stated w (lines_of done) f) (is_fact w f (line_for w p g) (line_is g h.0 ∙ ap Some (sym same)))
    | inr e ↦ or_right (is_about w f (line_for w p g)) (is_stated w (lines_of done) f) (stands done f h.1 e)
  ]

  fitting : (f : Fact) → Fit f → is_fitting w p f ≡ true
  fitting (Seen c a s d) h = h.0
  fitting (TermValue t a d) h = h.0
  fitting (SeenValue t a s d) h = h.0

  states_step_of : (r : Reading) (f : Fact) → single_step w p r f ≡ number_in w p f → states_step w p r (line_for w p f) f ≡ true
  states_step_of r (Seen c a s d) e = (slice_eq-Decides Decides-int_eq (seen_cells w a c s d) (seen_cells w a c s d) _ refl).1 refl
  states_step_of r (TermValue t a d) e =
      and_from (int_eq (number_in w p (TermValue t a d)) (single_step w p r (TermValue t a d))) (option_eq int_eq (known_day w p (TermValue t a d)) (known_day w p (TermValue t a d)))
      ((Decides-int_eq (number_in w p (TermValue t a d)) (single_step w p r (TermValue t a d))).1 (sym e)) (same_day (known_day w p (TermValue t a d)))
  states_step_of r (SeenValue t a s d) e = (Decides-int_eq (number_in w p (SeenValue t a s d)) (single_step w p r (SeenValue t a s d))).1 (sym e)

  -- a fact's line is right after those of its premises
  line_right : (done : List Fact) → Each Fit done → (f : Fact) → Fit f → Each (λ g. is_in done g ≡ true) (premises w p (number_in w p) f)
      → is_right w p (lines_of done) (line_for w p f) ≡ true
  line_right done h f fit behind =
      let r : Reading = reading_of w (lines_of done) in
      let agree : Each (λ g. number_in w p g ≡ reading_of w (lines_of done) g) (premises w p (number_in w p) f)
      = each_more _ _ (premises w p (number_in w p) f) (λ g i. sym (stated_true w p (lines_of done) g (states_all done h) (stands done g h i))) behind in
      let both = fact_same w p (number_in w p) (reading_of w (lines_of done)) f agree in
      let stated : list_all (is_stated w (lines_of done)) (premises w p (number_in w p) f) ≡ true
      = list_all_each (is_stated w (lines_of done)) (premises w p (number_in w p) f) (each_more _ _ (premises w p (number_in w p) f) (λ g i. stands done g h i) behind) in
      let stated_too : list_all (is_stated w (lines_of done)) (premises w p (reading_of w (lines_of done)) f) ≡ true = rw both.0 at stated in
      let step : states_step w p (reading_of w (lines_of done)) (line_for w p f) f ≡ true
      = states_step_of (reading_of w (lines_of done)) f (sym both.1 ∙ step_true w p known graph f) in
      rw (line_is f fit, fitting f fit, stated_too, step) refl

  -- ---- the walk

  -- facts that fit, and whose lines are right
  abbrev Goes : List Fact → Type 0
  Goes done = Each Fit done × (wrong_behind w p [] (lines_of done) ≡ None) × IsOnce done × IsClosed w p [] done

  abbrev Within : List Fact → List Fact → Type 0
  Within done out = (f : Fact) → is_in done f ≡ true → is_in out f ≡ true

  once_more : (done : List Fact) (f : Fact) → IsOnce done → is_in done f ≡ false → IsOnce (done ++ f ∷ [])
  once_more [] f h fresh = (refl, tt)
  once_more (x ∷ xs) f h fresh =
      let parts = or_false (same_fact f x) (is_in xs f) fresh in
      (list_any-append (same_fact x) xs (f ∷ []) ∙ rw (h.0, same_turned x f ∙ parts.0) refl, once_more xs f h.1 parts.1)
    where
      or_false : (a b : Bool) → (a || b) ≡ false → (a ≡ false) × (b ≡ false)
      or_false true b e = absurd (true≢false e)
      or_false false b e = (refl, e)

  goes_more : (done : List Fact) → Goes done → (f : Fact) → Fit f → Each (λ g. is_in done g ≡ true) (premises w p (number_in w p) f) → is_in done f ≡ false → Goes (done ++ f ∷ [])
  goes_more done h f fit behind fresh = (
    each_both Fit done (f ∷ []) h.0 (fit, tt),
    rw (map-append (line_for w p) done (f ∷ [])) (behind_right w p [] (lines_of done) (line_for w p f ∷ []) None h.1 (rw (line_right done h.0 f fit behind) refl)),
    once_more done f h.2 fresh,
    closed_more w p [] done f h.3 behind,
  )

  in_more : (done : List Fact) (f : Fact) → Within done (done ++ f ∷ [])
  in_more done f g h = list_any-append (same_fact g) done (f ∷ []) ∙ or_left (is_in done g) (is_in (f ∷ []) g) h

  -- what is new is of at most this depth
  abbrev IsNew : ℕ → List Fact → List Fact → Type 0
  IsNew most done out = (g : Fact) → is_in out g ≡ true → (is_in done g ≡ true) ⊎ (depth_of g ≤ most)

  abbrev Finishes : ℕ → Type 0
  Finishes depth = (done : List Fact) (f : Fact) → Goes done → Ready w p graph windows depth f
      → Goes (finish w p depth done f) × (is_in (finish w p depth done f) f ≡ true) × Within done (finish w p depth done f) × IsNew (depth_of f) done (finish w p depth done f)

  finish_all : (depth most : ℕ) → most ≤ depth → Finishes depth → (done : List Fact) (fs : List Fact) → Goes done → Each (Ready w p graph windows most) fs
      → Goes (fold (finish w p depth) done fs) × Each (λ g. is_in (fold (finish w p depth) done fs) g ≡ true) fs × Within done (fold (finish w p depth) done fs)
      × IsNew most done (fold (finish w p depth) done fs)
  finish_all depth most l one done [] h r = (h, tt, λ f i. i, λ g i. inl i)
  finish_all depth most l one done (f ∷ fs) h r =
      let low : depth_of f ≤ most = r.0.1 in
      let first = one done f h (r.0.0, omega arith) in
      let rest = finish_all depth most l one (finish w p depth done f) fs first.0 r.1 in (
        rest.0,
        (rest.2 f first.1, rest.1),
        λ g i. rest.2 g (first.2 g i),
        λ g i. elim (rest.3 g i) [
          | inl j ↦ elim (first.3 g j) [ inl k ↦ inl k | inr k ↦ inr (omega arith) ]
          | inr j ↦ inr j
        ],
      )

  -- what is finished before a fact
  abbrev behind : ℕ → List Fact → Fact → List Fact
  behind depth done f = fold (finish w p depth) done (premises w p (number_in w p) f)

  put_behind : (depth : ℕ) (done : List Fact) (f : Fact) → Goes done → Fit f → (b : Bool) → is_in done f ≡ b → (most : ℕ) → depth_of f ≡ suc most
      → (Goes (behind depth done f) × Each (λ g. is_in (behind depth done f) g ≡ true) (premises w p (number_in w p) f) × Within done (behind depth done f) × IsNew most done (behind depth done f))
      → Goes (finish w p (suc depth) done f) × (is_in (finish w p (suc depth) done f) f ≡ true) × Within done (finish w p (suc depth) done f) × IsNew (depth_of f) done (finish w p (suc depth) done f)
  put_behind depth done f h fit true e most is all = (rw e h, rw e e, λ g i. rw e i, λ g i. inl (rw e at i))
  put_behind depth done f h fit false e most is all = (
    rw e (goes_more (behind depth done f) all.0 f fit all.1 (fresh (cases_Bool (is_in (behind depth done f) f)))),
    rw e (in_last (behind depth done f) f),
    λ g i. rw e (in_more (behind depth done f) f g (all.2 g i)),
    λ g i. newer g (rw e at i),
  )
    where
      fresh : ((is_in (behind depth done f) f ≡ true) ⊎ (is_in (behind depth done f) f ≡ false)) → is_in (behind depth done f) f ≡ false
      fresh (inr n) = n
      fresh (inl y) = elim (all.3 f y) [ inl i ↦ absurd (true≢false (sym i ∙ e)) | inr l ↦ absurd (omega arith) ]

      newer : (g : Fact) → is_in (behind depth done f ++ f ∷ []) g ≡ true → (is_in done g ≡ true) ⊎ (depth_of g ≤ depth_of f)
      newer g i = elim (or_cases (is_in (behind depth done f) g) (is_in (f ∷ []) g) (sym (list_any-append (same_fact g) (behind depth done f) (f ∷ [])) ∙ i)) [
        | inl j ↦ elim (all.3 g j) [ inl k ↦ inl k | inr k ↦ inr (omega arith) ]
        | inr j ↦ elim (or_cases (same_fact g f) false j) [
          | inl k ↦ (let same : g ≡ f = same_is g f k in let deep : depth_of g ≡ depth_of f = ap depth_of same in inr (omega arith))
          | inr k ↦ absurd (true≢false (sym k))
        ]
      ]

  some_depth : (f : Fact) → depth_of f ≡ 0 → ⊥
  some_depth (Seen c a s d) l = omega arith
  some_depth (TermValue t a d) l = omega arith
  some_depth (SeenValue t a s d) l = omega arith

  finish_one : (depth : ℕ) → Finishes depth
  finish_one zero done f h r = absurd (some_depth f (let l : depth_of f ≤ 0 = r.1 in omega arith))
  finish_one (suc depth) done f h r = by_depth (depth_of f) refl (finish_one depth)
    where
      by_depth : (n : ℕ) → depth_of f ≡ n → Finishes depth
          → Goes (finish w p (suc depth) done f) × (is_in (finish w p (suc depth) done f) f ≡ true) × Within done (finish w p (suc depth) done f) × IsNew (depth_of f) done (finish w p (suc depth) done f)
      by_depth zero e one = absurd (some_depth f e)
      by_depth (suc most) e one =
          let l : depth_of f ≤ suc depth = r.1 in
          put_behind depth done f h r.0 (is_in done f) refl most e
          (finish_all depth most (omega arith) one done (premises w p (number_in w p) f) h (premises_ready w p graph windows (number_in w p) f most r.0 (omega arith)))

  -- the lines of a derivation are about its facts, each of which stands after its premises
  pub walked : (t a d : ℕ) → IsAsked w p t a d
      → Each (λ f. fact_of w (line_for w p f) ≡ Some f) (facts_for w p (TermValue t a (pos d))) × IsClosed w p [] (facts_for w p (TermValue t a (pos d)))
  walked t a d ask =
      let fit : Fit (TermValue t a (pos d)) = (and_from _ _ ask.known ask.used, (d, ask.day, refl, ask.session), ask.reached) in
      let all = finish_one (suc (suc t)) [] (TermValue t a (pos d)) (tt, refl, tt, tt) (fit, omega arith) in
      (each_more Fit (λ f. fact_of w (line_for w p f) ≡ Some f) (facts_for w p (TermValue t a (pos d))) line_is all.0.0, all.0.3)

  -- The law: the derivation of a value is right, and ends with it.
  pub complete : (t a d : ℕ) → IsAsked w p t a d → IsDerivation w p t a d (derivation w p t a (pos d))
  complete t a d ask =
      let fit : Fit (TermValue t a (pos d)) = (and_from _ _ ask.known ask.used, (d, ask.day, refl, ask.session), ask.reached) in
      let all = finish_one (suc (suc t)) [] (TermValue t a (pos d)) (tt, refl, tt, tt) (fit, omega arith) in
      record {
        right = ap (option_map suc) all.0.1;
        once = all.0.2;
        front = lines_of (fold (finish w p (suc t)) [] (premises w p (number_in w p) (TermValue t a (pos d))));
        last = map-append (line_for w p) (fold (finish w p (suc t)) [] (premises w p (number_in w p) (TermValue t a (pos d)))) (TermValue t a (pos d) ∷ []);
      }
