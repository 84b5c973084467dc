-- A day that is taken in.
use Rattle.std.proofs.Common.{◌≡◌, ℕ, suc, ◌+◌, ◌<◌, ◌≤◌, ◌==◌, ◌^◌, if◌then◌else◌, Bool, true, false, ℤ, pos, neg_ℤ, ◌<ℤ◌, ◌≤ℤ◌, ◌+ℤ◌, List, [], ◌∷◌, length, map, get_or, Option, Some, None, refl, sym, ◌∙◌, ap, subst, arith, All, AllPairs}
use Rattle.std.specs.Int.RustNames.{int_le}
use Rattle.std.proofs.lemmas.Bool.{ne_eqb}
use Rattle.std.proofs.lemmas.Int.{ints}
use Rattle.std.proofs.lemmas.List.{get_or-map, length-map, nil_from_length}
use Rattle.std.proofs.lemmas.Option.{get_or_from_slice_get, slice_get_within}
use Rattle.circular_buffer.proofs.Places.{slice_get-some}
use Rattle.pl_pipeline.specs.Lows.{least_reach}
use Rattle.pl_spec.specs.Parts.{ColumnAdjustment, sid_at}
use Rattle.pl_spec.specs.Periods.{period_start}
use Rattle.pl_pipeline.specs.Table.{Pipeline}
use Rattle.pl_adjust.specs.Events.{PutsCell}
use Rattle.pl_terms.specs.Checked.{IsChecked}
use Rattle.pl_terms.specs.Uses.{outputs}
use Rattle.pl_daily.specs.declared.columns.BarRings.{BarRings}
use Rattle.pl_daily.specs.declared.day.DayBar.{DayBar}
use Rattle.pl_daily.specs.declared.day.DayEvent.{DayEvent}
use Rattle.pl_daily.specs.Changes.{IsHandedIn, column_event}
use Rattle.pl_daily.specs.Columns.{FollowColumns}
use Rattle.pl_daily.specs.Days.{Start, FedDay, days_of, last_day, last_session, AreFed, IsLaterThan, MayFollow}
use Rattle.pl_daily.proofs.Fed.{fed_is_a_world, length-days}
use Rattle.pl_daily.specs.declared.term_day.TermCells.{TermCells}
use Rattle.pl_daily.specs.Rows.{row_of}
use Rattle.pl_daily.specs.TermDays.{number_row}
use Rattle.pl_daily.specs.declared.starts.StartCells.{StartCells}
use Rattle.pl_daily.specs.Daily.{Held, HasBeenFed, last_of, start_in}
use Rattle.pl_daily.specs.Kept.{kept_places}
use Rattle.pl_daily.specs.Reaches.{AreFirst, AreStarts, FollowFirst}
use Rattle.pl_daily.specs.Steps.{Answers, IsMidway, TakeTerms, sessions_of}
use Rattle.pl_daily.specs.Terms.{HoldStarts, HoldTerms}
use Rattle.pl_daily.proofs.Begins.{days_are}
use Rattle.pl_daily.proofs.KeptPlaces.{IsScreenRow, kept_are_places}
use Rattle.pl_daily.proofs.Outputs.{downsample-input, screen-used}
use Rattle.pl_planner.proofs.Pipelines.{screen-in}

-- ---- lists

All-of : {X Y : Type 0} (P : Y → Type 0) (f : X → Y) (xs : List X) → All P (map f xs) → All (λ x. P (f x)) xs
All-of P f xs all k d l = subst P (get_or-map f xs k d (f d) l) (all k (f d) (let e = length-map xs f in omega (arith, l, e)))

-- a day's events are of the assets
pub events_within : (g : Start) (next : FedDay) (days : List FedDay) (events : List DayEvent) → AreFed g (next ∷ days) → next.events ≡ map column_event events → All (λ (e : DayEvent). e.col < length g.assets) events
events_within g next days events are e =
    All-of (λ (x : ColumnAdjustment). x.col < length g.assets) column_event events (subst (All (λ (x : ColumnAdjustment). x.col < length g.assets)) e are.2.events_in)

now_last : (n : ℕ) (d : ℤ) → (if n + 1 == 0 then None else Some d) ≡ Some d
now_last n d = let no_zero : (n + 1 == 0) ≡ false = ne_eqb (n + 1) 0 (λ e. omega (arith, e)) in rw no_zero refl

-- days ascend, so that there are not many
early_more : (n : ℕ) (a b : ℤ) → pos n ≤ℤ (a +ℤ pos 25567) → a <ℤ b → pos (suc n) ≤ℤ (b +ℤ pos 25567)
early_more n a b h l = omega (arith, ints)

early_none : (day : ℤ) → neg_ℤ (pos 25567) ≤ℤ day → pos 0 ≤ℤ (day +ℤ pos 25567)
early_none day h = omega (arith, ints)

few_before : (g : Start) (days : List FedDay) (day : ℤ) → AreFed g days → IsLaterThan (last_day days) day → neg_ℤ (pos 25567) ≤ℤ day → pos (length days) ≤ℤ (day +ℤ pos 25567)
few_before g [] day are later low = early_none day low
few_before g (d ∷ earlier) day are later low = early_more (length earlier) d.day day (few_before g earlier d.day are.0 are.1 are.2.is_day.first) later

few_in_all : (n : ℕ) (day : ℤ) → pos n ≤ℤ (day +ℤ pos 25567) → day ≤ℤ pos 84005 → n ≤ 109572
few_in_all n day h l = omega (arith, ints)

-- ---- a day as it is handed in

abbrev pub next_of : ℤ → List DayBar → List DayEvent → FedDay
next_of day bars events = record { day = day; bars = bars; events = map column_event events }

module _ (h : Held) (day : ℤ) (bars : List DayBar) (events : List DayEvent) (days : List FedDay) (later : IsLaterThan (last_of h) day) (stands : HasBeenFed h days)
    (may : MayFollow (start_in h) days (next_of day bars events)) where
  abbrev next : FedDay
  next = next_of day bars events

  abbrev g : Start
  g = start_in h

  abbrev p : Pipeline
  p = h.pipeline

  abbrev xs : List FedDay
  xs = next ∷ days

  follows : AreFed g xs
  follows = (stands.are_fed, subst (λ o. IsLaterThan o day) stands.last later, may)

  pub handed_in : IsHandedIn (length h.assets) h.fed bars events
  handed_in = record {
    ascend = may.bars_ascend;
    within = may.bars_in;
    cells = may.cells;
    first = λ none. may.first_has_no_bars (nil_from_length days (sym stands.fed ∙ none));
    events_in = All-of (λ (x : ColumnAdjustment). x.col < length h.assets) column_event events may.events_in;
    put_cells = All-of (λ (x : ColumnAdjustment). PutsCell x.event) column_event events may.put_cells;
  }

  pub few : h.fed < 2 ^ 32
  few =
      let n : length days ≤ 109572 = few_in_all (length days) day (few_before g days day stands.are_fed (subst (λ o. IsLaterThan o day) stands.last later) may.is_day.first) may.is_day.last in
      let e = stands.fed in
      omega (arith, n, e)

  pub midway : (b : BarRings) → FollowColumns day bars events h.fed h.bars b → IsMidway (record h { bars = b }) day (map column_event events) next days
  midway b follow = record {
    start = stands.start;
    are_fed = follows;
    is = refl;
    brought = refl;
    last = sym stands.last;
    count = sym stands.fed;
    bars = follow g next days stands.start follows refl (sym stands.fed) (record { bars = refl; events = refl }) stands.bars;
    terms = record { each = stands.terms };
    starts = stands.starts;
  }

  -- the session of the day: its terms and starts stand
  module _ (ok : IsChecked p) (terms : List TermCells) (starts : List StartCells) (holds : HoldTerms g xs p terms × HoldStarts g xs p starts)
      (many : length terms ≡ length p.graph) (all : length starts ≡ length p.graph) where
    rises : AllPairs (λ a b. a <ℤ b) (days_of xs)
    rises = subst (AllPairs (λ a b. a <ℤ b)) (days_are g xs) (fed_is_a_world g xs stands.start follows).days_ascend

    starts_known : AreStarts (days_of xs) p h.fed (sessions_of starts)
    starts_known k n f used at kind =
        let inside : k < length starts = (let l = slice_get_within p.graph k n at in omega (arith, l, all)) in
        let s = slice_get-some starts k inside in
        let input = downsample-input p ok k n f at kind in
        let held = holds.1.each k s.0 s.1 f input.0 (record { node = n; used = used; at = at; kind = kind; input = input.1 }) in
        let cell : get_or (sessions_of starts) k 0 ≡ (s.0).session
        = get_or-map (λ (x : StartCells). x.session) starts k s.0 0 inside ∙ ap (λ (x : StartCells). x.session) (get_or_from_slice_get starts k s.0 s.0 s.1) in
        ap pos cell ∙ held.session (omega arith) ∙ ap (λ m. period_start f (days_of xs) (pos m)) (sym stands.fed)

    screen_row_is : (s : Option ℕ) → p.screen ≡ s → IsScreenRow g next days p s (number_row terms s)
    screen_row_is None e = tt
    screen_row_is (Some t) e =
        let inside : t < length terms = (let l = screen-in p ok t e in omega (arith, l, many)) in
        let c = slice_get-some terms t inside in
        λ i l. ap (λ o. get_or (row_of o) i (pos 0)) c.1 ∙ (holds.0.each t c.0 (screen-used p ok t e) c.1).row i l

    module _ (since : List (Option ℕ)) (follow : FollowFirst p (sessions_of starts) h.fed h.since since) where
      firsts : AreFirst (days_of xs) p since
      firsts = follow (days_of days) day rises (length-days days ∙ sym stands.fed) starts_known stands.since

      answer_is : (answer : Bool) → Answers p since answer → answer ≡ int_le (pos 0) (least_reach (days_of xs) p.graph (outputs p) (last_session xs))
      answer_is answer told = told (days_of days) day rises firsts ∙ ap (λ m. int_le (pos 0) (least_reach (days_of xs) p.graph (outputs p) (pos m))) (length-days days)

      pub stands_for : (b : BarRings) (answer : Bool) (count : ℕ) (last : ℤ) (kept : List ℕ) → FollowColumns day bars events h.fed h.bars b → Answers p since answer → count ≡ h.fed + 1 → last ≡ day
          → (answer ≡ true → kept ≡ kept_places h.assets last (number_row terms p.screen))
          → HasBeenFed (record h { bars = b; terms = terms; starts = starts; since = since; answered = answer; fed = count; last = last; kept = kept }) xs
      stands_for b answer count last kept bars_follow told fed_is last_is kept_is = record {
        start = stands.start;
        are_fed = follows;
        fed = (let e = stands.fed in omega (arith, e, fed_is));
        last = ap (λ n. if n == 0 then None else Some last) fed_is ∙ now_last h.fed last ∙ ap Some last_is;
        bars = (midway b bars_follow).bars;
        terms = holds.0.each;
        starts = holds.1;
        since = firsts;
        answered = λ some. answer_is answer told;
        kept = λ yes.
            ap (map (sid_at h.assets)) (kept_is yes)
            ∙ ap (λ d. map (sid_at h.assets) (kept_places h.assets d (number_row terms p.screen))) last_is
            ∙ kept_are_places g next days p ok stands.start follows (number_row terms p.screen) (screen_row_is p.screen refl);
      }

-- ---- all parts of a day

module _ (h h1 h2 h3 h4 : Held) (r1 : h1 ≡ record h { bars = h1.bars }) (r2 : h2 ≡ record h1 { terms = h2.terms; starts = h2.starts })
    (r3 : h3 ≡ record h2 { since = h3.since; answered = h3.answered; fed = h3.fed; last = h3.last }) (r4 : h4 ≡ record h3 { kept = h4.kept }) where
  second : h2 ≡ record h { bars = h1.bars; terms = h2.terms; starts = h2.starts }
  second = r2 ∙ ap (λ (k : Held). record k { terms = h2.terms; starts = h2.starts }) r1

  third : h3 ≡ record h { bars = h1.bars; terms = h2.terms; starts = h2.starts; since = h3.since; answered = h3.answered; fed = h3.fed; last = h3.last }
  third = r3 ∙ ap (λ (k : Held). record k { since = h3.since; answered = h3.answered; fed = h3.fed; last = h3.last }) second

  fourth : h4 ≡ record h { bars = h1.bars; terms = h2.terms; starts = h2.starts; since = h3.since; answered = h3.answered; fed = h3.fed; last = h3.last; kept = h4.kept }
  fourth = r4 ∙ ap (λ (k : Held). record k { kept = h4.kept }) third

  pub still_fed : h2.fed ≡ h.fed
  still_fed = ap (λ (k : Held). k.fed) second

  pub stands_on : (day : ℤ) (bars : List DayBar) (events : List DayEvent) (days : List FedDay) → IsLaterThan (last_of h) day → IsChecked h.pipeline
      → FollowColumns day bars events h.fed h.bars h1.bars → TakeTerms day (map column_event events) h1 h2 → length h2.terms ≡ length h1.pipeline.graph → length h2.starts ≡ length h1.pipeline.graph
      → FollowFirst h2.pipeline (sessions_of h2.starts) h2.fed h2.since h3.since → Answers h2.pipeline h3.since h3.answered → h3.fed ≡ h2.fed + 1 → h3.last ≡ day
      → (h3.answered ≡ true → h4.kept ≡ kept_places h3.assets h3.last (number_row h3.terms h3.pipeline.screen))
      → HasBeenFed h days → MayFollow (start_in h) days (next_of day bars events) → HasBeenFed h4 (next_of day bars events ∷ days)
  stands_on day bars events days later ok bars_follow take many all follow told fed_is last_is kept stands may =
      let next : FedDay = next_of day bars events in
      let mid : IsMidway h1 day (map column_event events) next days = subst (λ k. IsMidway k day (map column_event events) next days) (sym r1) (midway h day bars events days later stands may h1.bars bars_follow) in
      let holds : HoldTerms (start_in h) (next ∷ days) h.pipeline h2.terms × HoldStarts (start_in h) (next ∷ days) h.pipeline h2.starts
      = subst (λ (k : Held). HoldTerms (start_in k) (next ∷ days) k.pipeline h2.terms × HoldStarts (start_in k) (next ∷ days) k.pipeline h2.starts) r1 (take next days mid) in
      let graph : length h1.pipeline.graph ≡ length h.pipeline.graph = ap (λ (k : Held). length k.pipeline.graph) r1 in
      subst (λ k. HasBeenFed k (next ∷ days)) (sym fourth)
      (stands_for h day bars events days later stands may ok h2.terms h2.starts holds (many ∙ graph) (all ∙ graph) h3.since
      (subst (λ (k : Held). FollowFirst k.pipeline (sessions_of h2.starts) k.fed k.since h3.since) second follow)
      h1.bars h3.answered h3.fed h3.last h4.kept bars_follow (subst (λ (k : Held). Answers k.pipeline h3.since h3.answered) second told) (fed_is ∙ ap (λ n. n + 1) still_fed) last_is
      (subst (λ (k : Held). h3.answered ≡ true → h4.kept ≡ kept_places k.assets k.last (number_row k.terms k.pipeline.screen)) third kept))
