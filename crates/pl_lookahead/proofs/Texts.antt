-- Tables of commands that agree up to a session are the same bytes.
use Rattle.std.proofs.Common.{◌≡◌, inl, inr, ℕ, ◌≤◌, Bool, ℤ, ◌≤ℤ◌, List, ◌++◌, filter, get_or, Option, Some, None, option_map, unwrap_or, refl, sym, ◌∙◌, ap, arith, slice_get}
use Rattle.std.specs.Ordering.{int_eq}
use Rattle.std.proofs.lemmas.List.Elements.{filter-append}
use Rattle.std.proofs.lemmas.List.Quantifiers.{position-Some}
use Rattle.std.proofs.lemmas.Option.{slice_get-get_or}
use Rattle.pl_spec.specs.declared.Column.{Column}
use Rattle.pl_spec.specs.declared.Format.{Format}
use Rattle.pl_spec.specs.Window.{effects_in}
use Rattle.pl_spec.specs.World.{World, Adjustment, events_of}
use Rattle.pl_spec.proofs.Signed.{int_eq-true}
use Rattle.pl_pipeline.specs.Table.{Pipeline, table}
use Rattle.pl_pipeline.specs.Text.{text}
use Rattle.pl_outside.specs.declared.keeper.Table.TheVariants.{Splits, Mergers, Dividends}
use Rattle.pl_words.specs.declared.request.InputFile.TheVariants.{Pipeline as PipelineFile}
use Rattle.pl_words.specs.Request.{Request, RunRequest, WorldNames, numbers_named}
use Rattle.pl_load.specs.declared.fault.Fault.{Fault}
use Rattle.pl_load.specs.Contents.{Contents}
use Rattle.pl_load.specs.Ends.{Ends}
use Rattle.pl_load.specs.Faults.{judged_status}
use Rattle.pl_load.specs.Held.{days_held, pipeline_held, world_held}
use Rattle.pl_load.specs.Range.{session_of, index_of, range_steps, dates_steps, plan_steps}
use Rattle.pl_load.specs.Steps.{WorkStep, first_fault}
use Rattle.pl_load.specs.Work.{work, run_work, evaluated_steps, data_steps}
use Rattle.pl_cli.specs.Texts.{text_of, run_text}
use Rattle.pl_cli.proofs.Finished.{not-zero}
use Rattle.pl_lookahead.specs.Agreement.{AgreeUpTo, is_of, of_table_held, revisions_held}
use Rattle.pl_lookahead.specs.Laws.{AsksTable, AskAlike, HasNoFault, LaterDataChangeNoByte}
use Rattle.pl_lookahead.proofs.Dates.{by_place, one_place}
use Rattle.pl_lookahead.proofs.Effects.{effects-same}
use Rattle.pl_lookahead.proofs.Held.{apart, days-are, held-events, held-once, told_tables}
use Rattle.pl_lookahead.proofs.Known.{texts-same}
use Rattle.pl_lookahead.proofs.Readable.{AreRead, data-read, dates-found, first-none}

-- ---- a run without a fault

-- its data are read, and its range is one of sessions
pub record IsJudged (held : Contents) (q : RunRequest) : Type 0 where
  pub read : AreRead held q.world
  pub from : ℕ
  pub from_at : slice_get (days_held held) from ≡ Some q.from.day
  pub from_is : index_of (days_held held) q.from.day ≡ from
  pub to : ℕ
  pub to_at : slice_get (days_held held) to ≡ Some q.to.day
  pub to_is : index_of (days_held held) q.to.day ≡ to
  pub forward : from ≤ to
  pub plan : first_fault (plan_steps (pipeline_held held) (days_held held) (index_of (days_held held) q.from.day) (index_of (days_held held) q.to.day)) ≡ None

pub place-at : (days : List ℤ) (day : ℤ) (i : ℕ) → session_of days day ≡ Some i → slice_get days i ≡ Some day
place-at days day i f =
    let at = position-Some (λ x. int_eq x day) days i day f in
    slice_get-get_or days i day at.0 ∙ ap Some (int_eq-true (get_or days i day) day at.1)

run-judged : (held : Contents) (q : RunRequest) → first_fault (run_work held q) ≡ None → IsJudged held q
run-judged held q h =
    let days = days_held held in
    let range = range_steps (pipeline_held held) days q.from q.to q.options.as_of in
    let plan = plan_steps (pipeline_held held) days (index_of days q.from.day) (index_of days q.to.day) in
    let one = first-none (evaluated_steps (held.file PipelineFile) (numbers_named q.world)) (data_steps held q.world ++ range) h in
    let two = first-none (data_steps held q.world) range one.1 in
    let three = first-none (dates_steps q.from q.to q.options.as_of days) plan two.1 in
    let at = dates-found q.from q.to q.options.as_of days three.0 in
    record {
      read = data-read held q.world two.0;
      from = at.first;
      from_at = place-at days q.from.day at.first at.first_is;
      from_is = ap (λ o. unwrap_or o 0) at.first_is;
      to = at.last;
      to_at = place-at days q.to.day at.last at.last_is;
      to_is = ap (λ o. unwrap_or o 0) at.last_is;
      forward = at.forward;
      plan = three.1;
    }

pub judged : (held : Contents) (a : Request) (q : RunRequest) → AsksTable a q → HasNoFault held a → IsJudged held q
unfolding work
judged held a q asks h = elim asks [
  | inl run ↦ run-judged held q (rw run at h)
  | inr daily ↦ run-judged held q (rw daily at h)
]

pub asked-text : (held : Contents) (a : Request) (q : RunRequest) → AsksTable a q → text_of held (Some a) ≡ run_text held q
unfolding text_of
asked-text held a q asks = elim asks [ inl run ↦ rw run refl | inr daily ↦ rw daily refl ]

-- ---- two commands that agree

module _ (one other : Contents) (q r : WorldNames) (d : ℕ) (day : ℤ) (agree : AgreeUpTo one other q r d day) (read : AreRead one q) (read' : AreRead other r) where
  tables-same : (sid : ℕ) (x : ℤ) → x ≤ℤ day → filter (is_of sid x) (told_tables one q read) ≡ filter (is_of sid x) (told_tables other r read')
  tables-same sid x h =
      let p : Adjustment → Bool = is_of sid x in
      let us = of_table_held one q in
      let vs = of_table_held other r in
      filter-append p (us Splits ++ us Mergers) (us Dividends)
      ∙ ap (λ l. l ++ filter p (us Dividends)) (filter-append p (us Splits) (us Mergers))
      ∙ ap (λ l. (l ++ filter p (us Mergers)) ++ filter p (us Dividends)) (agree.tables Splits sid x h)
      ∙ ap (λ l. (filter p (vs Splits) ++ l) ++ filter p (us Dividends)) (agree.tables Mergers sid x h)
      ∙ ap (λ l. (filter p (vs Splits) ++ filter p (vs Mergers)) ++ l) (agree.tables Dividends sid x h)
      ∙ ap (λ l. l ++ filter p (vs Dividends)) (sym (filter-append p (vs Splits) (vs Mergers)))
      ∙ sym (filter-append p (vs Splits ++ vs Mergers) (vs Dividends))

  pub changes-same : (sid : ℕ) (c : Column) (bar low high : ℤ) → high ≤ℤ day
      → effects_in c bar low high (events_of (world_held one q) sid) ≡ effects_in c bar low high (events_of (world_held other r) sid)
  changes-same sid c bar low high h =
      ap (effects_in c bar low high) (held-events one q read sid)
      ∙ effects-same sid c bar low high day h (told_tables one q read) (told_tables other r read') (revisions_held one q) (revisions_held other r) (apart one q read) (tables-same sid) agree.revisions
      ∙ sym (ap (effects_in c bar low high) (held-events other r read' sid))

  world-texts : (p : Pipeline) (format : Format) (from to : ℕ) → to ≤ d
      → text (world_held one q) p format (table (world_held one q) p from to) ≡ text (world_held other r) p format (table (world_held other r) p from to)
  world-texts = texts-same (world_held one q) (world_held other r) d day (held-once one q read) (held-once other r read').world agree.rows changes-same

runs-same : (one other : Contents) (q r : RunRequest) (d : ℕ) (day : ℤ) → AskAlike q r day → AgreeUpTo one other q.world r.world d day
    → IsJudged one q → IsJudged other r → run_text one q ≡ run_text other r
runs-same one other q r d day alike agree is is' =
    let days = days_held one in
    let others = days_held other in
    let up = (days-are one q.world is.read).ascend in
    let up' = (days-are other r.world is'.read).ascend in
    let last : is.to ≤ d = by_place days up is.to d q.to.day day is.to_at agree.rows.is_day alike.by_day in
    let from : is.from ≡ is'.from = one_place days others up up' d day agree.rows.is_day agree.rows.sessions is.from is'.from q.from.day (omega (arith, is.forward)) is.from_at (is'.from_at ∙ ap Some (sym alike.from)) in
    let to : is.to ≡ is'.to = one_place days others up up' d day agree.rows.is_day agree.rows.sessions is.to is'.to q.to.day last is.to_at (is'.to_at ∙ ap Some (sym alike.to)) in
    let w = world_held one q.world in
    let v = world_held other r.world in
    let shown : World → Pipeline → Format → ℕ → ℕ → List ℕ = λ w p format from to. text w p format (table w p from to) in
    ap (λ p. shown w p q.options.format (index_of days q.from.day) (index_of days q.to.day)) agree.pipelines
    ∙ ap (λ f. shown w (pipeline_held other) f (index_of days q.from.day) (index_of days q.to.day)) alike.format
    ∙ ap (λ i. shown w (pipeline_held other) r.options.format i (index_of days q.to.day)) is.from_is
    ∙ ap (λ j. shown w (pipeline_held other) r.options.format is.from j) is.to_is
    ∙ world-texts one other q.world r.world d day agree is.read is'.read (pipeline_held other) r.options.format is.from is.to last
    ∙ ap (λ i. shown v (pipeline_held other) r.options.format i is.to) (from ∙ sym is'.from_is)
    ∙ ap (λ j. shown v (pipeline_held other) r.options.format (index_of others r.from.day) j) (to ∙ sym is'.to_is)

texts : (one other : Contents) (a b : Request) (q r : RunRequest) (d : ℕ) (day : ℤ) → AsksTable a q → AsksTable b r → AskAlike q r day
    → AgreeUpTo one other q.world r.world d day → HasNoFault one a → HasNoFault other b → text_of one (Some a) ≡ text_of other (Some b)
texts one other a b q r d day asks asks' alike agree none none' =
    asked-text one a q asks
    ∙ runs-same one other q r d day alike agree (judged one a q asks none) (judged other b r asks' none')
    ∙ sym (asked-text other b r asks')

-- ---- runs of status 0

pub ended-well : (steps : List WorkStep) (asked : Option Request) (line : List ℕ) → Ends steps asked 0 line → first_fault steps ≡ None
ended-well steps asked line ends = elim ends [
  | inl told ↦ here (first_fault steps) refl told.0
  | inr more ↦ elim more [
    | inl unread ↦ absurd (cc (unread.1.0))
    | inr more ↦ elim more [
      | inl unloaded ↦ absurd (cc (unloaded.1.0))
      | inr more ↦ elim more [ inl unwritten ↦ absurd (cc (unwritten.0.0)) | inr memory ↦ absurd (cc (memory.0)) ]
    ]
  ]
]
  where
    here : (o : Option Fault) → first_fault steps ≡ o → 0 ≡ judged_status o → first_fault steps ≡ None
    here None e h = e
    here (Some f) e h = absurd (not-zero f (sym h))

pub later-data-change-no-byte : LaterDataChangeNoByte
later-data-change-no-byte = record {
  texts = texts;
  runs = λ o p a b q r d day line other_line numbers other_numbers asks asks' alike first second agree. (
    text_of second.held (Some b),
    first.text refl ∙ ap (λ t. option_map (λ front. front ++ t) o.out.before.taken)
        (texts first.held second.held a b q r d day asks asks' alike agree (ended-well (work first.held (Some a)) (Some a) line first.ends) (ended-well (work second.held (Some b)) (Some b) other_line second.ends)),
    second.text refl,
  );
}
