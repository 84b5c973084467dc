-- A session that is fed.
use Rattle.std.proofs.Common.{◌≡◌, ℕ, suc, ◌+◌, ◌<◌, ℤ, pos, List, ◌∷◌, length, map, get_or, Some, sym, ◌∙◌, ap, subst, arith, slice_get}
use Rattle.std.proofs.lemmas.Option.{slice_get-get_or}
use Rattle.pl_spec.specs.declared.AssetRow.{AssetRow}
use Rattle.pl_spec.specs.Parts.{ColumnAdjustment, ColumnNumber, sid_at}
use Rattle.pl_pipeline.specs.Table.{NamedColumn, Pipeline, in_array, table_row, session_rows, value_of}
use Rattle.pl_assets.specs.Labels.{LabelTable}
use Rattle.pl_values.specs.Arrays.{cell_of}
use Rattle.pl_table.proofs.Outputs.{cell-is, sid-of-place}
use Rattle.pl_world.specs.declared.world.World.{World}
use Rattle.pl_world.specs.Worlds.{AreSound, world_of}
use Rattle.pl_daily.specs.declared.day.DayBar.{DayBar}
use Rattle.pl_daily.specs.Days.{FedDay, IsLaterThan, MayFollow, fed, last_day, last_session}
use Rattle.pl_daily.specs.Daily.{Held, HasBeenFed, last_of, start_in}
use Rattle.pl_daily.specs.Terms.{start_of}
use Rattle.pl_runner.specs.Days.{IsFed, bars_due, day_at, events_due, fed_day, fed_days, fed_world, start_of_world}
use Rattle.pl_runner.proofs.Following.{later, many, may_follow}
use Rattle.pl_runner.specs.declared.session.FedSession.{FedSession}
use Rattle.pl_runner.specs.Sessions.{IsFedSession, pipeline_in, sids_in, world_in}
use Rattle.pl_runner.proofs.Values.{at-more, at-suc, session-rows, values}

-- the news of a session
pub news-are : (w : World) (s : ℕ) (d : FedDay) → d.day ≡ day_at w.sessions.now s → d.bars ≡ bars_due w.bars.now (length w.assets.now) s
    → d.events ≡ events_due w.sessions.now w.adjustments.now (length w.assets.now) s → d ≡ fed_day w s
news-are w s d day bars events =
    ap (λ (x : ℤ). made x d.bars d.events) day ∙ ap (λ (x : List DayBar). made (day_at w.sessions.now s) x d.events) bars
    ∙ ap (made (day_at w.sessions.now s) (bars_due w.bars.now (length w.assets.now) s)) events
  where
    made : ℤ → List DayBar → List ColumnAdjustment → FedDay
    made x y z = record { day = x; bars = y; events = z }

module _ (w : World) (p : Pipeline) (s : ℕ) (h : Held) (is : IsFed w p s h) where
  start-is : start_in h ≡ start_of_world w
  start-is =
      ap (λ (xs : List AssetRow). start_of xs h.labels h.numbers) is.assets ∙ ap (λ (t : LabelTable). start_of w.assets.now t h.numbers) is.labels
      ∙ ap (start_of w.assets.now w.labels.now) is.numbers

  module _ (sound : AreSound w) (within : s < length w.sessions.now) where
    pub next-follows : (d : FedDay) → d ≡ fed_day w s → MayFollow (start_in h) (fed_days w s) d
    next-follows d e =
        subst (λ g. MayFollow g (fed_days w s) d) (sym start-is) (subst (λ (x : FedDay). MayFollow (start_of_world w) (fed_days w s) x) (sym e) (may_follow w sound s within))

    pub next-later : (day : ℤ) → day ≡ day_at w.sessions.now s → IsLaterThan (last_of h) day
    next-later day e =
        subst (λ o. IsLaterThan o day) (sym is.stands.last) (subst (λ (x : ℤ). IsLaterThan (last_day (fed_days w s)) x) (sym e) (later w sound s within))

  pub next-fed : (new : Held) (d : FedDay) → d ≡ fed_day w s → new.pipeline ≡ h.pipeline → new.assets ≡ h.assets → new.labels ≡ h.labels → new.numbers ≡ h.numbers → new.fed ≡ h.fed + 1
      → HasBeenFed new (d ∷ fed_days w s) → IsFed w p (s + 1) new
  next-fed new d e pipeline assets labels numbers count stands =
      at-more w p s new
      (record {
        pipeline = pipeline ∙ is.pipeline;
        assets = assets ∙ is.assets;
        labels = labels ∙ is.labels;
        numbers = numbers ∙ is.numbers;
        count = omega (arith, count, is.count);
        stands = subst (λ (x : FedDay). HasBeenFed new (x ∷ fed_days w s)) e stands;
      })

-- ---- the cell of a column for an asset that is kept

abbrev pub Gives : Held → ℕ → ℕ → ℤ → Type 0
Gives h column i x = (days : List FedDay) (c : NamedColumn) (a : ℕ) → HasBeenFed h days → slice_get h.pipeline.columns column ≡ Some c → slice_get h.kept i ≡ Some a
    → x ≡ in_array h.labels.texts (value_of (fed (start_in h) days) h.pipeline c.term (sid_at h.assets a) (last_session days))

cell-here : (w : World) (p : Pipeline) (s : ℕ) (h : Held) → IsFed w p (s + 1) h
    → ((t a : ℕ) → value_of (fed_world w (s + 1)) p t a (pos s) ≡ value_of (world_of w) p t a (pos s))
    → (column i : ℕ) (x : ℤ) → Gives h column i x → i < length h.kept → (c : NamedColumn) → slice_get p.columns column ≡ Some c
    → x ≡ cell_of (world_of w) p (map (sid_at w.assets.now) h.kept) c.term i s
cell-here w p s h is same column i x gives inside c at =
    let own = at-suc w p s h is in
    let days = fed_days w (suc s) in
    let a = get_or h.kept i 0 in
    let more : suc s ≡ s + 1 = omega arith in
    gives days c a own.stands (ap (λ (q : Pipeline). slice_get q.columns column) own.pipeline ∙ at) (slice_get-get_or h.kept i 0 inside)
    ∙ ap (λ (xs : List AssetRow). in_array h.labels.texts (value_of (fed (start_of xs h.labels h.numbers) days) h.pipeline c.term (sid_at xs a) (last_session days))) own.assets
    ∙ ap (λ (t : LabelTable). in_array t.texts (value_of (fed (start_of w.assets.now t h.numbers) days) h.pipeline c.term (sid_at w.assets.now a) (last_session days))) own.labels
    ∙ ap (λ (ns : List ColumnNumber). in_array w.labels.now.texts (value_of (fed (start_of w.assets.now w.labels.now ns) days) h.pipeline c.term (sid_at w.assets.now a) (last_session days))) own.numbers
    ∙ ap (λ (q : Pipeline). in_array w.labels.now.texts (value_of (fed_world w (suc s)) q c.term (sid_at w.assets.now a) (last_session days))) own.pipeline
    ∙ ap (λ (n : ℕ). in_array w.labels.now.texts (value_of (fed_world w (suc s)) p c.term (sid_at w.assets.now a) (pos n))) (many w s)
    ∙ ap (λ (n : ℕ). in_array w.labels.now.texts (value_of (fed_world w n) p c.term (sid_at w.assets.now a) (pos s))) more
    ∙ ap (in_array w.labels.now.texts) (same c.term (sid_at w.assets.now a))
    ∙ ap (λ (b : ℕ). in_array w.labels.now.texts (value_of (world_of w) p c.term b (pos s))) (sym (sid-of-place w.assets.now h.kept i inside))
    ∙ sym (cell-is (world_of w) p (map (sid_at w.assets.now) h.kept) c.term i s)

-- ---- a session that has values

module _ (f : FedSession) (is : IsFedSession f) where
  -- those that are kept have its rows
  pub rows-are : session_rows (world_in f) (pipeline_in f) (pos f.session) ≡ map (table_row (world_in f) (pipeline_in f) (pos f.session)) (sids_in f)
  rows-are = session-rows f.asked.world is.asked.sound (pipeline_in f) f.session is.within is.asked.world f.daily.now is.fed is.answered

  pub cell-in : (column i : ℕ) (x : ℤ) → Gives f.daily.now column i x → i < length f.daily.now.kept → (c : NamedColumn) → slice_get (pipeline_in f).columns column ≡ Some c
      → x ≡ cell_of (world_in f) (pipeline_in f) (sids_in f) c.term i f.session
  cell-in = cell-here f.asked.world (pipeline_in f) f.session f.daily.now is.fed (values f.asked.world is.asked.sound (pipeline_in f) f.session is.within is.asked.world)
