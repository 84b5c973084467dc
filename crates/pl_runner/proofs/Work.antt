-- The steps of a session, and of all sessions up to one.
use Rattle.std.proofs.Common.{◌≡◌, ℕ, suc, ◌+◌, ◌-◌, ◌*◌, ◌≤◌, List, [], ◌∷◌, length, map, filter, min, refl, sym, ◌∙◌, ap, arith, sum_by}
use Rattle.std.specs.List.{range_with_len}
use Rattle.std.proofs.lemmas.List.Sums.{sum_by-append, sum_by-cons, sum_by_push}
use Rattle.pl_spec.specs.declared.Column.{Column}
use Rattle.pl_spec.specs.declared.Column.TheVariants.{OpenPrice, High, Low, Close, Volume}
use Rattle.pl_spec.specs.Parts.{ColumnAdjustment, sid_at}
use Rattle.pl_pipeline.specs.Table.{Pipeline}
use Rattle.pl_spec.specs.World as worlds
use Rattle.pl_spec.specs.World.{Event}
use Rattle.pl_spec.proofs.Ranges.{range-next, range-split}
use Rattle.pl_spec.proofs.Columns.{sids-all}
use Rattle.pl_world.specs.declared.world.World.{World}
use Rattle.pl_world.specs.Worlds.{AreSound, world_of}
use Rattle.pl_world.proofs.Made.{events_of-at}
use Rattle.pl_daily.specs.declared.day.DayEvent.{DayEvent}
use Rattle.pl_daily.specs.Changes.{column_event}
use Rattle.pl_daily.specs.Rings.{scales, scaling}
use Rattle.pl_daily.specs.Capacities.{column_window}
use Rattle.pl_daily.specs.Daily.{day_work}
use Rattle.pl_runner.specs.Feeds.{daily_steps, day_before, due_events, is_due, ratios_due, session_work}
use Rattle.pl_runner.specs.Days.{col_due, day_at, events_due, in_col}
use Rattle.pl_runner.proofs.Lists.{filter-mapped, flat-filter, sum-same}
use Rattle.pl_cross.proofs.Centers.{sum-map}

sum-each : {X : Type 0} (f g : X → ℕ) → ((x : X) → f x ≡ g x) → (xs : List X) → sum_by f xs ≡ sum_by g xs
sum-each f g h [] = refl
sum-each f g h (x ∷ xs) = omega (arith, sum_by-cons f x xs, sum_by-cons g x xs, h x, sum-each f g h xs)

module _ (w : World) (sound : AreSound w) where
  abbrev count : ℕ
  count = length w.assets.now

  abbrev own : ℕ → ℕ → List Event
  own s col = col_due w.sessions.now w.adjustments.now s col

  abbrev ratios : Column → ℕ → ℕ → ℕ
  ratios c s a = length (filter (scales c) (due_events (world_of w) s a))

  ratios-are : (c : Column) (s : ℕ) (es : List DayEvent) → map column_event es ≡ events_due w.sessions.now w.adjustments.now count s → length (scaling c es) ≡ ratios_due (world_of w) c s
  ratios-are c s es is =
      sym (filter-mapped (λ (x : ColumnAdjustment). scales c x.event) column_event es)
      ∙ ap (λ (xs : List ColumnAdjustment). length (filter (λ x. scales c x.event) xs)) is
      ∙ flat-filter (λ (x : ColumnAdjustment). scales c x.event) (λ col. map (in_col col) (own s col)) (range_with_len 0 count)
      ∙ sum-same (λ k. length (filter (λ (x : ColumnAdjustment). scales c x.event) (map (in_col k) (own s k)))) (λ k. ratios c s (sid_at w.assets.now k)) 0 count
      (λ k l m. filter-mapped (λ (x : ColumnAdjustment). scales c x.event) (in_col k) (own s k)
      ∙ ap (λ (es : List Event). length (filter (scales c) (filter (is_due (day_before w.sessions.now s) (day_at w.sessions.now s)) es))) (sym (events_of-at w sound.made sound.assets k (omega arith))))
      ∙ sym (sum-map (ratios c s) (sid_at w.assets.now) (range_with_len 0 count))
      ∙ ap (sum_by (ratios c s)) (sym (sids-all w.assets.now))

  pub day-work : (p : Pipeline) (s : ℕ) (es : List DayEvent) → map column_event es ≡ events_due w.sessions.now w.adjustments.now count s → day_work p s es ≡ session_work (world_of w) p s
  day-work p s es is =
      sum-each (λ c. length (scaling c es) * min (column_window p c) s) (λ c. ratios_due (world_of w) c s * min (column_window p c) s)
      (λ c. ap (λ (n : ℕ). n * min (column_window p c) s) (ratios-are c s es is)) (OpenPrice ∷ High ∷ Low ∷ Close ∷ Volume ∷ [])

-- ---- all sessions below one

abbrev pub steps_below : worlds.World → Pipeline → ℕ → ℕ
steps_below w p s = sum_by (session_work w p) (range_with_len 0 s)

pub steps-all : (w : worlds.World) (p : Pipeline) (to : ℕ) → daily_steps w p to ≡ steps_below w p (to + 1)
unfolding daily_steps
steps-all w p to = let e : suc to ≡ to + 1 = omega arith in ap (steps_below w p) e

pub steps-next : (w : worlds.World) (p : Pipeline) (s : ℕ) → steps_below w p (s + 1) ≡ steps_below w p s + session_work w p s
steps-next w p s = ap (sum_by (session_work w p)) (range-next s) ∙ sum_by_push (session_work w p) (range_with_len 0 s) s

pub steps-few : (w : worlds.World) (p : Pipeline) (s t : ℕ) → s ≤ t → steps_below w p s ≤ steps_below w p t
steps-few w p s t h =
    let e : t ≡ s + (t - s) = omega arith in
    let parts = ap (steps_below w p) e ∙ ap (sum_by (session_work w p)) (range-split 0 s (t - s)) ∙ sum_by-append (session_work w p) (range_with_len 0 s) (range_with_len (0 + s) (t - s)) in
    omega (arith, parts)
