-- Which assets have adjustments of a day.
use Rattle.std.proofs.Common.{◌≡◌, ℕ, ◌+◌, ◌<◌, ◌==◌, Bool, true, false, ◌||◌, cond, List, [], ◌∷◌, ◌++◌, length, map, filter, take, get_or, slice_set, refl, sym, ◌∙◌, ap}
use Rattle.std.specs.List.{list_any}
use Rattle.std.proofs.lemmas.Bool.{true≢false}
use Rattle.std.proofs.lemmas.List.{take_more}
use Rattle.std.proofs.lemmas.List.Folds.{list_any-append}
use Rattle.pl_spec.specs.Parts.{ColumnAdjustment}
use Rattle.pl_adjust.specs.Columns.{events_at}
use Rattle.pl_daily.specs.declared.day.DayEvent.{DayEvent}
use Rattle.pl_daily.specs.Changes.{column_event}
use Rattle.pl_daily.proofs.Cells.{set_at}

pub mark_more : (events : List DayEvent) (k i : ℕ) (event : DayEvent) (changed : List Bool) → k < length events → event ≡ get_or events k event → event.col < length changed
    → get_or changed i true ≡ list_any (λ (e : DayEvent). e.col == i) (take k events) → get_or (slice_set changed event.col true) i true ≡ list_any (λ (e : DayEvent). e.col == i) (take (k + 1) events)
mark_more events k i event changed inside is within so_far =
    set_at changed event.col i true true within
    ∙ here (event.col == i) (list_any (λ (e : DayEvent). e.col == i) (take k events)) so_far
    ∙ sym (ap (list_any (λ (e : DayEvent). e.col == i)) (take_more events k event inside ∙ ap (λ e. take k events ++ e ∷ []) (sym is))
    ∙ list_any-append (λ (e : DayEvent). e.col == i) (take k events) (event ∷ []))
  where
    here : (b q : Bool) → get_or changed i true ≡ q → cond b true (get_or changed i true) ≡ (q || (b || false))
    here true true e = refl
    here true false e = refl
    here false true e = e
    here false false e = e

-- an asset that is not marked has none
pub marked_none : (es : List DayEvent) (i : ℕ) → list_any (λ (e : DayEvent). e.col == i) es ≡ false → events_at (map column_event es) i ≡ []
marked_none es i h = ap (map (λ (x : ColumnAdjustment). x.event)) (none es h)
  where
    none : (es : List DayEvent) → list_any (λ (e : DayEvent). e.col == i) es ≡ false → filter (λ (x : ColumnAdjustment). x.col == i) (map column_event es) ≡ []
    none [] h = refl
    none (e ∷ es) h = here (e.col == i) h (none es)
      where
        here : (b : Bool) → (b || list_any (λ (e : DayEvent). e.col == i) es) ≡ false → (list_any (λ (e : DayEvent). e.col == i) es ≡ false → filter (λ (x : ColumnAdjustment). x.col == i) (map column_event es) ≡ [])
            → cond b (column_event e ∷ filter (λ (x : ColumnAdjustment). x.col == i) (map column_event es)) (filter (λ (x : ColumnAdjustment). x.col == i) (map column_event es)) ≡ []
        here true g more = absurd (true≢false g)
        here false g more = more g
