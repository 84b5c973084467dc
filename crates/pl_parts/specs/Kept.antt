-- The rows that a cut keeps, as the code goes over them.
use Rattle.std.specs.Prelude.{ℕ, Bool, ◌&&◌, if◌then◌else◌, List, [], map, option_map, unwrap_or, slice_get}
use Rattle.pl_spec.specs.declared.AdjustmentKind.{AdjustmentKind}
use Rattle.pl_spec.specs.declared.AssetRow.{AssetRow}
use Rattle.pl_spec.specs.Numbers.{NumberRow}
use Rattle.pl_spec.specs.World.{World, LabelRow, Bar, Event, Adjustment}
use Rattle.pl_cut.specs.Cuts.{Span, is_of, is_label_in, is_number_in, is_bar_in, is_event_in, lives_in, cut}
use Rattle.pl_adjust.specs.Events.{event_of}
use Rattle.pl_parts.specs.Texts.{is_kind, of_sid, rows_of}
use Rattle.pl_parts.specs.declared.gathering.Row.{Row}

-- what is made of a row, and nothing of one that is not kept
abbrev pub if_kept : {A B : Type 0} → (A → Bool) → (A → List B) → A → List B
if_kept keep f x = if keep x then f x else []

-- of one of the rows, by its place, and nothing where there is none
abbrev pub text_at : {A B : Type 0} → (A → List B) → List A → ℕ → List B
text_at f xs i = unwrap_or (option_map f (slice_get xs i)) []

abbrev pub keeps_label : World → Span → LabelRow → Bool
keeps_label w span r = is_of w span r.sid && is_label_in w.labels span r

abbrev pub keeps_number : World → Span → NumberRow → Bool
keeps_number w span r = is_of w span r.sid && is_number_in w.numbers span r

abbrev pub keeps_bar : World → Span → Bar → Bool
keeps_bar w span b = is_of w span b.sid && is_bar_in span b

abbrev pub keeps_event : AdjustmentKind → Span → Event → Bool
keeps_event kind span e = is_event_in span e && is_kind kind e.kind

-- the adjustments of an asset, where it lives in the span
abbrev pub rows_kept : AdjustmentKind → World → Span → AssetRow → List Adjustment
rows_kept kind w span = if_kept (lives_in span) (λ a. rows_of kind (cut w span) a.sid)

-- the adjustments that gathered rows are
abbrev pub shown : List Row → List Adjustment
shown rows = map (λ r. of_sid r.sid (event_of r.adjust)) rows
