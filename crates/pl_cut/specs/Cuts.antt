-- The cut of a world: the part of its rows that is read for a range of sessions.
use Rattle.std.specs.Prelude.{◌≡◌, ℕ, Bool, true, not, ◌&&◌, ◌||◌, ◌==◌, nat_le, nat_lt, ℤ, List, filter, Some, slice_get}
use Rattle.std.specs.List.{list_any, list_all}
use Rattle.std.specs.Int.RustNames.{int_lt, int_le}
use Rattle.pl_spec.specs.declared.AssetRow.{AssetRow}
use Rattle.pl_spec.specs.Numbers.{NumberRow, is_number_of}
use Rattle.pl_spec.specs.Window.{is_between}
use Rattle.pl_spec.specs.World.{World, LabelRow, Bar, Change, Event, is_label_of}
use Rattle.pl_spec.specs.World.Change.{Scale, Overwrite}

-- Sessions that follow each other: the first whose bars or terms are read, and the last whose rows are
-- asked for, with their days.
pub record Span : Type 0 where
  pub first : ℕ
  pub last : ℕ
  pub first_day : ℤ
  pub last_day : ℤ

-- the sessions have these days
pub record IsSpan (days : List ℤ) (span : Span) : Type 0 where
  pub first : slice_get days span.first ≡ Some span.first_day
  pub last : slice_get days span.last ≡ Some span.last_day

-- the asset starts before the last day, and ends on the first or later
abbrev pub lives_in : Span → AssetRow → Bool
lives_in span a = int_lt a.start span.last_day && int_le span.first_day a.end

-- the sid is of an asset that lives in the span
abbrev pub is_of : World → Span → ℕ → Bool
is_of w span sid = list_any (λ a. a.sid == sid) (filter (lives_in span) w.assets)

-- bars of the last session and later ones are not read, since a session sees the bars before it
abbrev pub is_bar_in : Span → Bar → Bool
is_bar_in span b = nat_le span.first b.session && nat_lt b.session span.last

-- of the rows of its name and asset none that has started by the day starts later
abbrev pub is_newest_label : List LabelRow → ℤ → LabelRow → Bool
is_newest_label rows day r =
    list_all (λ q. int_le q.start r.start) (filter (is_label_of r.name r.sid day) rows)

-- the row starts within the span, or is the newest that has started by its first day
abbrev pub is_label_in : List LabelRow → Span → LabelRow → Bool
is_label_in rows span r =
    int_le r.start span.last_day && (int_lt span.first_day r.start || is_newest_label rows span.first_day r)

-- of the rows of its name and asset none that was known by the day was known later
abbrev pub is_newest_number : List NumberRow → ℤ → NumberRow → Bool
is_newest_number rows day r =
    list_all (λ q. int_le q.known r.known) (filter (is_number_of r.name r.sid day) rows)

abbrev pub is_number_in : List NumberRow → Span → NumberRow → Bool
is_number_in rows span r =
    int_le r.known span.last_day && (int_lt span.first_day r.known || is_newest_number rows span.first_day r)

-- a revision is of a bar that is read; ratios act on each bar before their day
abbrev pub is_change_in : Span → Change → Bool
is_change_in span (Scale ratio) = true
is_change_in span (Overwrite bar_day _ _) = int_le span.first_day bar_day && int_lt bar_day span.last_day

-- what is effective by the first day acts on no bar that is read
abbrev pub is_event_in : Span → Event → Bool
is_event_in span e = is_between span.first_day span.last_day e && is_change_in span e.change

-- The world with all its sessions, of the assets that live in the span, and of these the bars, label rows,
-- adjustments and numbers that count within it.
abbrev pub cut : World → Span → World
cut w span =
    record {
      days = w.days;
      assets = filter (lives_in span) w.assets;
      labels = filter (λ r. is_of w span r.sid && is_label_in w.labels span r) w.labels;
      texts = w.texts;
      bars = filter (λ b. is_of w span b.sid && is_bar_in span b) w.bars;
      adjustments = filter (λ x. is_of w span x.sid && is_event_in span x.event) w.adjustments;
      numbers = filter (λ r. is_of w span r.sid && is_number_in w.numbers span r) w.numbers;
    }

-- the world without an asset and its rows
abbrev pub without : World → ℕ → World
without w a =
    record {
      days = w.days;
      assets = filter (λ r. not (r.sid == a)) w.assets;
      labels = filter (λ r. not (r.sid == a)) w.labels;
      texts = w.texts;
      bars = filter (λ b. not (b.sid == a)) w.bars;
      adjustments = filter (λ x. not (x.sid == a)) w.adjustments;
      numbers = filter (λ r. not (r.sid == a)) w.numbers;
    }
