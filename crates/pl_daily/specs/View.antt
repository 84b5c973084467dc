-- The code's fields as what a daily evaluation holds.
use Rattle.std.specs.Prelude.{◌≡◌, ℕ, ◌<◌, ◌≤◌, length, slice_get, vec_capacity, Some, All}
use Rattle.pl_spec.specs.declared.Column.{Column}
use Rattle.pl_terms.specs.Checked.{IsChecked, pipeline_of}
use Rattle.pl_daily.specs.Columns.{rings_of}
use Rattle.pl_daily.specs.declared.term_day.TermCells.{TermCells}
use Rattle.pl_daily.specs.Rows.{rows_lent}
use Rattle.pl_daily.specs.declared.daily.Daily.TheInside.{Inside}
use Rattle.pl_daily.specs.Capacities.{column_window, term_window}
use Rattle.pl_daily.specs.Daily.{Held}
use Rattle.pl_daily.specs.Inside.{AreDepths}
use Rattle.pl_daily.specs.Room.{IsRoom}
use Rattle.pl_daily.specs.Terms.{AreStarts, AreTerms}

abbrev pub held_of : Inside → Held
held_of d =
    record {
      pipeline = pipeline_of d.checked.now;
      assets = d.assets.now;
      labels = d.labels.now;
      numbers = rows_lent d.numbers;
      fed = d.fed;
      last = d.last;
      answered = d.answered;
      kept = d.kept.items;
      bars = d.bars;
      terms = d.terms.items;
      starts = d.starts.items;
      since = d.since.items;
    }

-- The pipeline is checked, all that is held is full, the rings have room for just the windows over them, and
-- there is room for all assets. The depths are the pipeline's, and each asset can be marked.
pub record IsInside (d : Inside) : Type 0 where
  pub checked : IsChecked (pipeline_of d.checked.now)
  pub columns : (c : Column) → (rings_of d.bars c).capacity ≡ column_window (pipeline_of d.checked.now) c
  pub windows : (u : ℕ) (t : TermCells) → slice_get d.terms.items u ≡ Some t → t.rings.capacity ≡ term_window (pipeline_of d.checked.now) u
  pub terms : AreTerms (length d.assets.now) (pipeline_of d.checked.now) d.bars d.terms.items
  pub starts : AreStarts (length d.assets.now) (pipeline_of d.checked.now) d.starts.items
  pub since : length d.since.items ≡ length (pipeline_of d.checked.now).graph
  pub room : IsRoom (length d.assets.now) (length (pipeline_of d.checked.now).graph) d.room
  pub kept_room : length d.assets.now ≤ vec_capacity d.kept
  pub kept : All (λ c. c < length d.assets.now) d.kept.items
  pub depths : AreDepths (pipeline_of d.checked.now) d.depths.items
  pub changed : length d.changed.items ≡ length d.assets.now
