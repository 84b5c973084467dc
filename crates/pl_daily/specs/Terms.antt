-- All terms from day to day.
use Rattle.std.specs.Prelude.{◌≡◌, ℕ, ◌<◌, ◌≤◌, ◌+◌, Bool, true, false, ◌||◌, ◌&&◌, nat_lt, not, ℤ, pos, List, [], ◌∷◌, length, map, Option, Some, None, slice_get, get_or, All}
use Rattle.pl_spec.specs.declared.AssetRow.{AssetRow}
use Rattle.pl_spec.specs.declared.Column.{Column}
use Rattle.pl_spec.specs.declared.Frequency.{Frequency}
use Rattle.pl_pipeline.specs.Cones.{moves_at}
use Rattle.pl_pipeline.specs.Kind.Kind.{Downsample}
use Rattle.pl_spec.specs.Limits.{most_assets}
use Rattle.pl_spec.specs.Parts.{ColumnNumber}
use Rattle.pl_spec.specs.Periods.{period_start, same_period}
use Rattle.pl_spec.specs.Rounding.{IsCell}
use Rattle.pl_pipeline.specs.Table.{Pipeline}
use Rattle.pl_pipeline.specs.Term.{Node}
use Rattle.pl_pipeline.specs.Term.Input.{BarColumn, TermInput}
use Rattle.pl_assets.specs.Labels.{AreLabels, LabelTable}
use Rattle.pl_terms.specs.Checked.{IsChecked, pipeline_of}
use Rattle.pl_terms.specs.Sorts.{is_windowed}
use Rattle.pl_terms.specs.Uses.{is_used}
use Rattle.pl_adjust.specs.Columns.{events_at}
use Rattle.pl_daily.specs.Capacities.{deepest}
use Rattle.pl_daily.specs.Inside.{AreDepths}
use Rattle.pl_daily.specs.Days.{Start, FedDay, fed, days_of, last_day, last_session, IsStart, AreFed}
use Rattle.pl_daily.specs.declared.columns.BarRings.{BarRings}
use Rattle.pl_daily.specs.Columns.{AreBarRings, HoldColumns, rings_of}
use Rattle.pl_daily.specs.declared.term_day.TermCells.{TermCells}
use Rattle.pl_daily.specs.Rows.{capacity_of, rows_lent, sids_of}
use Rattle.pl_daily.specs.TermDays.{cell_on}
use Rattle.pl_daily.specs.Held.{AreTermCells, HoldsTerm, HoldsNewest}
use Rattle.pl_daily.specs.declared.starts.StartCells.{StartCells}
use Rattle.pl_daily.specs.declared.terms.Lent.{Lent}

-- ---- what is lent

-- what stands from the start, of the lent parts
abbrev pub start_of : List AssetRow → LabelTable → List ColumnNumber → Start
start_of assets table numbers = record { assets = assets; labels = table.rows; texts = table.texts; numbers = numbers }

abbrev pub start_at : Lent → Start
start_at l = start_of l.assets.now l.labels.now (rows_lent l.numbers)

abbrev pub pipeline_at : Lent → Pipeline
pipeline_at l = pipeline_of l.checked.now

abbrev pub assets_at : Lent → ℕ
assets_at l = length l.assets.now

-- the pipeline is as the language allows it, the assets are few, and the labels as their type keeps them
pub record IsLent (l : Lent) : Type 0 where
  pub checked : IsChecked (pipeline_at l)
  pub few : assets_at l ≤ most_assets
  pub labels : AreLabels l.labels.now

-- ---- what is held has room

-- What is held of used terms is full. Each used term has room in the rings of its inputs, as far back as it is
-- itself read as it is seen on the last session, and of its mask.
pub record HaveRoom (assets : ℕ) (p : Pipeline) (rings : BarRings) (terms : List TermCells) : Type 0 where
  pub full : (u : ℕ) (t : TermCells) → is_used p u ≡ true → slice_get terms u ≡ Some t → AreTermCells assets t
  pub values : (k : ℕ) (n : Node) (place u : ℕ) (t : TermCells) → is_used p k ≡ true → slice_get p.graph k ≡ Some n
      → (is_windowed n.kind || nat_lt 0 (deepest p k)) ≡ true
      → slice_get n.inputs place ≡ Some (TermInput u) → slice_get terms u ≡ Some t → n.window + deepest p k ≤ t.rings.capacity
  pub masks : (k : ℕ) (n : Node) (u : ℕ) (t : TermCells) → is_used p k ≡ true → slice_get p.graph k ≡ Some n → 0 < deepest p k
      → n.mask ≡ Some u → slice_get terms u ≡ Some t → deepest p k < t.rings.capacity
  pub bars : (k : ℕ) (n : Node) (place : ℕ) (c : Column) → is_used p k ≡ true → slice_get p.graph k ≡ Some n
      → slice_get n.inputs place ≡ Some (BarColumn c) → n.window + deepest p k ≤ (rings_of rings c).capacity
  pub bar_rings : AreBarRings assets rings

-- all terms are held, and of one that moves no more than is read
pub record AreTerms (assets : ℕ) (p : Pipeline) (rings : BarRings) (terms : List TermCells) : Type 0 where
  pub many : length terms ≡ length p.graph
  pub room : HaveRoom assets p rings terms
  pub deep : (u : ℕ) (t : TermCells) → is_used p u ≡ true → slice_get terms u ≡ Some t → moves_at p.graph u ≡ true → t.rings.capacity ≤ deepest p u + 1

-- how many cells the rings of each term hold
abbrev pub rooms : List TermCells → List ℕ
rooms terms = map (λ (t : TermCells). t.rings.capacity) terms

-- term k is used and downsampled, over term u
pub record Downsamples (p : Pipeline) (k : ℕ) (f : Frequency) (u : ℕ) : Type 0 where
  pub node : Node
  pub used : is_used p k ≡ true
  pub at : slice_get p.graph k ≡ Some node
  pub kind : node.kind ≡ Downsample f
  pub input : slice_get node.inputs 0 ≡ Some (TermInput u)

-- the row is full of cells
pub record AreStartCells (assets : ℕ) (s : StartCells) : Type 0 where
  pub row : length s.row.items ≡ assets
  pub cells : All IsCell s.row.items

-- that of term k is, where it is downsampled
abbrev pub IsStartRoom : ℕ → Pipeline → ℕ → StartCells → Type 0
IsStartRoom assets p k s = (f : Frequency) (u : ℕ) → Downsamples p k f u → AreStartCells assets s

pub record AreStarts (assets : ℕ) (p : Pipeline) (starts : List StartCells) : Type 0 where
  pub many : length starts ≡ length p.graph
  pub full : (k : ℕ) (s : StartCells) → slice_get starts k ≡ Some s → IsStartRoom assets p k s

-- ---- what is held stands for days

-- each used term stands for the days
pub record HoldTerms (g : Start) (days : List FedDay) (p : Pipeline) (terms : List TermCells) : Type 0 where
  pub each : (u : ℕ) (t : TermCells) → is_used p u ≡ true → slice_get terms u ≡ Some t → HoldsTerm g days p u t

-- Once a day was fed, the session is the first one of the period that the last day is of, and the row has the
-- cells of term u on it.
pub record HoldsStart (g : Start) (days : List FedDay) (p : Pipeline) (f : Frequency) (u : ℕ) (s : StartCells) : Type 0 where
  pub session : 0 < length days → pos s.session ≡ period_start f (days_of days) (last_session days)
  pub row : 0 < length days → (i : ℕ) → i < length g.assets → get_or s.row.items i (pos 0) ≡ cell_on (fed g days) p (sids_of g.assets) u i (pos s.session)

-- so it is for the input of term k, where that is downsampled
abbrev pub IsStartOf : Start → List FedDay → Pipeline → ℕ → StartCells → Type 0
IsStartOf g days p k s = (f : Frequency) (u : ℕ) → Downsamples p k f u → HoldsStart g days p f u s

pub record HoldStarts (g : Start) (days : List FedDay) (p : Pipeline) (starts : List StartCells) : Type 0 where
  pub each : (k : ℕ) (s : StartCells) → slice_get starts k ≡ Some s → IsStartOf g days p k s

-- ---- from day to day

-- the day may follow these days, and the rings of bars stand for the list with it; the depths are the
-- pipeline's, and an asset that is not marked has no adjustments of the day
pub record IsNext (l : Lent) (next : FedDay) (days : List FedDay) : Type 0 where
  pub start : IsStart (start_at l)
  pub are_fed : AreFed (start_at l) (next ∷ days)
  pub day : next.day ≡ l.day
  pub last : last_day days ≡ l.last
  pub count : length days ≡ l.fed
  pub bars : HoldColumns (start_at l) (next ∷ days) l.bars.now
  pub depths : AreDepths (pipeline_at l) l.depths.now
  pub marked : length l.changed.now ≡ assets_at l
  pub quiet : (i : ℕ) → i < assets_at l → get_or l.changed.now i true ≡ false → events_at next.events i ≡ []

-- and what is held of terms stands for the list without it
pub record IsPlaced (l : Lent) (cells : List TermCells) (firsts : List StartCells) (next : FedDay) (days : List FedDay) : Type 0 where
  pub may : IsNext l next days
  pub terms : HoldTerms (start_at l) days (pipeline_at l) cells
  pub starts : HoldStarts (start_at l) days (pipeline_at l) firsts

-- over every such list, what is held of terms then stands for the list with the day
abbrev pub FollowTerms : Lent → List TermCells → List StartCells → List TermCells → List StartCells → Type 0
FollowTerms l terms starts new_terms new_starts =
    (next : FedDay) (days : List FedDay) → IsPlaced l terms starts next days
    → HoldTerms (start_at l) (next ∷ days) (pipeline_at l) new_terms × HoldStarts (start_at l) (next ∷ days) (pipeline_at l) new_starts

-- ---- term by term

-- the used terms below k stand for one list of days, and the others for another
pub record TermsHold (g : Start) (before after : List FedDay) (p : Pipeline) (k : ℕ) (terms : List TermCells) : Type 0 where
  pub done : (u : ℕ) (t : TermCells) → u < k → is_used p u ≡ true → slice_get terms u ≡ Some t → HoldsTerm g after p u t
  pub left : (u : ℕ) (t : TermCells) → k ≤ u → is_used p u ≡ true → slice_get terms u ≡ Some t → HoldsTerm g before p u t

pub record StartsHold (g : Start) (before after : List FedDay) (p : Pipeline) (k : ℕ) (starts : List StartCells) : Type 0 where
  pub done : (j : ℕ) (s : StartCells) → j < k → slice_get starts j ≡ Some s → IsStartOf g after p j s
  pub left : (j : ℕ) (s : StartCells) → k ≤ j → slice_get starts j ≡ Some s → IsStartOf g before p j s

-- the terms below k and their starts then stand for the list with the day
abbrev pub FollowBelow : Lent → List TermCells → List StartCells → ℕ → List TermCells → List StartCells → Type 0
FollowBelow l terms starts k new_terms new_starts =
    (next : FedDay) (days : List FedDay) → IsPlaced l terms starts next days
    → TermsHold (start_at l) days (next ∷ days) (pipeline_at l) k new_terms × StartsHold (start_at l) days (next ∷ days) (pipeline_at l) k new_starts

-- the day comes to term k; what is held for its start stands for these days
pub record IsAt (l : Lent) (k : ℕ) (cells : List TermCells) (s : StartCells) (started : List FedDay) (next : FedDay) (days : List FedDay) : Type 0 where
  pub may : IsNext l next days
  pub terms : TermsHold (start_at l) days (next ∷ days) (pipeline_at l) k cells
  pub start : IsStartOf (start_at l) started (pipeline_at l) k s

-- term k has the day's row and newest cells, those below it have the day, and those above it do not
pub record IsNewestAt (l : Lent) (k : ℕ) (cells : List TermCells) (s : StartCells) (next : FedDay) (days : List FedDay) : Type 0 where
  pub may : IsNext l next days
  pub done : (u : ℕ) (t : TermCells) → u < k → is_used (pipeline_at l) u ≡ true → slice_get cells u ≡ Some t → HoldsTerm (start_at l) (next ∷ days) (pipeline_at l) u t
  pub own : (t : TermCells) → slice_get cells k ≡ Some t → HoldsNewest (start_at l) next days (pipeline_at l) k t
  pub left : (u : ℕ) (t : TermCells) → k < u → is_used (pipeline_at l) u ≡ true → slice_get cells u ≡ Some t → HoldsTerm (start_at l) days (pipeline_at l) u t
  pub start : IsStartOf (start_at l) (next ∷ days) (pipeline_at l) k s

-- it then stands for the list with the day, as a whole
abbrev pub FollowNewest : Lent → ℕ → List TermCells → StartCells → List TermCells → Type 0
FollowNewest l k terms s new_terms =
    (next : FedDay) (days : List FedDay) → IsNewestAt l k terms s next days → TermsHold (start_at l) days (next ∷ days) (pipeline_at l) (k + 1) new_terms

-- the same of term k alone, over the terms below it
pub record IsOwnAt (l : Lent) (k : ℕ) (below : List TermCells) (own : TermCells) (s : StartCells) (next : FedDay) (days : List FedDay) : Type 0 where
  pub may : IsNext l next days
  pub done : (u : ℕ) (t : TermCells) → u < k → is_used (pipeline_at l) u ≡ true → slice_get below u ≡ Some t → HoldsTerm (start_at l) (next ∷ days) (pipeline_at l) u t
  pub newest : HoldsNewest (start_at l) next days (pipeline_at l) k own
  pub start : IsStartOf (start_at l) (next ∷ days) (pipeline_at l) k s

abbrev pub FollowOwn : Lent → ℕ → List TermCells → TermCells → StartCells → TermCells → Type 0
FollowOwn l k below own s new =
    (next : FedDay) (days : List FedDay) → IsOwnAt l k below own s next days → HoldsTerm (start_at l) (next ∷ days) (pipeline_at l) k new

-- the term's rings are read on sessions before the last one as they are seen on the last
abbrev pub is_read_earlier : Pipeline → ℕ → Option TermCells → Bool
is_read_earlier p k t = nat_lt 0 (deepest p k) && nat_lt 1 (capacity_of t)

-- they are full, and hold no more than is read
pub record IsReadEarlier (assets : ℕ) (p : Pipeline) (k : ℕ) (t : TermCells) : Type 0 where
  pub deep : 0 < deepest p k
  pub some : 0 < t.rings.capacity
  pub few : t.rings.capacity ≤ deepest p k + 1
  pub full : AreTermCells assets t

-- the day is of another period than the last one, or the first of all
abbrev pub begins : Frequency → Option ℤ → ℤ → Bool
begins f None day = true
begins f (Some last) day = not (same_period f last day)

-- the start then stands for the list with the day
abbrev pub FollowStart : Lent → ℕ → List TermCells → StartCells → StartCells → Type 0
FollowStart l k terms s new =
    (next : FedDay) (days : List FedDay) → IsAt l k terms s days next days → IsStartOf (start_at l) (next ∷ days) (pipeline_at l) k new

-- the row is that of term k on the day
pub record IsTermRow (g : Start) (p : Pipeline) (k : ℕ) (next : FedDay) (days : List FedDay) (row : List ℤ) : Type 0 where
  pub each : (i : ℕ) → i < length row → get_or row i (pos 0) ≡ cell_on (fed g (next ∷ days)) p (sids_of g.assets) k i (pos (length days))

abbrev pub IsRowOf : Lent → ℕ → List TermCells → StartCells → List ℤ → Type 0
IsRowOf l k terms s row =
    (next : FedDay) (days : List FedDay) → IsAt l k terms s (next ∷ days) next days → IsTermRow (start_at l) (pipeline_at l) k next days row

-- term k then has the day's row and newest cells, and its start stands for the list with the day
abbrev pub FollowPut : Lent → ℕ → List TermCells → StartCells → List TermCells → StartCells → Type 0
FollowPut l k terms s new_terms new =
    (next : FedDay) (days : List FedDay) → IsAt l k terms s days next days → IsNewestAt l k new_terms new next days

-- term k and its start then stand for the list with the day
abbrev pub FollowTermAt : Lent → ℕ → List TermCells → StartCells → List TermCells → StartCells → Type 0
FollowTermAt l k terms s new_terms new =
    (next : FedDay) (days : List FedDay) → IsAt l k terms s days next days
    → TermsHold (start_at l) days (next ∷ days) (pipeline_at l) (k + 1) new_terms × IsStartOf (start_at l) (next ∷ days) (pipeline_at l) k new
