-- A used term on its day has what it reads.
use Rattle.std.proofs.Common.{◌≡◌, ℕ, ◌+◌, ◌-◌, ◌<◌, ◌≤◌, true, false, ◌||◌, nat_lt, ℤ, pos, List, [], ◌∷◌, length, map, get_or, Some, slice_get, refl, sym, ◌∙◌, ap, arith, subst, All, Bor}
use Rattle.std.proofs.lemmas.List.{get_or_default}
use Rattle.pl_spec.specs.Limits.{most_assets}
use Rattle.pl_spec.specs.declared.Frequency.{Frequency}
use Rattle.pl_pipeline.specs.Kind.Kind.{Downsample}
use Rattle.pl_spec.specs.Periods.{period_start}
use Rattle.pl_spec.specs.Rounding.{IsCell}
use Rattle.pl_pipeline.specs.Table.{Pipeline}
use Rattle.pl_pipeline.specs.Term.{Node}
use Rattle.pl_pipeline.specs.Term.Input.{TermInput}
use Rattle.pl_spec.specs.Window.{bar_window, downward}
use Rattle.pl_spec.specs.World.{World, day_of, exists}
use Rattle.pl_spec.proofs.Windows.{before-pos}
use Rattle.std.proofs.lemmas.Bool.{or_left, or_right}
use Rattle.std.proofs.lemmas.Bool.Decides.{nat_tests}
use Rattle.pl_cross.specs.Arrays.{sid_in}
use Rattle.pl_pipeline.specs.Lows.{Reads}
use Rattle.pl_assets.specs.Labels.{AreLabels}
use Rattle.pl_terms.specs.declared.node.Node as code
use Rattle.pl_terms.specs.declared.node.TermId.{TermId}
use Rattle.pl_terms.specs.Checked.{IsChecked}
use Rattle.pl_terms.specs.Nodes.{node_of}
use Rattle.pl_terms.specs.Uses.{is_used}
use Rattle.pl_terms.specs.Sorts.{is_windowed}
use Rattle.pl_planner.proofs.Pipelines.{is-pipeline}
use Rattle.pl_values.specs.Arrays.{cell_of, Fills}
use Rattle.pl_daily.specs.Capacities.{deepest}
use Rattle.pl_daily.specs.Days.{Start, FedDay, day_back, day_window, fed, IsStart, AreFed}
use Rattle.pl_daily.specs.Earlier.{IsHeldBack, IsReadBack, IsRenewed, nth_back}
use Rattle.pl_daily.specs.Held.{HoldsTerm, held_cell}
use Rattle.pl_daily.specs.Rings.{known_days}
use Rattle.pl_daily.specs.Changes.{Ring, AreRings, ring_at}
use Rattle.pl_daily.specs.Columns.{HoldColumns, rings_of}
use Rattle.pl_daily.specs.declared.term_day.TermCells.{TermCells}
use Rattle.pl_daily.specs.declared.term_day.TermDay.{TermDay}
use Rattle.pl_daily.specs.Rows.{capacity_of, lives_at, rings_in, row_of, rows_lent}
use Rattle.pl_daily.specs.TermDays.{Moment, IsRowInEveryWorld, IsTermDay, IsDayIn, HoldsRow, HoldsRings, HoldsStart, HoldsWindows, assets_at, node_at, pipeline_at, sids_at, cell_on, earlier_cell}
use Rattle.pl_daily.proofs.DeepDays.{calendar-day, deep-day}
use Rattle.pl_daily.proofs.Moves.{days_are_fed}
use Rattle.pl_daily.proofs.Sessions.{fed_days_are_sessions, lives_then}
use Rattle.pl_daily.specs.declared.starts.StartCells.{StartCells}
use Rattle.pl_daily.specs.declared.terms.Lent.{Lent}
use Rattle.pl_daily.specs.Terms
use Rattle.pl_daily.specs.Terms.{start_at, start_of, Downsamples, FollowOwn, HaveRoom, IsAt, IsOwnAt, IsReadEarlier, IsRowOf, IsStartOf, IsStartRoom, IsTermRow}
use Rattle.circular_buffer.proofs.Places.{slice_get-some}
use Rattle.pl_daily.proofs.Begins.{days_are}
use Rattle.pl_daily.proofs.Firsts.{read_used}
use Rattle.pl_daily.proofs.Followed.{own_renewed}
use Rattle.pl_daily.proofs.KeptPlaces.{sid_is}

cell_is : (w : World) (p : Pipeline) (sids : List ℕ) (u i s : ℕ) → cell_of w p sids u i s ≡ cell_on w p sids u i (pos s)
unfolding cell_of
cell_is w p sids u i s = refl

-- the input of a downsampled term is used, and lower
pub input_used : (p : Pipeline) (k : ℕ) (f : Frequency) (u : ℕ) → IsChecked p → Downsamples p k f u → (u < k) × (u < length p.graph) × (is_used p u ≡ true)
input_used p k f u checked down = read_used [] (pos 0) p checked k down.node down.used down.at u _ (Reads.input 0 down.input)

module _ (t : TermDay) (next : FedDay) (days : List FedDay) (s : StartCells)
    (start : IsStart (start_of t.assets.now t.labels.now (rows_lent t.numbers))) (are_fed : AreFed (start_of t.assets.now t.labels.now (rows_lent t.numbers)) (next ∷ days)) (day : next.day ≡ t.day)
    (bars : HoldColumns (start_of t.assets.now t.labels.now (rows_lent t.numbers)) (next ∷ days) t.bars.now)
    (held : (u : ℕ) (c : TermCells) → u < t.term.0 → is_used (pipeline_at t) u ≡ true → slice_get t.terms.now u ≡ Some c → HoldsTerm (start_of t.assets.now t.labels.now (rows_lent t.numbers)) (next ∷ days) (pipeline_at t) u c)
    (begun : IsStartOf (start_of t.assets.now t.labels.now (rows_lent t.numbers)) (next ∷ days) (pipeline_at t) t.term.0 s)
    (lent : t.start.now ≡ s.row.items) (room : IsStartRoom (assets_at t) (pipeline_at t) t.term.0 s)
    (are : HaveRoom (assets_at t) (pipeline_at t) t.bars.now t.terms.now) (many : t.term.0 ≤ length t.terms.now) (checked : IsChecked (pipeline_at t)) (used : is_used (pipeline_at t) t.term.0 ≡ true)
    (node : slice_get (pipeline_at t).graph t.term.0 ≡ Some (node_at t)) (few : assets_at t ≤ most_assets) (labels : AreLabels t.labels.now) where
  abbrev p : Pipeline
  p = pipeline_at t

  abbrev g : Start
  g = start_of t.assets.now t.labels.now (rows_lent t.numbers)

  abbrev n : Node
  n = node_at t

  abbrev w : World
  w = fed g (next ∷ days)

  abbrev v : Moment
  v = record { world = fed (start_of t.assets.now t.labels.now (rows_lent t.numbers)) (next ∷ days); session = length days }

  is_read : (u : ℕ) (r : ℤ) → Reads [] n (pos 0) u r → (u < t.term.0) × (u < length t.terms.now) × (is_used p u ≡ true)
  is_read u r reads = let x = read_used [] (pos 0) p checked t.term.0 n used node u r reads in (x.0, omega (arith, x.0, many), x.2)

  row_held : (u : ℕ) → (u < t.term.0) × (u < length t.terms.now) × (is_used p u ≡ true) → HoldsRow t v u
  row_held u h =
      let x = slice_get-some t.terms.now u h.1 in
      let full = are.full u x.0 h.2 x.1 in
      let hold = held u x.0 h.0 h.2 x.1 in
      record {
        known = h.1;
        fills = subst (λ o. Fills (λ i. cell_of w p (sids_at t) u i (length days)) (assets_at t) (row_of o)) (sym x.1) (record {
          long = full.row;
          each = λ i l. hold.row i l ∙ sym (cell_is w p (sids_at t) u i (length days));
          cell = λ i l. subst IsCell (hold.row i l ∙ sym (cell_is w p (sids_at t) u i (length days))) (full.cells i (pos 0) (let long = full.row in omega (arith, l, long)));
        });
      }

  -- the rings of a term have what is read of it
  ring_cells : (u : ℕ) (x : TermCells) → (u < t.term.0) × (u < length t.terms.now) × (is_used p u ≡ true) → slice_get t.terms.now u ≡ Some x → 0 < x.rings.capacity → HoldsRings t v u
  ring_cells u x h e has =
      let full = are.full u x h.2 e in
      let hold = held u x h.0 h.2 e in
      record {
        rings = subst (λ o. AreRings (assets_at t) (capacity_of o) (rings_in o)) (sym e) (full.rings has);
        each = λ i l. subst (λ o. (ring_at (rings_in o) i).items ≡ map (earlier_cell t v u i) (downward (capacity_of o))) (sym e) (hold.rings has i l);
      }

  some : 1 ≤ n.window
  some = ((is-pipeline p checked).windows t.term.0 n node).0

  -- windows that end so many sessions before the day
  windows_held : (after : ℕ) → after ≤ deepest p t.term.0 → after ≤ length days → (is_windowed n.kind || nat_lt 0 (deepest p t.term.0)) ≡ true → HoldsWindows t v after
  windows_held after few within reads = record {
    within = within;
    bars = λ place c e. (
      record {
        rings = are.bar_rings.rings c;
        each = λ i l. ap (λ (b : Ring). b.items) ((bars.bars c).each i l)
            ∙ ap (λ a. bar_window w c (rings_of t.bars.now c).capacity a (pos (length days))) (sym (sid_is t.assets.now i l));
      },
      (let room = are.bars t.term.0 n place c used node e in omega (arith, room, few)),
    );
    values = λ place u e.
        let h = is_read u _ (Reads.input place e) in
        let x = slice_get-some t.terms.now u h.1 in
        let room = are.values t.term.0 n place u x.0 used node reads e x.1 in
        let has : 0 < x.0.rings.capacity = omega (arith, room, some) in
        let fits : n.window + after ≤ x.0.rings.capacity = omega (arith, room, few) in
        (ring_cells u x.0 h x.1 has, subst (λ o. n.window + after ≤ capacity_of o) (sym x.1) fits);
  }

  here_is : IsDayIn t.assets.now t.labels.now (rows_lent t.numbers) t.day v
  here_is = subst (λ d. IsDayIn t.assets.now t.labels.now (rows_lent t.numbers) d v) day (fed_days_are_sessions g t.labels.now next days start labels refl refl are_fed)

  start_held : (f : Frequency) (u : ℕ) → n.kind ≡ Downsample f → slice_get n.inputs 0 ≡ Some (TermInput u) → HoldsStart t v f u
  start_held f u kind input =
      let down : Downsamples p t.term.0 f u = record { node = n; used = used; at = node; kind = kind; input = input } in
      let hold = begun f u down in
      let full = room f u down in
      let here : 0 < length (next ∷ days) = omega arith in
      let long : length t.start.now ≡ assets_at t = ap length lent ∙ full.row in
      let cell : (i : ℕ) → i < assets_at t → get_or t.start.now i (pos 0) ≡ cell_of w p (sids_at t) u i s.session =
      λ i l. ap (λ r. get_or r i (pos 0)) lent ∙ hold.row here i l ∙ sym (cell_is w p (sids_at t) u i s.session) in
      record {
        first = s.session;
        is = hold.session here ∙ ap (λ ds. period_start f ds (pos (length days))) (sym (days_are g (next ∷ days)));
        fills = record {
          long = long;
          each = cell;
          cell = λ i l. subst IsCell (ap (λ r. get_or r i (pos 0)) (sym lent) ∙ cell i l) (full.cells i (pos 0) (let row = full.row in omega (arith, l, row)));
        };
      }

  pub term_day_is : IsTermDay t v
  term_day_is = record {
    checked = checked;
    node = node;
    few = few;
    here = here_is;
    rows = λ place u e. row_held u (is_read u _ (Reads.input place e));
    mask = λ u e. row_held u (is_read u _ (Reads.mask e));
    group = λ u e. row_held u (is_read u _ (Reads.group e));
    windows = λ kind. windows_held 0 (omega arith) (omega arith) (or_left (is_windowed n.kind) (nat_lt 0 (deepest p t.term.0)) kind);
    start = start_held;
  }

  -- what the term reads for the sessions before the day, as many as it is itself read back
  module _ (fed_before : ℕ) (count : length days ≡ fed_before) (deep : 0 < deepest p t.term.0) where
    reads_back : (is_windowed n.kind || nat_lt 0 (deepest p t.term.0)) ≡ true
    reads_back = or_right (is_windowed n.kind) (nat_lt 0 (deepest p t.term.0)) (grind (arith, nat_tests, deep))

    calendar_deep : deepest p t.term.0 < length t.bars.now.calendar.items
    calendar_deep =
        let l = deep-day p checked (λ c. (rings_of t.bars.now c).capacity) t.bars.now.calendar.capacity are.bar_rings.fits are.bars t.term.0 n used node deep in
        let e = are.bar_rings.calendar in
        omega (arith, l, e)

    known_calendar : known_days (length (next ∷ days)) t.bars.now.calendar.items ≡ day_window (next ∷ days) (length t.bars.now.calendar.items)
    known_calendar = bars.calendar ∙ ap (day_window (next ∷ days)) (sym are.bar_rings.calendar)

    lived : (after i : ℕ) (day : ℤ) → after ≤ length days → i < assets_at t → nth_back after t.bars.now.calendar.items ≡ Some day
        → exists w (sid_in (sids_at t) i) (pos (length days - after)) ≡ lives_at t.assets.now day i
    lived after i day within inside at =
        let back : day_back (next ∷ days) after ≡ Some day = calendar-day (next ∷ days) t.bars.now.calendar.items after day known_calendar (let l : after < length (next ∷ days) = omega (arith, within) in l) at in
        lives_then g t.labels.now next days start are_fed (pos (length days - after)) day
        (ap (day_of w) (sym (before-pos (length days) after within)) ∙ days_are_fed g (next ∷ days) after ∙ back) i inside

    pub held_back : (after : ℕ) → after ≤ deepest p t.term.0 → IsHeldBack t v fed_before after
    held_back after few = record {
      session = count;
      windows = λ within. windows_held after few (omega (arith, within, count)) reads_back;
      mask = λ u e.
          let h = is_read u _ (Reads.mask e) in
          let x = slice_get-some t.terms.now u h.1 in
          let room = are.masks t.term.0 n u x.0 used node deep e x.1 in
          let has : 0 < x.0.rings.capacity = omega (arith, room) in
          let fits : after < x.0.rings.capacity = omega (arith, room, few) in
          (ring_cells u x.0 h x.1 has, subst (λ o. after < capacity_of o) (sym x.1) fits);
      day = (let l = calendar_deep in omega (arith, l, few));
      lives = λ i day within inside at. lived after i day (omega (arith, within, count)) inside at;
    }

  pub row_is : (row : List ℤ) → Fills (λ i. cell_of w p (sids_at t) t.term.0 i (length days)) (assets_at t) row → IsTermRow g p t.term.0 next days row
  row_is row f = record { each = λ i l. f.each i (let long = f.long in omega (arith, l, long)) ∙ cell_is w p (sids_at t) t.term.0 i (length days) }

  pub cells_are : (row : List ℤ) → Fills (λ i. cell_of w p (sids_at t) t.term.0 i (length days)) (assets_at t) row → All IsCell row
  cells_are row f = λ i d l. let inside : i < assets_at t = (let long = f.long in omega (arith, l, long)) in subst IsCell (sym (get_or_default row i d (pos 0) l ∙ f.each i inside)) (f.cell i inside)

-- what is computed for term k
abbrev pub term_day_of : Lent → Bor (List TermCells) → TermId → Bor code.Node → Bor (List ℤ) → ℤ → TermDay
term_day_of l terms term node start day =
    record { checked = l.checked; assets = l.assets; labels = l.labels; numbers = l.numbers; bars = l.bars; terms = terms; term = term; node = node; start = start; day = day }

abbrev pub moment_of : Lent → FedDay → List FedDay → Moment
moment_of l next days = record { world = fed (start_at l) (next ∷ days); session = length days }

module _ (l : Lent) (terms : Bor (List TermCells)) (term : TermId) (node : Bor code.Node) (start : Bor (List ℤ)) (day : ℤ) (s : StartCells)
    (same : day ≡ l.day) (lent : start.now ≡ s.row.items) (room : IsStartRoom (Terms.assets_at l) (Terms.pipeline_at l) term.0 s)
    (are : HaveRoom (Terms.assets_at l) (Terms.pipeline_at l) l.bars.now terms.now) (many : term.0 ≤ length terms.now) (checked : IsChecked (Terms.pipeline_at l)) (used : is_used (Terms.pipeline_at l) term.0 ≡ true)
    (is : slice_get (Terms.pipeline_at l).graph term.0 ≡ Some (node_of node.now)) (few_assets : Terms.assets_at l ≤ most_assets) (labels : AreLabels l.labels.now) where
  abbrev t : TermDay
  t = term_day_of l terms term node start day

  pub stands_at : (next : FedDay) (days : List FedDay) → IsAt l term.0 terms.now s (next ∷ days) next days → IsTermDay (term_day_of l terms term node start day) (moment_of l next days)
  stands_at next days at = term_day_is t next days s at.may.start at.may.are_fed (at.may.day ∙ sym same) at.may.bars at.terms.done at.start lent room are many checked used is few_assets labels

  pub row_at : (row : List ℤ) → IsRowInEveryWorld (term_day_of l terms term node start day) row → IsRowOf l term.0 terms.now s row
  row_at row always next days at =
      row_is t next days s at.may.start at.may.are_fed (at.may.day ∙ sym same) at.may.bars at.terms.done at.start lent room are many checked used is few_assets labels row (always (moment_of l next days) (stands_at next days at))

  pub cells_at : (row : List ℤ) → IsRowInEveryWorld (term_day_of l terms term node start day) row → (next : FedDay) (days : List FedDay) → IsAt l term.0 terms.now s (next ∷ days) next days → All IsCell row
  cells_at row always next days at =
      cells_are t next days s at.may.start at.may.are_fed (at.may.day ∙ sym same) at.may.bars at.terms.done at.start lent room are many checked used is few_assets labels row (always (moment_of l next days) (stands_at next days at))

  -- the same where the term has the day's row already
  pub own_stands : (own : TermCells) (next : FedDay) (days : List FedDay) → IsOwnAt l term.0 terms.now own s next days → IsTermDay (term_day_of l terms term node start day) (moment_of l next days)
  own_stands own next days at = term_day_is t next days s at.may.start at.may.are_fed (at.may.day ∙ sym same) at.may.bars at.done at.start lent room are many checked used is few_assets labels

  pub own_back : (own : TermCells) (next : FedDay) (days : List FedDay) → IsOwnAt l term.0 terms.now own s next days → 0 < deepest (Terms.pipeline_at l) term.0
      → (size : ℕ) → size ≤ deepest (Terms.pipeline_at l) term.0 + 1 → IsReadBack (term_day_of l terms term node start day) (moment_of l next days) l.fed size
  own_back own next days at deep size few after h =
      held_back t next days s at.may.start at.may.are_fed (at.may.day ∙ sym same) at.may.bars at.done at.start lent room are many checked used is few_assets labels l.fed at.may.count deep after (omega (arith, h, few))

  -- with rings that were renewed in every world it stands for the list with the day
  pub own_follows : (own made : TermCells) → IsReadEarlier (Terms.assets_at l) (Terms.pipeline_at l) term.0 own → made.row.items ≡ own.row.items → made.rings.capacity ≡ own.rings.capacity
      → ((i : ℕ) → i < Terms.assets_at l → get_or l.changed.now i true ≡ true → IsRenewed (term_day_of l terms term node start day) l.fed i (ring_at own.rings.rings.items i).items (ring_at made.rings.rings.items i).items)
      → ((i : ℕ) → i < Terms.assets_at l → get_or l.changed.now i true ≡ false → ring_at made.rings.rings.items i ≡ ring_at own.rings.rings.items i)
      → FollowOwn l term.0 terms.now own s made
  own_follows own made early row room_same renewed others next days at =
      own_renewed l term.0 terms.now own made s next days at row room_same anew others
    where
      anew : (i : ℕ) → i < Terms.assets_at l → get_or l.changed.now i true ≡ true → (ring_at made.rings.rings.items i).items ≡ map (held_cell (start_at l) (next ∷ days) (Terms.pipeline_at l) term.0 i) (downward own.rings.capacity)
      anew i h marked =
          let items = (ring_at own.rings.rings.items i).items in
          let full : length items ≡ own.rings.capacity = ((early.full.rings early.some).each i h).full in
          let few_of = early.few in
          renewed i h marked (moment_of l next days) (own_stands own next days at)
          (own_back own next days at early.deep (length items) (omega (arith, full, few_of)))
          (λ some. ap (λ n. get_or items (n - 1) (pos 0)) full ∙ at.newest.newest early.some i h)
          ∙ ap (λ n. map (held_cell (start_at l) (next ∷ days) (Terms.pipeline_at l) term.0 i) (downward n)) full
