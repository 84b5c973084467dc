-- The rows of a tile, number by number.
use Rattle.std.proofs.Common.{◌≡◌, ℕ, ◌+◌, ◌-◌, ◌*◌, ◌<◌, ◌≤◌, true, false, ℤ, pos, List, [], length, get_or, set, take, drop, Some, slice_get, refl, sym, ap, ◌∙◌, arith, inl, inr, get_or-set_same, get_or-set_other, length-set, FitsSigned, w64, of_z}
use Rattle.std.proofs.lemmas.Bool.{cases_eq}
use Rattle.std.proofs.lemmas.Nat.{mul-le, same_from_place}
use Rattle.std.proofs.lemmas.Bool.{true≢false}
use Rattle.std.proofs.lemmas.Option.{slice_get-get_or, slice_get_within}
use Rattle.pl_spec.specs.Rounding.{IsCell}
use Rattle.pl_spec.specs.Cells.{is_true, truth}
use Rattle.pl_pipeline.specs.Graph.{contains}
use Rattle.pl_pipeline.specs.Table.{NamedColumn}
use Rattle.pl_pipeline.proofs.Cells.{is_true-truth}
use Rattle.pl_spec.proofs.Places.{row-within}
use Rattle.pl_cross.specs.Arrays.{sid_in}
use Rattle.pl_values.specs.Arrays.{cell_of}
use Rattle.pl_table.specs.declared.outcome.Outcome.{Outcome}
use Rattle.pl_table.specs.Outcomes.{HasCells, IsOutcome, pipeline_in, sids_in, world_in}
use Rattle.pl_table.specs.Rows.{has_row}
use Rattle.pl_table.specs.Tiles.{height, tile_at, in_row, IsTileRow, HasRows, IsStrip, IsPlace, sessions_in}
use Rattle.pl_terms.specs.Uses.{outputs}
use Rattle.pl_terms.proofs.Graphs.{columns-long}
use Rattle.pl_planner.specs.Plans.{low_at, slot_of}
use Rattle.pl_planner.proofs.Pipelines.{output-used}
use Rattle.pl_workspace.specs.Slots.{Live, slot_at}
use Rattle.std.proofs.lemmas.List.{get_or-take, get_or-drop, length-take-le, length-drop}
use Rattle.pl_table.proofs.Lengths.{one-true, one-false}
use Rattle.pl_table.proofs.Outputs.{has-column}

-- ---- places in a tile

abbrev pub places_of : Outcome → ℕ
places_of o = length o.cols.now

pub start_within : (places width j i : ℕ) → j < height → i < places → (j * places + i) * width + width ≤ height * places * width
start_within places width j i h l =
    let r : j * places + i < height * places = row-within j height places i h l in
    let m = mul-le (j * places + i + 1) width (height * places) width (omega arith) (omega arith) in
    let e : (j * places + i + 1) * width ≡ (j * places + i) * width + width = omega arith in
    omega (arith, m, e)

pub number_within : (places width j i c at len : ℕ) → at ≡ tile_at places width j i c → j < height → i < places → c < width → height * places * width ≤ len → at < len
number_within places width j i c at len e h l k room = let w = start_within places width j i h l in omega (arith, w)

pub session_within : (places width len : ℕ) → height * places * width ≤ len → places * width ≤ len
session_within places width len room = let e : height * places * width ≡ height * (places * width) = omega arith in omega arith

-- two numbers of a tile that stand in one place are one
one_place : (places width j i c k t d : ℕ) → i < places → t < places → c < width → d < width → tile_at places width j i c ≡ tile_at places width k t d → (j ≡ k) × (i ≡ t) × (c ≡ d)
one_place places width j i c k t d hi ht hc hd e =
    let outer = same_from_place (j * places + i) c (k * places + t) d width hc hd e in
    let inner = same_from_place j i k t places hi ht outer.0 in
    (inner.0, inner.1, outer.1)

-- the same number of the same place on the next session
pub next_session : (places width j i c at step : ℕ) → at ≡ tile_at places width j i c → step ≡ places * width → at + step ≡ tile_at places width (j + 1) i c
next_session places width j i c at step e f =
    let one : (j + 1) * places + i ≡ (j * places + i) + places = omega arith in
    let all : ((j * places + i) + places) * width ≡ (j * places + i) * width + places * width = omega arith in
    rw (e, f, one, all) (omega arith)

-- ---- strips

pub no_strip : (f : ℕ → ℤ) (places width i c : ℕ) (tile : List ℤ) → IsStrip f places width 0 i c tile tile
no_strip f places width i c tile = record { size = refl; written = λ j h. absurd (omega arith); others = λ j t d ht hd ne. refl }

pub one_strip : (f : ℕ → ℤ) (places width n i c : ℕ) (old new : List ℤ) (x : ℤ) (at : ℕ) → IsStrip f places width n i c old new → n < height → i < places → c < width → height * places * width ≤ length new
    → at ≡ tile_at places width n i c → x ≡ f n → IsStrip f places width (n + 1) i c old (set new at x)
one_strip f places width n i c old new x at strip few place number room is value = rw is (record {
  size = length-set new (tile_at places width n i c) x ∙ strip.size;
  written = λ j h. elim (cases_eq j n) [
    | inl e ↦ ap (λ (k : ℕ). get_or (set new (tile_at places width n i c) x) (tile_at places width k i c) (pos 0)) e
        ∙ get_or-set_same new (tile_at places width n i c) x (pos 0) here ∙ value ∙ ap f (sym e)
    | inr ne ↦ get_or-set_other new (tile_at places width n i c) (tile_at places width j i c) x (pos 0) (λ e. ne (one_place places width j i c n i c place place number number e).0) ∙ strip.written j (omega arith)
  ];
  others = λ j t d ht hd ne. get_or-set_other new (tile_at places width n i c) (tile_at places width j t d) x (pos 0)
      (λ e. let same = one_place places width j t d n i c ht place hd number e in ne same.1 same.2) ∙ strip.others j t d ht hd ne;
})
  where
    here : tile_at places width n i c < length new
    here = let w = start_within places width n i few place in omega (arith, w)

pub strip-same : (f g : ℕ → ℤ) (places width n m i c : ℕ) (old new : List ℤ) → IsStrip f places width n i c old new → m ≤ n → ((j : ℕ) → j < m → f j ≡ g j) → IsStrip g places width m i c old new
strip-same f g places width n m i c old new strip few same = record { size = strip.size; written = λ j h. strip.written j (omega arith) ∙ same j h; others = strip.others }

-- ---- the cells of an array

module _ (o : Outcome) (ok : IsOutcome o) (t : ℕ) (output : contains (outputs (pipeline_in o)) t ≡ true) (place : ℕ) (inside : place < places_of o) where
  pub low_within : low_at o.asked.plan.now t o.from ≤ o.from
  low_within = (ok.asked.plan.lows.few t o.from (output-used o.asked.world.sessions.now (pipeline_in o) o.asked.plan.now ok.asked.checked ok.asked.plan t output, (ok.from, omega (arith, ok.order, ok.to)))).0

  pub cell-within : (s : ℕ) → o.from ≤ s → s ≤ o.to → IsCell (cell_of (world_in o) (pipeline_in o) (sids_in o) t place s)
  cell-within s early late =
      let low = low_at o.asked.plan.now t o.from in
      let r = low_within in
      let at : low + (s - low) ≡ s = omega arith in
      rw (← at) ((ok.arrays t output).holds.cell place (s - low) inside (omega arith))

  held : (cells : List ℤ) → slot_at o.workspace.now (slot_of o.asked.plan.now t) ≡ Live cells → (ok.arrays t output).cells ≡ cells
  held cells live = let e : Live (ok.arrays t output).cells ≡ Live cells = sym (ok.arrays t output).live ∙ live in cc

  module _ (low : ℕ) (cells : List ℤ) (is : low ≡ low_at o.asked.plan.now t o.from) (live : slot_at o.workspace.now (slot_of o.asked.plan.now t) ≡ Live cells) where
    -- where the part of the place ends
    pub part-end : place * (o.to + 1 - low) + (o.to + 1 - low) ≤ length cells
    part-end =
        let room : places_of o * (o.to + 1 - low) ≤ length cells = rw (is, ← held cells live) (ok.arrays t output).holds.room in
        let one : (place + 1) * (o.to + 1 - low) ≡ place * (o.to + 1 - low) + (o.to + 1 - low) = omega arith in
        let m = mul-le (place + 1) (o.to + 1 - low) (places_of o) (o.to + 1 - low) (omega arith) (omega arith) in
        omega (arith, room, one, m)

    pub cell-there : (s : ℕ) → o.from ≤ s → s ≤ o.to → get_or cells (place * (o.to + 1 - low) + (s - low)) (pos 0) ≡ cell_of (world_in o) (pipeline_in o) (sids_in o) t place s
    cell-there s early late =
        let r = low_within in
        let at : low_at o.asked.plan.now t o.from + (s - low_at o.asked.plan.now t o.from) ≡ s = omega arith in
        rw (is, ← held cells live) ((ok.arrays t output).holds.each place (s - low_at o.asked.plan.now t o.from) inside (omega arith) ∙ ap (cell_of (world_in o) (pipeline_in o) (sids_in o) t place) at)

  module _ (cells : List ℤ) (live : slot_at o.workspace.now (slot_of o.asked.plan.now t) ≡ Live cells) (first count : ℕ) (early : o.from ≤ first) (late : first + count ≤ o.to + 1) where
    abbrev start : ℕ
    start = place * (o.to + 1 - low_at o.asked.plan.now t o.from) + (first - low_at o.asked.plan.now t o.from)

    own : (ok.arrays t output).cells ≡ cells
    own = held cells live

    pub part-at : (j : ℕ) → j < count → get_or (take count (drop start cells)) j (pos 0) ≡ cell_of (world_in o) (pipeline_in o) (sids_in o) t place (first + j)
    part-at j h =
        let low = low_at o.asked.plan.now t o.from in
        let r = low_within in
        let at : start + j ≡ place * (o.to + 1 - low) + (first - low + j) = omega arith in
        let s : low + (first - low + j) ≡ first + j = omega arith in
        get_or-take count (drop start cells) j (pos 0) h
        ∙ get_or-drop start cells j (pos 0)
        ∙ ap (λ (n : ℕ). get_or cells n (pos 0)) at
        ∙ ap (λ (xs : List ℤ). get_or xs (place * (o.to + 1 - low) + (first - low + j)) (pos 0)) (sym own)
        ∙ (ok.arrays t output).holds.each place (first - low + j) inside (omega arith)
        ∙ ap (cell_of (world_in o) (pipeline_in o) (sids_in o) t place) s

-- ---- the rows of a place

abbrev pub width_of : Outcome → ℕ
width_of o = length (pipeline_in o).columns + 1

abbrev pub marked : Outcome → ℕ → ℕ → ℕ → ℤ
marked o first place j = truth (has_row (world_in o) (pipeline_in o) (first + j) (sid_in (sids_in o) place))

abbrev pub copied : Outcome → ℕ → ℕ → ℕ → ℕ → ℤ
copied o first place t j = cell_of (world_in o) (pipeline_in o) (sids_in o) t place (first + j)

pub column-few : (o : Outcome) (k : ℕ) (c : NamedColumn) → slice_get (pipeline_in o).columns k ≡ Some c → k < length (pipeline_in o).columns
column-few o k c e = slice_get_within (pipeline_in o).columns k c e

-- what is after a place's marks and its first n columns
pub record IsBegun (o : Outcome) (first place n : ℕ) (old new : List ℤ) : Type 0 where
  pub others : IsPlace (places_of o) (width_of o) place old new
  pub marks : (j : ℕ) → j < sessions_in first o.to → in_row o new j place 0 ≡ marked o first place j
  pub cells : (j k : ℕ) (c : NamedColumn) → j < sessions_in first o.to → k < n → slice_get (pipeline_in o).columns k ≡ Some c → in_row o new j place (k + 1) ≡ copied o first place c.term j

pub marks-begun : (o : Outcome) (first place : ℕ) (old new : List ℤ) → IsStrip (marked o first place) (places_of o) (width_of o) (sessions_in first o.to) place 0 old new → IsBegun o first place 0 old new
marks-begun o first place old new strip = record {
  others = record { size = strip.size; others = λ j t d ht hd ne. strip.others j t d ht hd (λ e q. ne e) };
  marks = strip.written;
  cells = λ j k c hj hk at. absurd (omega arith);
}

pub column-begun : (o : Outcome) (first place n : ℕ) (old mid new : List ℤ) → IsBegun o first place n old mid → place < places_of o → n < length (pipeline_in o).columns
    → ((c : NamedColumn) → slice_get (pipeline_in o).columns n ≡ Some c → IsStrip (copied o first place c.term) (places_of o) (width_of o) (sessions_in first o.to) place (n + 1) mid new)
    → IsBegun o first place (n + 1) old new
column-begun o first place n old mid new begun inside few strips =
    let d = column-at (pipeline_in o).columns n few in
    let strip = strips d.0 d.1 in
    record {
      others = record {
        size = strip.size ∙ begun.others.size;
        others = λ j t e ht he ne. strip.others j t e ht he (λ q r. ne q) ∙ begun.others.others j t e ht he ne;
      };
      marks = λ j h. strip.others j place 0 inside (omega arith) (λ q r. omega arith) ∙ begun.marks j h;
      cells = λ j k c hj hk at. elim (cases_eq k n) [
        | inl e ↦ ap (λ (i : ℕ). in_row o new j place (i + 1)) e ∙ (strips c (ap (slice_get (pipeline_in o).columns) (sym e) ∙ at)).written j hj
        | inr ne ↦ (let w = column-few o k c at in strip.others j place (k + 1) inside (omega arith) (λ q r. ne (omega arith)) ∙ begun.cells j k c hj (omega arith) at)
      ];
    }
  where
    column-at : (cs : List NamedColumn) (i : ℕ) → i < length cs → (c : NamedColumn) × (slice_get cs i ≡ Some c)
    column-at cs i h = let none : NamedColumn = record { name = []; term = 0 } in (get_or cs i none, slice_get-get_or cs i none h)

-- each of its rows is there
pub rows-of-place : (o : Outcome) (first place n : ℕ) (old new : List ℤ) → IsBegun o first place n old new → length (pipeline_in o).columns ≤ n
    → ((k s : ℕ) (c : NamedColumn) → slice_get (pipeline_in o).columns k ≡ Some c → first ≤ s → s ≤ o.to → IsCell (cell_of (world_in o) (pipeline_in o) (sids_in o) c.term place s))
    → (j : ℕ) → j < height → first + j ≤ o.to → IsTileRow o (first + j) place (in_row o new j place)
rows-of-place o first place n old new begun all whole j h within =
    let few : j < sessions_in first o.to = omega arith in
    record {
      mark = ap is_true (begun.marks j few) ∙ is_true-truth (has_row (world_in o) (pipeline_in o) (first + j) (sid_in (sids_in o) place));
      each = λ is k c at. (let w = column-few o k c at in begun.cells j k c few (omega arith) at);
      cell = λ is k hk. (let d = has-column o.asked.checked.now.columns k (omega (arith, columns-long o.asked.checked.now.columns)) in rw (begun.cells j k d.0 few (omega arith) d.1) (whole k (first + j) d.0 d.1 (omega arith) within));
    }

-- a place with no rows
pub no-rows-of-place : (o : Outcome) (first place : ℕ) (old new : List ℤ) → IsBegun o first place 0 old new
    → ((j : ℕ) → j < sessions_in first o.to → has_row (world_in o) (pipeline_in o) (first + j) (sid_in (sids_in o) place) ≡ false)
    → (j : ℕ) → j < height → first + j ≤ o.to → IsTileRow o (first + j) place (in_row o new j place)
no-rows-of-place o first place old new begun none j h within =
    let few : j < sessions_in first o.to = omega arith in
    let mark = ap is_true (begun.marks j few) ∙ is_true-truth (has_row (world_in o) (pipeline_in o) (first + j) (sid_in (sids_in o) place)) in
    let never : is_true (in_row o new j place 0) ≡ true → ⊥ = λ is. true≢false (sym is ∙ mark ∙ none j few) in
    record {
      mark = mark;
      each = λ is k c at. absurd (never is);
      cell = λ is k hk. absurd (never is);
    }

-- the rows of one place more
pub more-rows : (o : Outcome) (first n : ℕ) (old new : List ℤ) → HasRows o first n old → n < places_of o → IsPlace (places_of o) (width_of o) n old new
    → ((j : ℕ) → j < height → first + j ≤ o.to → IsTileRow o (first + j) n (in_row o new j n)) → HasRows o first (n + 1) new
more-rows o first n old new has few place own j i h within l = elim (cases_eq i n) [
  | inl e ↦ rw e (own j h within)
  | inr ne ↦ (
      let before = has j i h within (omega arith) in
      let zero-same = place.others j i 0 (omega arith) (omega arith) ne in
      record {
        mark = ap is_true zero-same ∙ before.mark;
        each = λ is k c at. (let w = column-few o k c at in place.others j i (k + 1) (omega arith) (omega arith) ne ∙ before.each (ap is_true (sym zero-same) ∙ is) k c at);
        cell = λ is k hk. rw (place.others j i (k + 1) (omega arith) (omega arith) ne) (before.cell (ap is_true (sym zero-same) ∙ is) k hk);
      })
]

-- ---- a row of a tile

module _ (o : Outcome) (tile : List ℤ) (j i at m session : ℕ) (is : at ≡ (j * places_of o + i) * width_of o) (wide : m ≡ width_of o) (row : IsTileRow o session i (in_row o tile j i)) where
  number : (k : ℕ) → k < width_of o → get_or (take m (drop at tile)) k (pos 0) ≡ in_row o tile j i k
  number k h =
      get_or-take m (drop at tile) k (pos 0) (omega arith)
      ∙ get_or-drop at tile k (pos 0)
      ∙ ap (λ (n : ℕ). get_or tile (n + k) (pos 0)) is

  pub row-there : FitsSigned w64 (get_or (take m (drop at tile)) 0 (pos 0)) → of_z w64 (get_or (take m (drop at tile)) 0 (pos 0)) ≡ 1 → has_row (world_in o) (pipeline_in o) session (sid_in (sids_in o) i) ≡ true
  row-there fits one = sym row.mark ∙ ap is_true (sym (number 0 (omega arith))) ∙ one-true _ fits one

  pub row-not-there : FitsSigned w64 (get_or (take m (drop at tile)) 0 (pos 0)) → (of_z w64 (get_or (take m (drop at tile)) 0 (pos 0)) ≡ 1 → ⊥) → has_row (world_in o) (pipeline_in o) session (sid_in (sids_in o) i) ≡ false
  row-not-there fits other = sym row.mark ∙ ap is_true (sym (number 0 (omega arith))) ∙ one-false _ fits other

  pub row-cells : at + width_of o ≤ length tile → has_row (world_in o) (pipeline_in o) session (sid_in (sids_in o) i) ≡ true
      → HasCells o i session (take (length (take m (drop at tile)) - 1) (drop 1 (take m (drop at tile))))
  row-cells room there =
      let is_there = row.mark ∙ there in
      let long : length (take m (drop at tile)) ≡ width_of o = (let d = length-drop at tile in length-take-le m (drop at tile) (omega arith) ∙ wide) in
      let rest : length (drop 1 (take m (drop at tile))) ≡ length (pipeline_in o).columns = (let d = length-drop 1 (take m (drop at tile)) in omega arith) in
      let cell : (k : ℕ) → k < length (pipeline_in o).columns → get_or (take (length (take m (drop at tile)) - 1) (drop 1 (take m (drop at tile)))) k (pos 0) ≡ in_row o tile j i (k + 1)
      = λ k h. get_or-take (length (take m (drop at tile)) - 1) (drop 1 (take m (drop at tile))) k (pos 0) (omega arith)
      ∙ get_or-drop 1 (take m (drop at tile)) k (pos 0)
      ∙ number (1 + k) (omega arith)
      ∙ (let e : 1 + k ≡ k + 1 = omega arith in ap (in_row o tile j i) e) in
      record {
        long = length-take-le (length (take m (drop at tile)) - 1) (drop 1 (take m (drop at tile))) (omega arith) ∙ (omega arith);
        each = λ k c e. cell k (column-few o k c e) ∙ row.each is_there k c e;
        cell = λ k h. rw (cell k h) (row.cell is_there k h);
      }
