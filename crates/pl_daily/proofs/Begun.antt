-- What is held before the first day.
use Rattle.std.proofs.Common.{◌≡◌, ℕ, ◌+◌, ◌<◌, true, false, pos, List, [], ◌∷◌, ◌++◌, length, get_or, set, replicate, Option, Some, None, option_map, slice_get, refl, sym, ◌∙◌, ap, subst, arith, inl, inr, All, get_or-set_same, get_or-set_other}
use Rattle.std.specs.Prelude.{is_some, IfNone}
use Rattle.std.proofs.lemmas.Bool.{cases_eq, true≢false}
use Rattle.std.proofs.lemmas.List.{length-replicate, length-append, length-map}
use Rattle.std.proofs.lemmas.List.Elements.{All-replicate}
use Rattle.std.proofs.lemmas.Option.{slice_get_within, slice_get-map, same_Some}
use Rattle.circular_buffer.proofs.Places.{slice_get-append_left, slice_get-append_right, slice_get-some}
use Rattle.pl_spec.specs.declared.Column.{Column}
use Rattle.pl_spec.specs.declared.Frequency.{Frequency}
use Rattle.pl_pipeline.specs.Kind.{Kind}
use Rattle.pl_pipeline.specs.Kind.Kind.{Downsample}
use Rattle.pl_spec.specs.Rounding.{IsCell}
use Rattle.pl_pipeline.specs.Table.{Pipeline}
use Rattle.pl_pipeline.proofs.Cells.{zero-cell}
use Rattle.pl_terms.specs.Checked.{IsChecked}
use Rattle.pl_terms.specs.Sorts.{is_downsampled}
use Rattle.pl_terms.specs.Uses.{is_used}
use Rattle.pl_values.specs.Arrays.{empty_cell}
use Rattle.pl_daily.specs.declared.columns.BarRings.{BarRings}
use Rattle.pl_daily.specs.declared.ring_starts.Capacities.{Capacities}
use Rattle.pl_daily.specs.Columns.{AreBarRings, BeginColumns, HasRoom, rings_of}
use Rattle.pl_daily.specs.Days.{IsStart}
use Rattle.pl_daily.specs.declared.term_day.TermCells.{TermCells}
use Rattle.pl_daily.specs.declared.starts.StartCells.{StartCells}
use Rattle.pl_daily.specs.Capacities.{column_window, term_window}
use Rattle.pl_daily.specs.Daily.{Held, HasBeenFed, start_in}
use Rattle.pl_daily.specs.Room.{AreBegun, AreBegunStarts, HasColumns, IsBegun, no_session}
use Rattle.pl_daily.specs.Terms.{AreStartCells, AreStarts, AreTerms, IsStartRoom, rooms}
use Rattle.pl_planner.proofs.Counting.{all_same}
use Rattle.pl_daily.proofs.Firsts.{none-first}
use Rattle.pl_daily.proofs.Greatest.{column-window-in, mask-window-in, term-window-in, window-deep}

-- ---- lists

pub one_more : (xs ys : List ℕ) (k x : ℕ) → ((j : ℕ) → j < k → get_or xs j 0 ≡ get_or ys j 0) → k < length xs → x ≡ get_or ys k 0
    → (j : ℕ) → j < k + 1 → get_or (set xs k x) j 0 ≡ get_or ys j 0
one_more xs ys k x so_far inside is j l = elim (cases_eq j k) [
  | inl same ↦ ap (λ i. get_or (set xs k x) i 0) same ∙ get_or-set_same xs k x 0 inside ∙ is ∙ ap (λ i. get_or ys i 0) (sym same)
  | inr other ↦ get_or-set_other xs k j x 0 other ∙ so_far j (omega (arith, l, other))
]

-- what stands in a place of a list with one more after it
pub in_more : {X : Type 0} (P : ℕ → X → Type 0) (xs : List X) (x : X) (n : ℕ) → length xs ≡ n → ((k : ℕ) (y : X) → slice_get xs k ≡ Some y → P k y) → P n x
    → (k : ℕ) (y : X) → slice_get (xs ++ x ∷ []) k ≡ Some y → P k y
in_more P xs x n long each new k y e = elim (cases_eq k n) [
  | inl same ↦
      let at : slice_get (xs ++ x ∷ []) k ≡ Some x = slice_get-append_right xs (x ∷ []) k 0 (omega (arith, same, long)) in
      let is : x ≡ y = same_Some x y (sym at ∙ e) in
      subst (λ i. P i y) (sym same) (subst (P n) is new)
  | inr other ↦
      let within : k < length (xs ++ x ∷ []) = slice_get_within (xs ++ x ∷ []) k y e in
      let more : length (xs ++ x ∷ []) ≡ length xs + 1 = length-append xs (x ∷ []) in
      each k y (sym (slice_get-append_left xs (x ∷ []) k (omega (arith, within, more, other, long))) ∙ e)
]

long_more : {X : Type 0} (xs : List X) (x : X) (n : ℕ) → length xs ≡ n → length (xs ++ x ∷ []) ≡ n + 1
long_more xs x n e = length-append xs (x ∷ []) ∙ ap (λ m. m + 1) e

-- ---- terms and starts, one after the other

pub begun_more : (assets : ℕ) (p : Pipeline) (k : ℕ) (terms made : List TermCells) (t : TermCells) → made ≡ terms ++ t ∷ [] → AreBegun assets p k terms → IsBegun assets p k t → AreBegun assets p (k + 1) made
begun_more assets p k terms made t e b t_is = rw e (record { many = long_more terms t k b.many; each = in_more (IsBegun assets p) terms t k b.many b.each t_is })

pub starts_begun : (assets : ℕ) (p : Pipeline) (k : ℕ) (starts made : List StartCells) (s : StartCells) → made ≡ starts ++ s ∷ [] → AreBegunStarts assets p k starts → IsStartRoom assets p k s
    → AreBegunStarts assets p (k + 1) made
starts_begun assets p k starts made s e b is = rw e (record { many = long_more starts s k b.many; full = in_more (IsStartRoom assets p) starts s k b.many b.full is })

pub start_full : (assets n : ℕ) (s : StartCells) → s.row.items ≡ replicate n (pos 0) → n ≡ assets → AreStartCells assets s
start_full assets n s e is = record {
  row = ap length e ∙ length-replicate n (pos 0) ∙ is;
  cells = subst (All IsCell) (sym e) (All-replicate IsCell n (pos 0) zero-cell);
}

-- ---- all of it

-- rings with the same room have room for the same windows
pub windows_stay : (p : Pipeline) (old new : List TermCells) → rooms new ≡ rooms old → ((u : ℕ) (t : TermCells) → slice_get old u ≡ Some t → t.rings.capacity ≡ term_window p u)
    → (u : ℕ) (t : TermCells) → slice_get new u ≡ Some t → t.rings.capacity ≡ term_window p u
windows_stay p old new same each u t e =
    let room_of : TermCells → ℕ = λ x. x.rings.capacity in
    let here : slice_get (rooms old) u ≡ Some t.rings.capacity = ap (λ ns. slice_get ns u) (sym same) ∙ slice_get-map room_of new u ∙ ap (option_map room_of) e in
    let within : u < length old = (let l = slice_get_within (rooms old) u t.rings.capacity here in let m = length-map old room_of in omega (arith, l, m)) in
    let x = slice_get-some old u within in
    let is : (x.0).rings.capacity ≡ t.rings.capacity = same_Some (x.0).rings.capacity t.rings.capacity (ap (option_map room_of) (sym x.1) ∙ sym (slice_get-map room_of old u) ∙ here) in
    sym is ∙ each u x.0 x.1

module _ (assets : ℕ) (p : Pipeline) (x : Capacities) (bars : BarRings) (terms : List TermCells) (starts : List StartCells)
    (columns : HasColumns p x) (room : HasRoom x bars) (are : AreBarRings assets bars) (begun : AreBegun assets p (length p.graph) terms)
    (begun_starts : AreBegunStarts assets p (length p.graph) starts) where
  pub columns_fit : (c : Column) → (rings_of bars c).capacity ≡ column_window p c
  columns_fit c = room.rings c ∙ columns c

  pub terms_are : IsChecked p → AreTerms assets p bars terms
  terms_are ok = record {
    many = begun.many;
    room = record {
      full = λ u t used e. (begun.each u t e).cells used;
      values = λ k n place u t used at reads input e. (let fits = term-window-in p k place n used at u reads input in omega (arith, fits, (begun.each u t e).capacity));
      masks = λ k n u t used at deep mask e. (let fits = mask-window-in p ok k n used at u deep mask in omega (arith, fits, (begun.each u t e).capacity));
      bars = λ k n place c used at input. (let fits = column-window-in p k place n used at c input in omega (arith, fits, columns_fit c));
      bar_rings = are;
    };
    deep = λ u t used e moves. (let most = window-deep p ok u moves in omega (arith, most, (begun.each u t e).capacity));
  }

  pub starts_are : AreStarts assets p starts
  starts_are = record { many = begun_starts.many; full = begun_starts.full }

  pub stands_first : (h : Held) → IsStart (start_in h) → length h.assets ≡ assets → h.pipeline ≡ p → h.fed ≡ 0 → h.answered ≡ false → BeginColumns assets h.bars → h.terms ≡ terms
      → (m : ℕ) → h.since ≡ replicate m no_session → HasBeenFed h []
  stands_first h start many pipeline none silent begins is m since = record {
    start = start;
    are_fed = tt;
    fed = none;
    last = rw none refl;
    bars = begins (start_in h) many;
    terms = λ u t used e.
        let b : IsBegun assets p u t = begun.each u t (ap (λ ts. slice_get ts u) (sym is) ∙ e) in
        b.begins (ap (λ q. is_used q u) (sym pipeline) ∙ used) (start_in h) h.pipeline u many (ap (λ q. empty_cell q u) (sym pipeline));
    starts = record { each = λ k s e f u down. record { session = λ some. absurd (omega (arith, some)); row = λ some. absurd (omega (arith, some)) } };
    since = none-first h.pipeline h.since (λ k. ap (λ os. get_or os k None) since ∙ all_same m k no_session);
    answered = λ some. absurd (omega (arith, some, none));
    kept = λ answers. absurd (true≢false (sym answers ∙ silent));
  }

-- ---- downsampled terms

pub some_of : (o : Option Frequency) (k : Kind) (f : Frequency) → IfNone o (is_downsampled k ≡ false) → k ≡ Downsample f → is_some o ≡ true
some_of (Some e) k f h is = refl
some_of None k f h is = absurd (true≢false (sym (ap is_downsampled is) ∙ h))
