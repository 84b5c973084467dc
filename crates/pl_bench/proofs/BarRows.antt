-- The rows of the bars.
use Rattle.std.proofs.Common.{◌≡◌, ℕ, suc, ◌+◌, ◌*◌, ◌^◌, ◌/◌, ◌%◌, ◌<◌, ◌≤◌, IsTrue, ◌==◌, ◌&&◌, ◌||◌, ℤ, pos, List, [], ◌∷◌, ◌++◌, length, map, get_or, refl, sym, ap, ◌∙◌, arith, append_assoc}
use Rattle.std.specs.Prelude.{flat_map, nat_lt}
use Rattle.std.specs.List.{range_with_len, All}
use Rattle.std.proofs.lemmas.Bool.Decides.{nat_tests}
use Rattle.std.proofs.lemmas.Int.{ints}
use Rattle.std.proofs.lemmas.List.Elements.{All-cons, All-nil}
use Rattle.std.proofs.lemmas.List.FromFn.{length-map-range_with_len, get_or-map-range_with_len}
use Rattle.pl_spec.specs.declared.BarRow.{BarRow}
use Rattle.pl_spec.specs.Rounding.{MILLION}
use Rattle.pl_bars.specs.Bars.{AreBars, is_bar_cell}
use Rattle.pl_bench.specs.Draws.{behind, drawn}
use Rattle.pl_bench.specs.StatedWorld.{IsPrice, price, next_price, volume, bar, bar_cells, bars_of_asset, bars_from}
use Rattle.pl_bench.proofs.Grids.{length-grid, get_or-grid, grid-more, map-more}
use Rattle.pl_bench.proofs.Prices.{prices-small}
use Rattle.pl_bench.proofs.Sequences.{number-below}

abbrev pub rows_of : ℕ → ℕ → List BarRow
rows_of state col = bars_of_asset (behind state (1201 * col)) col

as_many : (state col : ℕ) → length (rows_of state col) ≡ 600
as_many state col = length-map-range_with_len (bar (behind state (1201 * col)) col) 0 600

pub length-bars : (state : ℕ) → length (bars_from state) ≡ 240000
unfolding bars_from
length-bars state = length-grid (rows_of state) 600 (as_many state) 0 400

-- the bar at a place
placed : ℕ → ℕ → BarRow
placed state i = bar (behind state (1201 * (i / 600))) (i / 600) (i % 600)

bar-at : (state i : ℕ) (d : BarRow) → i < 240000 → get_or (bars_from state) i d ≡ placed state i
unfolding bars_from placed
bar-at state i d h =
    let few : i / 600 < 400 = omega arith in
    let short : i % 600 < 600 = omega arith in
    let parts : i ≡ i / 600 * 600 + i % 600 = omega arith in
    let first : 0 + i / 600 ≡ i / 600 = omega arith in
    get_or-grid (rows_of state) 600 (as_many state) 0 400 (i / 600) (i % 600) i d few short parts
    ∙ ap (λ (c : ℕ). get_or (rows_of state c) (i % 600) d) first
    ∙ get_or-map-range_with_len (bar (behind state (1201 * (i / 600))) (i / 600)) 0 600 (i % 600) (i % 600) d short (omega arith)

price-cell : (p : ℤ) → IsPrice (10 ^ 15) p → IsTrue (is_bar_cell p)
price-cell p h = grind (arith, ints, h.low, h.high)

volume-cell : (n : ℕ) → n < 100000 → IsTrue (is_bar_cell (pos ((1000 + n) * MILLION)))
volume-cell n h = grind (arith, ints, nat_tests)

cells-right : (p v : ℤ) → IsTrue (is_bar_cell p) → IsTrue (is_bar_cell v) → All (λ x. IsTrue (is_bar_cell x)) (bar_cells p v)
cells-right p v a b =
    let is = λ (x : ℤ). IsTrue (is_bar_cell x) in
    All-cons is p (p ∷ p ∷ p ∷ v ∷ []) a (All-cons is p (p ∷ p ∷ v ∷ []) a (All-cons is p (p ∷ v ∷ []) a (All-cons is p (v ∷ []) a (All-cons is v [] b (All-nil is)))))

bar-right : (state col s : ℕ) → s < 600 → All (λ x. IsTrue (is_bar_cell x)) (bar state col s).cells
bar-right state col s h =
    cells-right (price state (s + 1)) (volume state s) (price-cell (price state (s + 1)) (prices-small state (s + 1) (omega arith)))
    (volume-cell (drawn state (2 + 2 * s) 100000) (number-below (behind state (2 + 2 * s + 1)) 100000 (omega arith)))

before : (a b x y : ℕ) → a ≤ b → (a ≡ b → x < y) → IsTrue (nat_lt a b || (a == b && nat_lt x y))
before a b x y h t = grind (arith, nat_tests)

pub are_bars : (state : ℕ) → AreBars (bars_from state)
unfolding placed
are_bars state =
    record {
      ascend = λ i j d h l. (
          let few : j < 240000 = omega (arith, length-bars state) in
          rw (bar-at state i d (omega arith), bar-at state j d few) (before (i / 600) (j / 600) (i % 600) (j % 600) (omega arith) (λ e. omega arith)));
      few = omega (arith, length-bars state);
      cells = λ i d l. (
          let few : i < 240000 = omega (arith, length-bars state) in
          rw (bar-at state i d few) (bar-right (behind state (1201 * (i / 600))) (i / 600) (i % 600) (omega arith)));
    }

pub bars-all : (state : ℕ) → flat_map (rows_of state) (range_with_len 0 400) ≡ bars_from state
unfolding bars_from
bars-all state = refl

pub bars-more : (state col s : ℕ) (old rows : List BarRow) → old ≡ flat_map (rows_of state) (range_with_len 0 col) → s ≡ behind state (1201 * col)
    → rows ≡ old ++ bars_of_asset s col → rows ≡ flat_map (rows_of state) (range_with_len 0 (col + 1))
bars-more state col s old rows was at more =
    more ∙ ap (λ (xs : List BarRow). xs ++ bars_of_asset s col) was
    ∙ ap (λ (n : ℕ). flat_map (rows_of state) (range_with_len 0 col) ++ bars_of_asset n col) at
    ∙ sym (grid-more (rows_of state) col)

-- ---- the bars of one asset

pub first-price : (state n : ℕ) (z : ℤ) → n ≡ drawn state 0 80 → z ≡ pos ((20 + n) * 1000000) → z ≡ price state 0
unfolding price
first-price state n z e f = let g : (20 + n) * 1000000 ≡ 20000000 + drawn state 0 80 * MILLION = omega (arith, e) in f ∙ ap pos g

price-suc : (state s : ℕ) → price state (suc s) ≡ next_price (price state s) (drawn state (1 + 2 * s) 401)
unfolding price
price-suc state s = refl

pub later-price : (state s draw : ℕ) (p q : ℤ) → p ≡ price state s → draw ≡ drawn state (1 + 2 * s) 401 → q ≡ next_price p draw → q ≡ price state (s + 1)
later-price state s draw p q e f g =
    let one : suc s ≡ s + 1 = omega arith in
    g ∙ ap (λ (x : ℤ). next_price x draw) e ∙ ap (next_price (price state s)) f ∙ sym (price-suc state s) ∙ ap (price state) one

pub later-volume : (state s n : ℕ) (z : ℤ) → n ≡ drawn state (2 + 2 * s) 100000 → z ≡ pos ((1000 + n) * 1000000) → z ≡ volume state s
later-volume state s n z e f = let g : (1000 + n) * 1000000 ≡ (1000 + drawn state (2 + 2 * s) 100000) * MILLION = omega (arith, e) in f ∙ ap pos g

pub bar-made : (state col s : ℕ) (p v : ℤ) → p ≡ price state (s + 1) → v ≡ volume state s → record { col = col; session = s; cells = bar_cells p v } ≡ bar state col s
bar-made state col s p v e f = rw (e, f) refl

pub asset-more : (state col s : ℕ) (old rows more : List BarRow) (b : BarRow) → rows ≡ old ++ map (bar state col) (range_with_len 0 s) → b ≡ bar state col s → more ≡ rows ++ b ∷ []
    → more ≡ old ++ map (bar state col) (range_with_len 0 (s + 1))
asset-more state col s old rows more b was is e =
    e ∙ ap (λ (xs : List BarRow). xs ++ b ∷ []) was ∙ append_assoc old (map (bar state col) (range_with_len 0 s)) (b ∷ [])
    ∙ ap (λ (x : BarRow). old ++ (map (bar state col) (range_with_len 0 s) ++ x ∷ [])) is
    ∙ ap (λ (xs : List BarRow). old ++ xs) (sym (map-more (bar state col) s))

-- ---- they are of assets, on sessions

pub cols-in : (state : ℕ) → All (λ b. b.col < 400) (bars_from state)
unfolding placed
cols-in state i d l = let few : i < 240000 = omega (arith, length-bars state) in rw (bar-at state i d few) (omega arith)

pub sessions-in : (state : ℕ) → All (λ b. b.session < 600) (bars_from state)
unfolding placed
sessions-in state i d l = let few : i < 240000 = omega (arith, length-bars state) in rw (bar-at state i d few) (omega arith)
