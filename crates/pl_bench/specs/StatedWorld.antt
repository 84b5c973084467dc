-- The stated world of a number: 400 assets over 600 weekdays from 2020-01-01 on, each with a sector and a bar
-- on every session, and 300 adjustments. All draws stand in one sequence, which begins with the number: first
-- 400 for the sectors, then 1,201 for the bars of each asset, one asset after the other, and then those of
-- the adjustments.
use Rattle.std.specs.Prelude.{◌≡◌, ℕ, zero, suc, ◌+◌, ◌-◌, ◌*◌, ◌%◌, nat_lt, Bool, if◌then◌else◌, ℤ, pos, ◌+ℤ◌, ◌-ℤ◌, ◌*ℤ◌, ◌≤ℤ◌, codes, List, [], ◌∷◌, map, filter, take, flat_map, slice_index_or}
use Rattle.std.specs.List.{range_with_len}
use Rattle.std.specs.Int.RustNames.{int_lt}
use Rattle.pl_spec.specs.declared.AssetRow.{AssetRow}
use Rattle.pl_spec.specs.declared.BarRow.{BarRow}
use Rattle.pl_spec.specs.declared.RawAdjust.{RawAdjust}
use Rattle.pl_spec.specs.Parts.{ColumnLabel, ColumnAdjustment, world_of}
use Rattle.pl_spec.specs.Rounding.{MILLION, div_round}
use Rattle.pl_spec.specs.World.{World}
use Rattle.pl_assets.specs.Labels.{LabelTable, table_of}
use Rattle.pl_adjust.specs.Columns.{by_place}
use Rattle.pl_adjust.specs.Tables.{of_walk}
use Rattle.pl_world.specs.declared.owned.OwnedWorld.{OwnedWorld}
use Rattle.pl_bench.specs.Draws.{behind, drawn}

-- ---- sessions and assets

-- Monday to Friday; 1970-01-01, which is day 0, was a Thursday
abbrev pub is_weekday : ℕ → Bool
is_weekday day = nat_lt ((day + 3) % 7) 5

-- the first 600 weekdays from 2020-01-01, which is day 18262
unfoldable pub stated_days : List ℤ
stated_days = map pos (take 600 (filter is_weekday (range_with_len 18262 840)))

abbrev pub first_day : ℤ
first_day = slice_index_or stated_days 0 (pos 0)

abbrev pub last_day : ℤ
last_day = slice_index_or stated_days 599 (pos 0)

-- the asset in a column
abbrev pub asset : ℕ → AssetRow
asset col = record { sid = col + 1; start = first_day; end = last_day }

unfoldable pub stated_assets : List AssetRow
stated_assets = map asset (range_with_len 0 400)

-- ---- sectors

-- the sector S and a digit, from the first session on
abbrev pub sector : ℕ → ℕ → ColumnLabel
sector state col =
    record { name = codes "sector"; col = col; start = first_day; text = 83 ∷ (48 + drawn state col 10) ∷ [] }

-- those whose draws stand after the state
unfoldable pub sectors_from : ℕ → List ColumnLabel
sectors_from state = map (sector state) (range_with_len 0 400)

-- ---- bars

-- a price changed by between -200 and 200 ten-thousandths of it, but no less than one unit of money
unfoldable pub next_price : ℤ → ℕ → ℤ
next_price price draw =
    let grown = price +ℤ div_round (price *ℤ (pos draw -ℤ pos 200)) 10000 in
    if int_lt grown (pos MILLION) then pos MILLION else grown

-- The prices of an asset whose draws stand after the state: that with which it begins, and then that of each
-- session. A session draws its change and then its volume.
unfoldable pub price : ℕ → ℕ → ℤ
price state zero = pos (20000000 + drawn state 0 80 * MILLION)
price state (suc session) = next_price (price state session) (drawn state (1 + 2 * session) 401)

-- from one unit of money to m millionths of it
pub record IsPrice (m : ℕ) (price : ℤ) : Type 0 where
  pub low : pos MILLION ≤ℤ price
  pub high : price ≤ℤ pos m

-- in millionths of a share
abbrev pub volume : ℕ → ℕ → ℤ
volume state session = pos ((1000 + drawn state (2 + 2 * session) 100000) * MILLION)

abbrev pub bar_cells : ℤ → ℤ → List ℤ
bar_cells price volume = price ∷ price ∷ price ∷ price ∷ volume ∷ []

abbrev pub bar : ℕ → ℕ → ℕ → BarRow
bar state col session =
    record { col = col; session = session; cells = bar_cells (price state (session + 1)) (volume state session) }

abbrev pub bars_of_asset : ℕ → ℕ → List BarRow
bars_of_asset state col = map (bar state col) (range_with_len 0 600)

unfoldable pub bars_from : ℕ → List BarRow
bars_from state = flat_map (λ col. bars_of_asset (behind state (1201 * col)) col) (range_with_len 0 400)

-- ---- adjustments

-- A row whose two draws stand after the state: its sid, and the session on whose midnight it acts.
abbrev pub adjust : ℕ → ℤ → ℤ → ℤ → RawAdjust
adjust state id num den =
    record {
      id = id;
      effective = slice_index_or stated_days (1 + drawn state 1 599) (pos 0) *ℤ pos 86400;
      num = num;
      den = den;
      sid = pos (1 + drawn state 0 400);
    }

-- The adjustments come in turn, a split 1/2, a merger 9/10 and a dividend, which draws its num: seven draws a
-- turn.
abbrev pub turn : ℕ → ℕ → ℕ
turn state k = behind state (7 * k)

abbrev pub split : ℕ → ℕ → RawAdjust
split state k = adjust (turn state k) (pos (3 * k)) (pos 1) (pos 2)

abbrev pub merger : ℕ → ℕ → RawAdjust
merger state k = adjust (behind (turn state k) 2) (pos (3 * k + 1)) (pos 9) (pos 10)

abbrev pub dividend : ℕ → ℕ → RawAdjust
dividend state k =
    let at = behind (turn state k) 4 in
    adjust at (pos (3 * k + 2)) (pos (1000 - drawn at 2 30)) (pos 1000)

-- a table of 100 rows
abbrev pub in_turn : (ℕ → RawAdjust) → List RawAdjust
in_turn row = map row (range_with_len 0 100)

-- by column and day
unfoldable pub adjustments_from : ℕ → List ColumnAdjustment
adjustments_from state =
    by_place
    (of_walk stated_assets (in_turn (split state)) (in_turn (merger state)) (in_turn (dividend state)))

-- ---- the world

abbrev pub stated_labels : ℕ → LabelTable
stated_labels number = table_of (sectors_from number)

abbrev pub stated_bars : ℕ → List BarRow
stated_bars number = bars_from (behind number 400)

abbrev pub stated_adjustments : ℕ → List ColumnAdjustment
stated_adjustments number = adjustments_from (behind number 480800)

unfoldable pub stated_world : ℕ → World
stated_world number =
    world_of stated_days stated_assets (stated_labels number).rows (stated_labels number).texts
    (stated_bars number) (stated_adjustments number) []

-- the parts are those of the stated world of the number
pub record IsStated (number : ℕ) (w : OwnedWorld) : Type 0 where
  pub sessions : w.sessions ≡ stated_days
  pub assets : w.assets ≡ stated_assets
  pub labels : w.labels ≡ stated_labels number
  pub bars : w.bars ≡ stated_bars number
  pub adjustments : w.adjustments ≡ stated_adjustments number
  pub numbers : w.numbers.rows ≡ []
