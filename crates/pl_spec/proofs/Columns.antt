-- Columns of bars and of assets, and what stands in them.
use Rattle.std.proofs.Common.{◌≡◌, ◌⊎◌, ℕ, suc, ◌<◌, ◌==◌, Bool, true, false, pos, ◌≤ℤ◌, List, [], ◌∷◌, length, map, filter, get_or, All, AllPairs, option_map, unwrap_or, sym, ◌∙◌, ap, arith, inl, inr, refl}
use Rattle.std.specs.List.{range_with_len}
use Rattle.std.proofs.lemmas.Bool.Decides.{nat_tests}
use Rattle.std.proofs.lemmas.List.{get_or-map, length-map}
use Rattle.std.proofs.lemmas.List.FromFn.{fill_by_all}
use Rattle.std.proofs.lemmas.Option.{slice_get-get_or}
use Rattle.pl_spec.specs.declared.AssetRow.{AssetRow}
use Rattle.pl_spec.specs.declared.Column.{Column}
use Rattle.pl_spec.specs.declared.Column.TheVariants.{OpenPrice, High, Low, Close, Volume}
use Rattle.pl_spec.specs.Parts.{ColumnAdjustment, adjustment_of, sid_at}
use Rattle.pl_spec.specs.World.{Event, column_number}

pub column_number-one : (c k : Column) → column_number c ≡ column_number k → c ≡ k
column_number-one OpenPrice OpenPrice h = refl
column_number-one High High h = refl
column_number-one Low Low h = refl
column_number-one Close Close h = refl
column_number-one Volume Volume h = refl
column_number-one c k h = absurd (omega arith)

-- ---- sids of columns

-- an asset for places at which no row stands
abbrev pub no_asset : AssetRow
no_asset = record { sid = 0; start = pos 0; end = pos 0 }

pub sid_at-row : (assets : List AssetRow) (col : ℕ) (d : AssetRow) → col < length assets → sid_at assets col ≡ (get_or assets col d).sid
sid_at-row assets col d h = ap (λ o. unwrap_or (option_map (λ (a : AssetRow). a.sid) o) 0) (slice_get-get_or assets col d h)

pub sid-there : (assets : List AssetRow) (col : ℕ) → col < length assets → sid_at assets col ≡ (get_or assets col no_asset).sid
sid-there assets col h = sid_at-row assets col no_asset h

-- the sids of all columns, in whose order the assets stand
pub sids-all : (assets : List AssetRow) → map (λ a. a.sid) assets ≡ map (sid_at assets) (range_with_len 0 (length assets))
sids-all assets = fill_by_all (sid_at assets) (map (λ a. a.sid) assets) (length assets) 0 (length-map assets (λ (a : AssetRow). a.sid)) (λ k h. at k h)
  where
    at : (k : ℕ) → k < length assets → get_or (map (λ (a : AssetRow). a.sid) assets) k 0 ≡ sid_at assets k
    at k h = get_or-map (λ (a : AssetRow). a.sid) assets k no_asset 0 h ∙ sym (sid-there assets k h)

-- ---- events of columns

abbrev pub events_by : List AssetRow → List ColumnAdjustment → ℕ → List Event
events_by assets xs a = map (λ x. x.event) (filter (λ x. x.sid == a) (map (adjustment_of assets) xs))

-- a sid has no adjustment, or is that of a column
pub sid-found : (assets : List AssetRow) (xs : List ColumnAdjustment) (a : ℕ) → All (λ x. x.col < length assets) xs
    → (events_by assets xs a ≡ []) ⊎ ((col : ℕ) × (col < length assets) × (sid_at assets col ≡ a))
sid-found assets [] a all = inl refl
sid-found assets (x ∷ xs) a all = here (sid_at assets x.col == a) refl (sid-found assets xs a (λ k d l. all (suc k) d (omega arith)))
  where
    here : (b : Bool) → (sid_at assets x.col == a) ≡ b → (events_by assets xs a ≡ []) ⊎ ((col : ℕ) × (col < length assets) × (sid_at assets col ≡ a))
        → (events_by assets (x ∷ xs) a ≡ []) ⊎ ((col : ℕ) × (col < length assets) × (sid_at assets col ≡ a))
    here true t rest = inr (x.col, all 0 x (omega arith), grind (arith, nat_tests))
    here false t (inl none) = inl (rw t none)
    here false t (inr col) = inr col

pub events-by-day : (xs : List ColumnAdjustment) → AllPairs (λ x y. x.event.day ≤ℤ y.event.day) xs → AllPairs (λ e f. e.day ≤ℤ f.day) (map (λ (x : ColumnAdjustment). x.event) xs)
events-by-day xs up i j d before within =
    let e : ColumnAdjustment = record { col = 0; event = d } in
    let long : length (map (λ (x : ColumnAdjustment). x.event) xs) ≡ length xs = length-map xs (λ x. x.event) in
    let first : get_or (map (λ (x : ColumnAdjustment). x.event) xs) i d ≡ (get_or xs i e).event = get_or-map (λ x. x.event) xs i e d (omega arith) in
    let second : get_or (map (λ (x : ColumnAdjustment). x.event) xs) j d ≡ (get_or xs j e).event = get_or-map (λ x. x.event) xs j e d (omega arith) in
    rw (first, second) (up i j e before (omega arith))
