-- The assets of the records of an assets file, and the first rule that a record breaks.
use Rattle.std.specs.Prelude.{◌≡◌, ℕ, ◌==◌, ◌<◌, ◌≤◌, ◌^◌, nat_le, Bool, false, if◌then◌else◌, codes, List, [], ◌∷◌, length, All, AllPairs, Option, None, Some, option_map, option_and_then, position, slice_get, Result, Ok}
use Rattle.std.specs.List.{list_any}
use Rattle.std.specs.Int.RustNames.{int_lt}
use Rattle.std.specs.Option.{ok_or}
use Rattle.pl_records.specs.Reading.{Record, Fault, field, ◌>>=◌, rows_under}
use Rattle.pl_records.specs.RuleTable.{first_broken, lacks, has}
use Rattle.pl_records.specs.Sorted.{sorted_by}
use Rattle.pl_spec.specs.Dates.{date_in}
use Rattle.pl_spec.specs.Decimals.{sid_in}
use Rattle.pl_spec.specs.declared.AssetRow.{AssetRow}
use Rattle.pl_spec.specs.Limits.{most_assets}
pub use Rattle.pl_records.specs.declared.fault.DataFault.{DataFault}
pub use Rattle.pl_records.specs.declared.fault.DataFault.TheVariants.{BadHeader, TooMany, BadField, StartAfterEnd, DuplicateSid}

abbrev pub header : Record
header = codes "sid" ∷ codes "start" ∷ codes "end" ∷ []

-- the sid and the two days of a record of three fields
abbrev pub asset_in : Record → Option AssetRow
asset_in r =
    if length r == 3 then
    option_and_then (λ sid. option_and_then (λ start. option_map (λ end. record { sid = sid; start = start; end = end })
    (date_in (field r 2))) (date_in (field r 1))) (sid_in (field r 0))
    else None

abbrev pub sid_of : AssetRow → ℕ
sid_of a = a.sid

-- the rules of a record after the header, in the order in which they are tested, and their tests
abbrev pub rules : List DataFault
rules = TooMany ∷ BadField ∷ StartAfterEnd ∷ DuplicateSid ∷ []

abbrev pub breaks : List AssetRow → Record → DataFault → Bool
breaks before r TooMany = nat_le most_assets (length before)
breaks before r BadField = lacks (asset_in r)
breaks before r StartAfterEnd = has (λ a. int_lt a.end a.start) (asset_in r)
breaks before r DuplicateSid = has (λ a. list_any (λ x. sid_of x == a.sid) before) (asset_in r)
breaks before r fault = false

-- the asset of a record after the assets before it, or the first rule that it breaks
unfoldable pub asset_or_rule : List AssetRow → Record → Result AssetRow DataFault
asset_or_rule before r = first_broken rules (breaks before r) (ok_or (asset_in r) BadField)

-- the assets of a file in its order, or its first fault
unfoldable pub rows_in : List Record → Result (List AssetRow) (Fault DataFault)
rows_in records = rows_under header BadHeader asset_or_rule records

-- the same by ascending sid
unfoldable pub assets_of : List Record → Result (List AssetRow) (Fault DataFault)
assets_of records = rows_in records >>= λ rows. Ok (sorted_by sid_of rows)

-- assets as they are kept
pub record AreAssets (rows : List AssetRow) : Type 0 where
  pub ascend : AllPairs (λ a b. a.sid < b.sid) rows
  pub few : length rows ≤ most_assets
  pub small : All (λ a. a.sid < 2 ^ 32) rows

-- the column of the asset that has the sid
abbrev pub col_in : List AssetRow → ℕ → Option ℕ
col_in assets sid = position (λ a. sid_of a == sid) assets

-- the row of a record in the column of its asset
abbrev pub placed : {Said Row : Type 0} → (Record → Option Said) → (Said → ℕ) → (Said → ℕ → Row)
    → List AssetRow → Record → Option Row
placed said_in sid in_column assets r =
    option_and_then (λ x. option_map (in_column x) (col_in assets (sid x))) (said_in r)

-- the asset in the column has the sid
abbrev pub HasSid : List AssetRow → ℕ → ℕ → Type 0
HasSid assets col sid = option_map sid_of (slice_get assets col) ≡ Some sid

-- the row is what the record says, in the column of its asset
pub record IsPlaced {Said Row : Type 0} (IsRecord : Record → Said → Type 0) (sid : Said → ℕ)
    (in_column : Said → ℕ → Row) (assets : List AssetRow) (r : Record) (row : Row) : Type 0 where
  pub said : Said
  pub written : IsRecord r said
  pub col : ℕ
  pub asset : HasSid assets col (sid said)
  pub same : in_column said col ≡ row
