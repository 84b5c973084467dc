-- The numbers of a second file beside those of a first.
use Rattle.std.specs.Prelude.{ℕ, ◌+◌, ◌-◌, nat_lt, Bool, if◌then◌else◌, List, ◌++◌, length, drop, take, bytes_eq, Result, Ok, Err}
use Rattle.std.specs.List.{list_any, position_or_len}
use Rattle.pl_records.specs.Reading.{Record, Fault, ◌>>=◌}
use Rattle.pl_spec.specs.Limits.{most_numbers}
use Rattle.pl_spec.specs.declared.AssetRow.{AssetRow}
use Rattle.pl_numbers.specs.Numbers.{NumberTable, DataFault, TooMany, Duplicate, numbers_of}

-- the names and the rows of the one behind those of the other
abbrev pub both : NumberTable → NumberTable → NumberTable
both first other = record { names = first.names ++ other.names; rows = first.rows ++ other.rows }

abbrev pub is_among : List (List ℕ) → List ℕ → Bool
is_among names name = list_any (bytes_eq name) names

-- the record begins with one of the names
abbrev pub begins_among : List (List ℕ) → Record → Bool
begins_among names r = list_any (is_among names) (take 1 r)

-- There is room for the rows of both, and no name has rows in both: the fault is that of the first record
-- after the header that has no room, or else of the first that has a name of the first file.
unfoldable pub joined : NumberTable → List Record → NumberTable → Result NumberTable (Fault DataFault)
joined first records other =
    if nat_lt most_numbers (length first.rows + length other.rows)
    then Err (record { rule = TooMany; line = 2 + (most_numbers - length first.rows) })
    else (if list_any (is_among first.names) other.names
    then Err (record { rule = Duplicate; line = 2 + position_or_len (begins_among first.names) (drop 1 records) })
    else Ok (both first other))

-- the numbers of a first file with those of the records of a second one, which are judged by themselves first
unfoldable pub numbers_beside : NumberTable → List AssetRow → List Record → Result NumberTable (Fault DataFault)
numbers_beside first assets records = numbers_of assets records >>= joined first records
