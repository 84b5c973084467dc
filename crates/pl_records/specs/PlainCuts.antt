-- A record without quotes up to some place in its text.
use Rattle.std.specs.Prelude.{ℕ, ◌-◌, ◌<◌, ◌≤◌, ◌≡◌, ◌⊎◌, List, [], ◌∷◌, take, drop, length, Bool, nat_le, Option, ⊤}
use Rattle.csv.specs.Machine.{next_record, Read}
use Rattle.csv.specs.Reading.{default_config, records}
use Rattle.csv.specs.declared.parser.State.{State}
use Rattle.csv.specs.declared.parser.State.TheVariants as st
use Rattle.pl_records.specs.Records.{csv_records}
use Rattle.pl_records.specs.declared.plain.TheConstants.{MOST_FIELDS}
use Rattle.pl_records.specs.declared.plain.Begun.{Begun}
use Rattle.pl_records.specs.declared.plain.Cut.{Cut}
use Rattle.pl_records.specs.declared.plain.Cut.TheVariants.{On, End, Other}

abbrev pub IsInside : State → Type 0
IsInside s = (s ≡ st.StartField) ⊎ (s ≡ st.InField)

-- what the record of the text is, by its fields so far and the text that is left of it
pub record IsReadTo (whole : Option Read) (fields : List (List ℕ)) (field left : List ℕ) : Type 0 where
  pub state : State
  pub inside : IsInside state
  pub same : whole ≡ next_record default_config state fields field left

-- the same, by places in the text: a field begins at start, and the byte at i comes next
pub record IsCutTo (text : List ℕ) (fields : List (List ℕ)) (start i : ℕ) : Type 0 where
  pub low : start ≤ i
  pub read : IsReadTo (next_record default_config st.StartRecord [] [] text) fields (take (i - start) (drop start text)) (drop i text)

-- the same, with the fields in the first places, and a place for the next one
pub record IsBegun (text : List ℕ) (places : List (List ℕ)) (i : ℕ) (begun : Begun) : Type 0 where
  pub few : begun.count < MOST_FIELDS
  pub cut : IsCutTo text (take begun.count places) begun.start i

-- the record goes on after the bytes up to i, or it is whole
abbrev pub IsCut : List ℕ → List (List ℕ) → ℕ → Cut → Type 0
IsCut text places i (On begun) = IsBegun text places i begun
IsCut text places i (End line) =
    (line.count ≤ MOST_FIELDS) × (line.end ≤ length text) × (records default_config text ≡ take line.count places ∷ csv_records (drop line.end text))
IsCut text places i Other = ⊤

-- the byte may end a field: it is not above the comma
abbrev pub is_low : ℕ → Bool
is_low c = nat_le c 44
