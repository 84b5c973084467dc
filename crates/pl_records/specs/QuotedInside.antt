-- How csv's reader keeps the records.
use Rattle.std.specs.Prelude.{ℕ, List, [], ◌≡◌, Option, Some, None, Bool, true, false, length, ◌+◌, ⊤}
use Rattle.csv.specs.Reading.{Ready, default_config, source_of, records_from}
use Rattle.csv.specs.Records.{fields_of}
use Rattle.csv.specs.Machine.{ends_at_end}
use Rattle.csv.specs.declared.reader.Reader.{Reader}
use Rattle.csv.specs.declared.reader.Trim.TheVariants as trim
use Rattle.csv.specs.declared.parser.State.{State}
use Rattle.pl_records.specs.View.{RecordsView}
use Rattle.pl_records.specs.declared.quoted.QuotedRecords.TheInside.{Inside}
use Rattle.std.proofs.Common.{Bor}

-- the records of the bytes that a reader has left, where it has not failed
abbrev pub records_left : State → Option (List ℕ) → List (List (List ℕ))
records_left state None = []
records_left state (Some text) = records_from default_config (length text + 1) state text

abbrev pub left_unless : Bool → List (List (List ℕ)) → List (List (List ℕ))
left_unless true left = []
left_unless false left = left

abbrev pub unread : Reader (Bor (List ℕ)) → Option (List ℕ)
unread reader = source_of (λ s. Some s.now) reader

abbrev pub view_of : Inside → RecordsView
view_of a = record { fields = fields_of a.row; left = left_unless a.done (records_left a.reader.state (unread a.reader)) }

-- a reader that gives the records of a text, as it was set up
pub record IsAtRecord (reader : Reader (Bor (List ℕ))) : Type 0 where
  pub any_length : reader.flexible ≡ true
  pub trim : reader.trim ≡ trim.None
  pub ready : Ready reader
  pub config : reader.config ≡ default_config
  pub between : ends_at_end reader.state ≡ false

abbrev pub IsReadingUnless : Bool → Reader (Bor (List ℕ)) → Type 0
IsReadingUnless true reader = ⊤
IsReadingUnless false reader = IsAtRecord reader

abbrev pub IsReading : Inside → Type 0
IsReading a = IsReadingUnless a.done a.reader
