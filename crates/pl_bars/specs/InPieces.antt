-- Bars of a text that is read in pieces: what was judged of it, and what is left.
use Rattle.std.specs.Prelude.{◌≡◌, ℕ, ◌≤◌, Bool, true, false, IsTrue, ℤ, List, [], ◌++◌, length, IfSome, Result, Ok, Err, ⊤}
use Rattle.std.specs.List.{list_all}
use Rattle.pl_records.specs.Reading.{Record}
use Rattle.pl_records.specs.Records.{csv_records}
use Rattle.pl_records.specs.WholeRecords.{is_unquoted}
use Rattle.pl_spec.specs.Limits.{most_bars}
use Rattle.pl_spec.specs.declared.AssetRow.{AssetRow}
use Rattle.pl_spec.specs.declared.BarRow.{BarRow}
use Rattle.pl_bars.specs.Bars.{rows_in}
use Rattle.pl_bars.specs.BarPoint.{Rise}
use Rattle.pl_bars.specs.BarSet.{AreBarsIn}
use Rattle.pl_bars.specs.Faults.{fault_of}
use Rattle.pl_bars.specs.declared.error.BarsError.{BarsError}
use Rattle.pl_bars.specs.declared.judged.Judged.{Judged}

-- a text of bars for these sessions and assets, as far as it was given
pub record TextSoFar : Type 0 where
  pub days : List ℤ
  pub assets : List AssetRow
  pub text : List ℕ

-- the rows of these first records of a file, of which there is none as long as there is no header
abbrev pub AreRowsOf : List ℤ → List AssetRow → Bool → List BarRow → List Record → Type 0
AreRowsOf days assets false rows front = (front ≡ []) × (rows ≡ [])
AreRowsOf days assets true rows front = rows_in days assets front ≡ Ok rows

-- whatever follows, the file has this fault
abbrev pub IsFaultOf : List ℤ → List AssetRow → List Record → BarsError → Type 0
IsFaultOf days assets front error =
    IfSome (fault_of error) (λ fault. (more : List Record) → rows_in days assets (front ++ more) ≡ Err fault)

-- the bars so far, their set, and whether they rise
pub record AreKept (days : List ℤ) (assets : List AssetRow) (j : Judged) : Type 0 where
  pub few : length j.rows.items ≤ most_bars
  pub seen : AreBarsIn j.seen (length assets) (length days) j.rows.items
  pub rises : IsTrue j.rise → Rise j.rows.items

-- whatever follows, the records of a text are those that were judged, and then those of what is left of it
pub record IsReadTo (days : List ℤ) (assets : List AssetRow) (text : List ℕ) (j : Judged) (rest : List ℕ) : Type 0 where
  pub front : List Record
  pub parts : (more : List ℕ) → csv_records (text ++ more) ≡ front ++ csv_records (rest ++ more)
  pub rows : AreRowsOf days assets j.headed j.rows.items front
  pub kept : AreKept days assets j

-- whatever follows, the text has this fault
abbrev pub IsFaulty : List ℤ → List AssetRow → List ℕ → BarsError → Type 0
IsFaulty days assets text error =
    IfSome (fault_of error) (λ fault. (more : List ℕ) → rows_in days assets (csv_records (text ++ more)) ≡ Err fault)

-- what is left of a text has no quote, or is marked
abbrev pub IsLeft : Bool → List ℕ → Type 0
IsLeft true rest = ⊤
IsLeft false rest = list_all is_unquoted rest ≡ true

-- the text was judged as far as its lines are whole, or it has the fault
abbrev pub Reads : List ℤ → List AssetRow → List ℕ → Result Judged BarsError → List ℕ → Type 0
Reads days assets text (Ok j) rest = IsReadTo days assets text j rest
Reads days assets text (Err error) rest = IsFaulty days assets text error
