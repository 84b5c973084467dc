-- What has no fault was read: the parts of contents, each as its reader keeps it.
use Rattle.std.proofs.Common.{◌≡◌, ℕ, ◌≤◌, nat_lt, Bool, true, false, cond, not, ℤ, List, [], ◌∷◌, ◌++◌, Option, Some, None, is_some, unwrap_or, Result, Ok, Err, refl, arith}
use Rattle.std.specs.Option.{ForSome, option_or}
use Rattle.std.specs.Result.{result_unwrap_or}
use Rattle.std.proofs.lemmas.Bool.{or_parts}
use Rattle.std.proofs.lemmas.Bool.Decides.{nat_tests}
use Rattle.pl_records.specs.Reading as reading
use Rattle.pl_records.specs.Reading.{Record}
use Rattle.pl_records.specs.Records.{csv_records}
use Rattle.pl_records.specs.declared.fault.DataFault.{DataFault}
use Rattle.pl_spec.specs.declared.AssetRow.{AssetRow}
use Rattle.pl_spec.specs.declared.RawAdjust.{RawAdjust}
use Rattle.pl_calendar.specs.Days.{sessions_of}
use Rattle.pl_lifetimes.specs.Assets.{assets_of}
use Rattle.pl_assets.specs.Labels.{labels_of, no_labels}
use Rattle.pl_numbers.specs.Numbers.{NumberTable, numbers_of}
use Rattle.pl_numbers.specs.Beside.{numbers_beside}
use Rattle.pl_bars.specs.Bars.{bars_of}
use Rattle.pl_adjust.specs.Walk as rows
use Rattle.pl_adjust.specs.Revisions.{revisions_of}
use Rattle.pl_outside.specs.declared.keeper.Table.{Table}
use Rattle.pl_words.specs.declared.request.InputFile.{InputFile}
use Rattle.pl_words.specs.declared.request.InputFile.TheVariants.{Sessions, Assets, Labels, Numbers, Bars, Revisions, Results}
use Rattle.pl_pipeline.specs.Table.{Pipeline}
use Rattle.pl_words.specs.Request.{Dated, ExplainRequest, WorldNames}
use Rattle.pl_load.specs.Cells.{cell_steps}
use Rattle.pl_load.specs.declared.fault.Fault.{Fault}
use Rattle.pl_load.specs.Contents.{Contents}
use Rattle.pl_load.specs.Held.{bytes_in, days_held, days_in, assets_held, assets_in, bars_held, bars_in, labels_in, numbers_asked, numbers_in, no_numbers, results_in, revisions_in, adjustments_from, adjustments_of_rows}
use Rattle.pl_load.specs.Range.{session_of, index_of, index_asked, is_unknown, are_backwards, dates_steps}
use Rattle.pl_load.specs.Steps.{WorkStep, first_fault, when}
use Rattle.pl_load.specs.Work.{file_fault, fault_in, fault_of_rows, sessions_rule, assets_rule, labels_rule, numbers_rule, results_rule, bars_rule, revisions_rule, rows_rule, figures_steps, labels_steps, numbers_steps, results_steps, adjustments_steps, revisions_steps, data_steps}

-- ---- steps without a fault

pub or-none : {A : Type 0} (o p : Option A) → option_or o p ≡ None → (o ≡ None) × (p ≡ None)
or-none None p h = (refl, h)
or-none (Some x) p h = absurd (cc)

pub first-none : (ss ts : List WorkStep) → first_fault (ss ++ ts) ≡ None → (first_fault ss ≡ None) × (first_fault ts ≡ None)
first-none [] ts h = (refl, h)
first-none (s ∷ ss) ts h =
    let p = or-none s.fault (first_fault (ss ++ ts)) h in
    let q = first-none ss ts p.1 in
    (rw (p.0, q.0) refl, q.1)

passed : (b : Bool) (f : Fault) (o : Option Fault) → cond b (Some f) o ≡ None → o ≡ None
passed true f o h = absurd (cc)
passed false f o h = h

fault-none : {A : Type 0} (file : InputFile) (r : Result A (reading.Fault DataFault)) (x : A) → fault_in file r ≡ None → r ≡ Ok (result_unwrap_or r x)
fault-none file (Ok y) x h = refl
fault-none file (Err f) x h = absurd (cc)

rows-none : {A : Type 0} (r : Result A rows.Fault) (x : A) → fault_of_rows r ≡ None → r ≡ Ok (result_unwrap_or r x)
rows-none (Ok y) x h = refl
rows-none (Err f) x h = absurd (cc)

-- ---- files without a fault

abbrev pub records_in : Option (List ℕ) → List Record
records_in file = csv_records (bytes_in file)

pub sessions-read : (file : Option (List ℕ)) → file_fault Sessions sessions_rule file ≡ None → sessions_of (records_in file) ≡ Ok (days_in file)
unfolding sessions_rule days_in
sessions-read None h = absurd (cc)
sessions-read (Some bytes) h = fault-none Sessions (sessions_of (csv_records bytes)) [] (passed _ _ _ h)

pub assets-read : (file : Option (List ℕ)) → file_fault Assets assets_rule file ≡ None → assets_of (records_in file) ≡ Ok (assets_in file)
unfolding assets_rule assets_in
assets-read None h = absurd (cc)
assets-read (Some bytes) h = fault-none Assets (assets_of (csv_records bytes)) [] (passed _ _ _ h)

module _ (assets : List AssetRow) where
  labels-read : (file : Option (List ℕ)) → file_fault Labels (labels_rule assets) file ≡ None → labels_of assets (records_in file) ≡ Ok (labels_in assets file)
  unfolding labels_rule labels_in
  labels-read None h = absurd (cc)
  labels-read (Some bytes) h = fault-none Labels (labels_of assets (csv_records bytes)) no_labels (passed _ _ _ h)

  numbers-read : (file : Option (List ℕ)) → file_fault Numbers (numbers_rule assets) file ≡ None → numbers_of assets (records_in file) ≡ Ok (numbers_in assets file)
  unfolding numbers_rule numbers_in
  numbers-read None h = absurd (cc)
  numbers-read (Some bytes) h = fault-none Numbers (numbers_of assets (csv_records bytes)) no_numbers (passed _ _ _ h)

  results-read : (first : NumberTable) (file : Option (List ℕ)) → file_fault Results (results_rule first assets) file ≡ None
      → numbers_beside first assets (records_in file) ≡ Ok (results_in first assets file)
  unfolding results_rule results_in
  results-read first None h = absurd (cc)
  results-read first (Some bytes) h = fault-none Results (numbers_beside first assets (csv_records bytes)) no_numbers (passed _ _ _ h)

  labels-asked : (name file : Option (List ℕ)) → first_fault (labels_steps assets name file) ≡ None → ForSome name (λ n. labels_of assets (records_in file) ≡ Ok (labels_in assets file))
  labels-asked None file h n e = absurd (cc)
  labels-asked (Some m) file h n e = labels-read file (or-none (file_fault Labels (labels_rule assets) file) None h).0

  numbers-asked : (name file : Option (List ℕ)) → first_fault (numbers_steps assets name file) ≡ None → ForSome name (λ n. numbers_of assets (records_in file) ≡ Ok (numbers_in assets file))
  numbers-asked None file h n e = absurd (cc)
  numbers-asked (Some m) file h n e = numbers-read file (or-none (file_fault Numbers (numbers_rule assets) file) None h).0

  results-asked : (first : NumberTable) (name file : Option (List ℕ)) → first_fault (results_steps assets first name file) ≡ None
      → ForSome name (λ n. numbers_beside first assets (records_in file) ≡ Ok (results_in first assets file))
  results-asked first None file h n e = absurd (cc)
  results-asked first (Some m) file h n e = results-read first file (or-none (file_fault Results (results_rule first assets) file) None h).0

  tables-asked : (name : Option (List ℕ)) (rows : Table → List RawAdjust) → first_fault (adjustments_steps assets name rows) ≡ None
      → ForSome name (λ n. adjustments_of_rows assets rows ≡ Ok (adjustments_from assets rows))
  unfolding rows_rule adjustments_from
  tables-asked None rows h n e = absurd (cc)
  tables-asked (Some m) rows h n e = rows-none (adjustments_of_rows assets rows) [] (or-none (rows_rule assets rows) None h).0

  module _ (days : List ℤ) where
    pub bars-read : (file : Option (List ℕ)) → file_fault Bars (bars_rule days assets) file ≡ None → bars_of days assets (records_in file) ≡ Ok (bars_in days assets file)
    unfolding bars_rule bars_in
    bars-read None h = absurd (cc)
    bars-read (Some bytes) h = fault-none Bars (bars_of days assets (csv_records bytes)) [] (passed _ _ _ h)

    revisions-read : (file : Option (List ℕ)) → file_fault Revisions (revisions_rule days assets) file ≡ None → revisions_of days assets (records_in file) ≡ Ok (revisions_in days assets file)
    unfolding revisions_rule revisions_in
    revisions-read None h = absurd (cc)
    revisions-read (Some bytes) h = fault-none Revisions (revisions_of days assets (csv_records bytes)) [] (passed _ _ _ h)

    revisions-asked : (name file : Option (List ℕ)) → first_fault (revisions_steps days assets name file) ≡ None
        → ForSome name (λ n. revisions_of days assets (records_in file) ≡ Ok (revisions_in days assets file))
    revisions-asked None file h n e = absurd (cc)
    revisions-asked (Some m) file h n e = revisions-read file (or-none (file_fault Revisions (revisions_rule days assets) file) None h).0

-- ---- the data of a world

pub record AreRead (held : Contents) (q : WorldNames) : Type 0 where
  pub days : sessions_of (records_in (held.file Sessions)) ≡ Ok (days_held held)
  pub assets : assets_of (records_in (held.file Assets)) ≡ Ok (assets_held held)
  pub labels : ForSome q.labels (λ n. labels_of (assets_held held) (records_in (held.file Labels)) ≡ Ok (labels_in (assets_held held) (held.file Labels)))
  pub numbers : ForSome q.numbers (λ n. numbers_of (assets_held held) (records_in (held.file Numbers)) ≡ Ok (numbers_in (assets_held held) (held.file Numbers)))
  pub results : ForSome q.results (λ n. numbers_beside (numbers_asked (assets_held held) q.numbers (held.file Numbers)) (assets_held held) (records_in (held.file Results))
      ≡ Ok (results_in (numbers_asked (assets_held held) q.numbers (held.file Numbers)) (assets_held held) (held.file Results)))
  pub bars : bars_of (days_held held) (assets_held held) (records_in (held.file Bars)) ≡ Ok (bars_held held)
  pub tables : ForSome q.adjustments (λ n. adjustments_of_rows (assets_held held) held.rows ≡ Ok (adjustments_from (assets_held held) held.rows))
  pub revisions : ForSome q.revisions (λ n. revisions_of (days_held held) (assets_held held) (records_in (held.file Revisions)) ≡ Ok (revisions_in (days_held held) (assets_held held) (held.file Revisions)))

pub data-read : (held : Contents) (q : WorldNames) → first_fault (data_steps held q) ≡ None → AreRead held q
unfolding data_steps
data-read held q h =
    let days = days_held held in
    let assets = assets_held held in
    let one = or-none (file_fault Sessions sessions_rule (held.file Sessions)) _ h in
    let two = or-none (file_fault Assets assets_rule (held.file Assets)) _ one.1 in
    let three = first-none (labels_steps assets q.labels (held.file Labels)) _ two.1 in
    let first = numbers_asked assets q.numbers (held.file Numbers) in
    let four = first-none (figures_steps assets held q) _ three.1 in
    let figures = first-none (numbers_steps assets q.numbers (held.file Numbers)) _ four.0 in
    let five = or-none (file_fault Bars (bars_rule days assets) (held.file Bars)) _ four.1 in
    let six = first-none (adjustments_steps assets q.adjustments held.rows) _ five.1 in
    record {
      days = sessions-read (held.file Sessions) one.0;
      assets = assets-read (held.file Assets) two.0;
      labels = labels-asked assets q.labels (held.file Labels) three.0;
      numbers = numbers-asked assets q.numbers (held.file Numbers) figures.0;
      results = results-asked assets first q.results (held.file Results) figures.1;
      bars = bars-read assets days (held.file Bars) five.0;
      tables = tables-asked assets q.adjustments held.rows six.0;
      revisions = revisions-asked assets days q.revisions (held.file Revisions) six.1;
    }

-- ---- the dates of a range

found : {A : Type 0} (o : Option A) (f : Fault) → when (not (is_some o)) f ≡ None → (x : A) × (o ≡ Some x)
found None f h = absurd (cc)
found (Some x) f h = (x, refl)

-- the dates are of sessions, and the last is not before the first
pub record AreFound (from to : Dated) (days : List ℤ) : Type 0 where
  pub first : ℕ
  pub first_is : session_of days from.day ≡ Some first
  pub last : ℕ
  pub last_is : session_of days to.day ≡ Some last
  pub forward : first ≤ last

pub unlike : (b : Bool) (f : Fault) → when b f ≡ None → b ≡ false
unlike true f h = absurd (cc)
unlike false f h = refl

not-before : (i j : ℕ) (known : Option ℕ) → are_backwards i j known ≡ false → i ≤ j
not-before i j known h = forward (or_parts (nat_lt j i) _ h).0
  where
    forward : nat_lt j i ≡ false → i ≤ j
    forward t = grind (arith, nat_tests)

places : (o p : Option ℕ) (i j : ℕ) → o ≡ Some i → p ≡ Some j → unwrap_or o 0 ≤ unwrap_or p 0 → i ≤ j
places o p i j e f h = rw (e, f) at h

pub dates-found : (from to : Dated) (as_of : Option Dated) (days : List ℤ) → first_fault (dates_steps from to as_of days) ≡ None → AreFound from to days
unfolding dates_steps
dates-found from to as_of days h =
    let one = or-none (when (not (is_some (session_of days from.day))) _) _ h in
    let two = or-none (when (not (is_some (session_of days to.day))) _) _ one.1 in
    let three = or-none (when (is_unknown days as_of) _) _ two.1 in
    let four = or-none (when (are_backwards (index_of days from.day) (index_of days to.day) (index_asked days as_of)) _) None three.1 in
    let at = found (session_of days from.day) _ one.0 in
    let end = found (session_of days to.day) _ two.0 in
    let order : index_of days from.day ≤ index_of days to.day = not-before _ _ (index_asked days as_of) (unlike _ _ four.0) in
    record { first = at.0; first_is = at.1; last = end.0; last_is = end.1; forward = places _ _ at.0 end.0 at.1 end.1 order }

-- the date of a cell is of one
pub date-found : (p : Pipeline) (days : List ℤ) (assets : List AssetRow) (q : ExplainRequest) → first_fault (cell_steps p days assets q) ≡ None
    → (i : ℕ) × (session_of days q.date.day ≡ Some i)
unfolding cell_steps
date-found p days assets q h = found (session_of days q.date.day) _ (or-none (when (not (is_some (session_of days q.date.day))) _) _ h).0
