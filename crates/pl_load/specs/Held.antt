-- What the contents are read as; nothing where a file isn't there or has a fault.
use Rattle.std.specs.Prelude.{ℕ, ℤ, List, [], Option, Some, None, unwrap_or}
use Rattle.std.specs.Result.{result_unwrap_or}
use Rattle.std.specs.Prelude.{Result}
use Rattle.pl_spec.specs.declared.AssetRow.{AssetRow}
use Rattle.pl_spec.specs.declared.BarRow.{BarRow}
use Rattle.pl_spec.specs.declared.RawAdjust.{RawAdjust}
use Rattle.pl_spec.specs.World.{World}
use Rattle.pl_pipeline.specs.Table.{Pipeline}
use Rattle.pl_spec.specs.Parts.{ColumnAdjustment, world_of}
use Rattle.pl_records.specs.Records.{csv_records}
use Rattle.pl_calendar.specs.Days.{sessions_of}
use Rattle.pl_lifetimes.specs.Assets.{assets_of}
use Rattle.pl_assets.specs.Labels.{LabelTable, no_labels, labels_of}
use Rattle.pl_numbers.specs.Numbers.{NumberTable, numbers_of}
use Rattle.pl_numbers.specs.Beside.{numbers_beside}
use Rattle.pl_bars.specs.Bars.{bars_of}
use Rattle.pl_payouts.specs.declared.reading.Dividend.{Dividend}
use Rattle.pl_payouts.specs.Payouts.{payouts_of}
use Rattle.pl_adjust.specs.Walk as rows
use Rattle.pl_adjust.specs.Tables.{adjustments_in}
use Rattle.pl_adjust.specs.Revised.{revised_by}
use Rattle.pl_adjust.specs.declared.revisions.Revision.{Revision}
use Rattle.pl_adjust.specs.Revisions.{revisions_of}
use Rattle.pl_derivation.specs.Lines.{Line}
use Rattle.pl_derivation.specs.Texts.{lines_in}
use Rattle.pl_syntax.specs.Spells.{Parsed}
use Rattle.pl_syntax.specs.Said.{Said, Spelled, Faulty, said}
use Rattle.pl_check.specs.Typed.{typed}
use Rattle.pl_outside.specs.declared.keeper.Table.{Table}
use Rattle.pl_outside.specs.declared.keeper.Table.TheVariants.{Splits, Mergers, Dividends}
use Rattle.pl_words.specs.declared.request.InputFile.TheVariants.{Pipeline as PipelineFile, Sessions, Assets, Labels, Numbers, Results, Bars, Revisions, Payouts, Derivation}
use Rattle.pl_words.specs.Request.{WorldNames}
use Rattle.pl_load.specs.Contents.{Contents}

abbrev pub bytes_in : Option (List ℕ) → List ℕ
bytes_in file = unwrap_or file []

abbrev pub script_said : Said → Parsed
script_said (Spelled script) = script
script_said (Faulty kind place) = record { version = 1; statements = []; end = place }

-- the script of a pipeline file
unfoldable pub script_in : Option (List ℕ) → Parsed
script_in file = script_said (said (bytes_in file))

abbrev pub no_pipeline : Pipeline
no_pipeline = record { graph = []; columns = []; screen = None; names = [] }

-- the pipeline that its script means
unfoldable pub pipeline_in : Option (List ℕ) → Pipeline
pipeline_in file = result_unwrap_or (typed (script_in file)) no_pipeline

unfoldable pub days_in : Option (List ℕ) → List ℤ
days_in file = result_unwrap_or (sessions_of (csv_records (bytes_in file))) []

unfoldable pub assets_in : Option (List ℕ) → List AssetRow
assets_in file = result_unwrap_or (assets_of (csv_records (bytes_in file))) []

unfoldable pub labels_in : List AssetRow → Option (List ℕ) → LabelTable
labels_in assets file = result_unwrap_or (labels_of assets (csv_records (bytes_in file))) no_labels

abbrev pub no_numbers : NumberTable
no_numbers = record { names = []; rows = [] }

unfoldable pub numbers_in : List AssetRow → Option (List ℕ) → NumberTable
numbers_in assets file = result_unwrap_or (numbers_of assets (csv_records (bytes_in file))) no_numbers

-- the numbers of a first file with those of a second one
unfoldable pub results_in : NumberTable → List AssetRow → Option (List ℕ) → NumberTable
results_in first assets file = result_unwrap_or (numbers_beside first assets (csv_records (bytes_in file))) no_numbers

unfoldable pub bars_in : List ℤ → List AssetRow → Option (List ℕ) → List BarRow
bars_in days assets file = result_unwrap_or (bars_of days assets (csv_records (bytes_in file))) []

unfoldable pub revisions_in : List ℤ → List AssetRow → Option (List ℕ) → List Revision
revisions_in days assets file = result_unwrap_or (revisions_of days assets (csv_records (bytes_in file))) []

unfoldable pub payouts_in : List AssetRow → Option (List ℕ) → List Dividend
payouts_in assets file = result_unwrap_or (payouts_of assets (csv_records (bytes_in file))) []

-- the lines of a derivation
unfoldable pub derivation_in : Option (List ℕ) → List Line
derivation_in file = result_unwrap_or (lines_in (bytes_in file)) []

-- the adjustments of three tables, or the first fault of their rows
abbrev pub adjustments_of_rows : List AssetRow → (Table → List RawAdjust) → Result (List ColumnAdjustment) rows.Fault
adjustments_of_rows assets rows = adjustments_in assets (rows Splits) (rows Mergers) (rows Dividends)

unfoldable pub adjustments_from : List AssetRow → (Table → List RawAdjust) → List ColumnAdjustment
adjustments_from assets rows = result_unwrap_or (adjustments_of_rows assets rows) []

-- none where no name is asked for
abbrev pub labels_asked : List AssetRow → Option (List ℕ) → Option (List ℕ) → LabelTable
labels_asked assets None file = no_labels
labels_asked assets (Some name) file = labels_in assets file

abbrev pub numbers_asked : List AssetRow → Option (List ℕ) → Option (List ℕ) → NumberTable
numbers_asked assets None file = no_numbers
numbers_asked assets (Some name) file = numbers_in assets file

-- the numbers of a first file with those of the results where their name is asked for
abbrev pub results_asked : List AssetRow → NumberTable → Option (List ℕ) → Option (List ℕ) → NumberTable
results_asked assets first None file = first
results_asked assets first (Some name) file = results_in first assets file

abbrev pub adjustments_asked : List AssetRow → Option (List ℕ) → (Table → List RawAdjust) → List ColumnAdjustment
adjustments_asked assets None rows = []
adjustments_asked assets (Some name) rows = adjustments_from assets rows

-- the adjustments, and among them the revisions of a file where its name is asked for
abbrev pub revised_asked : List ℤ → List AssetRow → List ColumnAdjustment → Option (List ℕ) → Option (List ℕ)
    → List ColumnAdjustment
revised_asked days assets adjustments None file = adjustments
revised_asked days assets adjustments (Some name) file = revised_by assets adjustments (revisions_in days assets file)

-- ---- of the contents of a command

abbrev pub pipeline_held : Contents → Pipeline
pipeline_held held = pipeline_in (held.file PipelineFile)

abbrev pub days_held : Contents → List ℤ
days_held held = days_in (held.file Sessions)

abbrev pub assets_held : Contents → List AssetRow
assets_held held = assets_in (held.file Assets)

abbrev pub bars_held : Contents → List BarRow
bars_held held = bars_in (days_held held) (assets_held held) (held.file Bars)

abbrev pub payouts_held : Contents → List Dividend
payouts_held held = payouts_in (assets_held held) (held.file Payouts)

abbrev pub derivation_held : Contents → List Line
derivation_held held = derivation_in (held.file Derivation)

-- the adjustments of the three tables, and the revisions
abbrev pub adjustments_held : Contents → WorldNames → List ColumnAdjustment
adjustments_held held q =
    let assets = assets_held held in
    let adjustments = adjustments_asked assets q.adjustments held.rows in
    revised_asked (days_held held) assets adjustments q.revisions (held.file Revisions)

-- the numbers of both files
abbrev pub numbers_held : Contents → WorldNames → NumberTable
numbers_held held q =
    let assets = assets_held held in
    results_asked assets (numbers_asked assets q.numbers (held.file Numbers)) q.results (held.file Results)

-- the world of these names
abbrev pub world_held : Contents → WorldNames → World
world_held held q =
    let assets = assets_held held in
    let labels = labels_asked assets q.labels (held.file Labels) in
    world_of (days_held held) assets labels.rows labels.texts (bars_held held) (adjustments_held held q) (numbers_held held q).rows
