-- The work of a command in its order, over the contents of its files and tables.
use Rattle.std.specs.Prelude.{ℕ, ℤ, List, [], ◌∷◌, ◌++◌, length, nat_lt, if◌then◌else◌, Option, Some, None, option_map, Result, Ok, Err}
use Rattle.pl_records.specs.Reading as reading
use Rattle.pl_records.specs.declared.fault.DataFault.{DataFault}
use Rattle.pl_spec.specs.declared.AssetRow.{AssetRow}
use Rattle.pl_spec.specs.declared.RawAdjust.{RawAdjust}
use Rattle.pl_records.specs.Records.{csv_records}
use Rattle.pl_calendar.specs.Days.{sessions_of}
use Rattle.pl_lifetimes.specs.Assets.{assets_of}
use Rattle.pl_assets.specs.Labels.{labels_of}
use Rattle.pl_numbers.specs.Numbers.{NumberTable, numbers_of}
use Rattle.pl_numbers.specs.Beside.{numbers_beside}
use Rattle.pl_bars.specs.Bars.{bars_of}
use Rattle.pl_payouts.specs.Payouts.{payouts_of}
use Rattle.pl_adjust.specs.Walk as rows
use Rattle.pl_adjust.specs.Revisions.{revisions_of}
use Rattle.pl_derivation.specs.Lines.{Line}
use Rattle.pl_derivation.specs.Texts.{Broken as BrokenLines, lines_in}
use Rattle.pl_syntax.specs.Spells.{Parsed}
use Rattle.pl_syntax.specs.Said.{Said, Spelled, Faulty, said}
use Rattle.pl_grammar.specs.declared.Place.{Place}
use Rattle.pl_check.specs.Faults.{Broken}
use Rattle.pl_check.specs.Numbered.{first_number}
use Rattle.pl_check.specs.Typed.{typed}
use Rattle.pl_outside.specs.declared.keeper.Table.{Table}
use Rattle.pl_outside.specs.declared.keeper.Table.TheVariants.{Splits, Mergers, Dividends}
use Rattle.pl_words.specs.declared.request.InputFile.{InputFile}
use Rattle.pl_words.specs.declared.request.InputFile.TheVariants.{Pipeline as PipelineFile, Sessions, Assets, Labels, Numbers, Results, Bars, Revisions, Payouts as PayoutsFile, Derivation}
use Rattle.pl_words.specs.Request.{Request, Run, Fmt, Check, Plan, Bench, Payouts, Explain, Verify, Daily, Cut, Windows, RunRequest, PlanRequest, ExplainRequest, VerifyRequest, WindowsRequest, WorldNames, numbers_named}
use Rattle.pl_spec.specs.Limits.{most_pipeline_bytes, most_file_bytes}
use Rattle.pl_load.specs.declared.fault.Limit.{Limit}
use Rattle.pl_load.specs.declared.fault.Limit.TheVariants as limits
use Rattle.pl_load.specs.declared.fault.Fault.{Fault}
use Rattle.pl_load.specs.declared.fault.Fault.TheVariants.{Usage, Rule, Passed, Unread}
use Rattle.pl_load.specs.declared.fault.RuleFault.TheVariants.{NoNumbers}
use Rattle.pl_load.specs.Contents.{Contents}
use Rattle.pl_load.specs.Rules.{syntax_fault, rule_fault, data_fault, lines_fault, rows_fault}
use Rattle.pl_load.specs.Held.{script_in, pipeline_held, days_held, assets_held, world_held, adjustments_of_rows, numbers_asked}
use Rattle.pl_load.specs.Steps.{WorkStep, rule}
use Rattle.pl_load.specs.Steps.Reading.{Bytes, Rows}
use Rattle.pl_load.specs.Range.{range_steps, windows_steps}
use Rattle.pl_load.specs.Cells.{cell_steps, lines_step}

-- ---- a file that is read whole and judged

abbrev pub cap_of : InputFile → ℕ
cap_of PipelineFile = most_pipeline_bytes
cap_of file = most_file_bytes

abbrev pub limit_of : InputFile → Limit
limit_of PipelineFile = limits.Pipeline
limit_of file = limits.File

-- It is there, it has no more bytes than its cap, and then its rule decides.
abbrev pub file_fault : InputFile → (List ℕ → Option Fault) → Option (List ℕ) → Option Fault
file_fault file rule None = Some (Unread file)
file_fault file rule (Some bytes) = if nat_lt (cap_of file) (length bytes) then Some (Passed (limit_of file)) else rule bytes

abbrev pub read_step : InputFile → (List ℕ → Option Fault) → Option (List ℕ) → WorkStep
read_step file rule bytes = record { reads = Some (Bytes file bytes); fault = file_fault file rule bytes }

-- ---- the rules of the bytes of files, of a script, of a pipeline and of the rows of three tables

abbrev pub fault_said : Said → Option Fault
fault_said (Spelled script) = None
fault_said (Faulty kind place) = Some (syntax_fault kind place)

unfoldable pub syntax_rule : List ℕ → Option Fault
syntax_rule bytes = fault_said (said bytes)

abbrev pub fault_typed : {A : Type 0} → Result A Broken → Option Fault
fault_typed (Ok pipeline) = None
fault_typed (Err b) = Some (rule_fault b.fault b.place)

unfoldable pub script_rule : Parsed → Option Fault
script_rule script = fault_typed (typed script)

abbrev pub fault_in : {A : Type 0} → InputFile → Result A (reading.Fault DataFault) → Option Fault
fault_in file (Ok x) = None
fault_in file (Err f) = Some (data_fault file f.line f.rule)

unfoldable pub sessions_rule : List ℕ → Option Fault
sessions_rule bytes = fault_in Sessions (sessions_of (csv_records bytes))

unfoldable pub assets_rule : List ℕ → Option Fault
assets_rule bytes = fault_in Assets (assets_of (csv_records bytes))

unfoldable pub labels_rule : List AssetRow → List ℕ → Option Fault
labels_rule assets bytes = fault_in Labels (labels_of assets (csv_records bytes))

unfoldable pub numbers_rule : List AssetRow → List ℕ → Option Fault
numbers_rule assets bytes = fault_in Numbers (numbers_of assets (csv_records bytes))

unfoldable pub results_rule : NumberTable → List AssetRow → List ℕ → Option Fault
results_rule first assets bytes = fault_in Results (numbers_beside first assets (csv_records bytes))

unfoldable pub bars_rule : List ℤ → List AssetRow → List ℕ → Option Fault
bars_rule days assets bytes = fault_in Bars (bars_of days assets (csv_records bytes))

unfoldable pub revisions_rule : List ℤ → List AssetRow → List ℕ → Option Fault
revisions_rule days assets bytes = fault_in Revisions (revisions_of days assets (csv_records bytes))

unfoldable pub payouts_rule : List AssetRow → List ℕ → Option Fault
payouts_rule assets bytes = fault_in PayoutsFile (payouts_of assets (csv_records bytes))

abbrev pub fault_of_lines : Result (List Line) BrokenLines → Option Fault
fault_of_lines (Ok lines) = None
fault_of_lines (Err f) = Some (lines_fault f)

unfoldable pub lines_rule : List ℕ → Option Fault
lines_rule bytes = fault_of_lines (lines_in bytes)

abbrev pub fault_of_rows : {A : Type 0} → Result A rows.Fault → Option Fault
fault_of_rows (Ok x) = None
fault_of_rows (Err f) = Some (rows_fault f)

unfoldable pub rows_rule : List AssetRow → (Table → List RawAdjust) → Option Fault
rows_rule assets rows = fault_of_rows (adjustments_of_rows assets rows)

-- ---- the work

abbrev pub syntax_step : Option (List ℕ) → WorkStep
syntax_step file = read_step PipelineFile syntax_rule file

-- a pipeline file is read: its syntax, and then the rules of its script
abbrev pub pipeline_steps : Option (List ℕ) → List WorkStep
pipeline_steps file = syntax_step file ∷ rule (script_rule (script_in file)) ∷ []

-- A pipeline that mentions a number is not computed where no file of numbers is named; the fault stands at
-- the first mention.
abbrev pub no_numbers_at : Place → Fault
no_numbers_at place = Rule place NoNumbers

abbrev pub unnumbered : Parsed → Option (List ℕ) → Option Fault
unnumbered script None = option_map no_numbers_at (first_number script)
unnumbered script (Some name) = None

abbrev pub numbers_step : Parsed → Option (List ℕ) → WorkStep
numbers_step script numbers = rule (unnumbered script numbers)

-- the pipeline file of a command that reads bars
abbrev pub evaluated_steps : Option (List ℕ) → Option (List ℕ) → List WorkStep
evaluated_steps file numbers = pipeline_steps file ++ numbers_step (script_in file) numbers ∷ []

abbrev pub sessions_step : Option (List ℕ) → WorkStep
sessions_step file = read_step Sessions sessions_rule file

-- a labels file is read where its name is asked for
abbrev pub labels_steps : List AssetRow → Option (List ℕ) → Option (List ℕ) → List WorkStep
labels_steps assets None file = []
labels_steps assets (Some name) file = read_step Labels (labels_rule assets) file ∷ []

-- and so is a numbers file
abbrev pub numbers_steps : List AssetRow → Option (List ℕ) → Option (List ℕ) → List WorkStep
numbers_steps assets None file = []
numbers_steps assets (Some name) file = read_step Numbers (numbers_rule assets) file ∷ []

-- a file of results, whose numbers stand beside those of the first
abbrev pub results_steps : List AssetRow → NumberTable → Option (List ℕ) → Option (List ℕ) → List WorkStep
results_steps assets first None file = []
results_steps assets first (Some name) file = read_step Results (results_rule first assets) file ∷ []

-- both files of numbers
abbrev pub figures_steps : List AssetRow → Contents → WorldNames → List WorkStep
figures_steps assets held q =
    numbers_steps assets q.numbers (held.file Numbers)
    ++ results_steps assets (numbers_asked assets q.numbers (held.file Numbers)) q.results (held.file Results)

abbrev pub load_step : (Table → List RawAdjust) → Table → WorkStep
load_step rows table = record { reads = Some (Rows table (rows table)); fault = None }

-- where a name is asked for, the three tables are loaded, and then their rows are judged
abbrev pub adjustments_steps : List AssetRow → Option (List ℕ) → (Table → List RawAdjust) → List WorkStep
adjustments_steps assets None rows = []
adjustments_steps assets (Some name) rows =
    load_step rows Splits ∷ load_step rows Mergers ∷ load_step rows Dividends ∷ rule (rows_rule assets rows) ∷ []

-- a revisions file is read where its name is asked for
abbrev pub revisions_steps : List ℤ → List AssetRow → Option (List ℕ) → Option (List ℕ) → List WorkStep
revisions_steps days assets None file = []
revisions_steps days assets (Some name) file = read_step Revisions (revisions_rule days assets) file ∷ []

-- the tables come after the bars, and the revisions last
abbrev pub revised_steps : List ℤ → List AssetRow → Contents → WorldNames → List WorkStep
revised_steps days assets held q =
    adjustments_steps assets q.adjustments held.rows ++ revisions_steps days assets q.revisions (held.file Revisions)

-- the labels, the numbers, the bars and the adjustments of a world with these sessions and assets
abbrev pub rows_steps : List ℤ → List AssetRow → Contents → WorldNames → List WorkStep
rows_steps days assets held q =
    labels_steps assets q.labels (held.file Labels)
    ++ (figures_steps assets held q
    ++ read_step Bars (bars_rule days assets) (held.file Bars) ∷ revised_steps days assets held q)

-- Each file is read whole and judged before the next one is begun.
unfoldable pub data_steps : Contents → WorldNames → List WorkStep
data_steps held q =
    sessions_step (held.file Sessions) ∷ read_step Assets assets_rule (held.file Assets)
    ∷ rows_steps (days_held held) (assets_held held) held q

-- first the pipeline file, then the data, and then the range
abbrev pub run_work : Contents → RunRequest → List WorkStep
run_work held q =
    evaluated_steps (held.file PipelineFile) (numbers_named q.world)
    ++ (data_steps held q.world ++ range_steps (pipeline_held held) (days_held held) q.from q.to q.options.as_of)

abbrev pub derivation_step : Option (List ℕ) → WorkStep
derivation_step file = read_step Derivation lines_rule file

-- the pipeline file, the data, and then the cell
abbrev pub cell_work : Contents → ExplainRequest → List WorkStep
cell_work held q =
    evaluated_steps (held.file PipelineFile) (numbers_named q.world)
    ++ (data_steps held q.world ++ cell_steps (pipeline_held held) (days_held held) (assets_held held) q)

-- ... and how long its derivation is
abbrev pub explain_work : Contents → ExplainRequest → List WorkStep
explain_work held q = cell_work held q ++ lines_step (world_held held q.world) (pipeline_held held) q ∷ []

-- the pipeline file, the data, and then the derivation
abbrev pub verify_work : Contents → VerifyRequest → List WorkStep
verify_work held q =
    evaluated_steps (held.file PipelineFile) (numbers_named q.world)
    ++ (data_steps held q.world ++ derivation_step (held.file Derivation) ∷ [])

-- the pipeline file, the sessions, and the range
abbrev pub plan_work : Contents → PlanRequest → List WorkStep
plan_work held q =
    pipeline_steps (held.file PipelineFile)
    ++ (sessions_step (held.file Sessions) ∷ range_steps (pipeline_held held) (days_held held) q.from q.to None)

-- the sessions, the assets, the bars, and then the payouts
abbrev pub payouts_work : Contents → List WorkStep
payouts_work held =
    let days = days_held held in
    let assets = assets_held held in
    sessions_step (held.file Sessions) ∷ read_step Assets assets_rule (held.file Assets)
    ∷ read_step Bars (bars_rule days assets) (held.file Bars)
    ∷ read_step PayoutsFile (payouts_rule assets) (held.file PayoutsFile) ∷ []

-- the data, and then the range
abbrev pub windows_work : Contents → WindowsRequest → List WorkStep
windows_work held q = data_steps held q.world ++ windows_steps (days_held held) q.from q.to q.window

-- A stated world is read from nowhere. A table that is computed session by session is judged as a run, and so
-- is one of whose world a part is asked for.
unfoldable pub work : Contents → Option Request → List WorkStep
work held None = rule (Some Usage) ∷ []
work held (Some (Run q)) = run_work held q
work held (Some (Fmt name)) = syntax_step (held.file PipelineFile) ∷ []
work held (Some (Check name)) = pipeline_steps (held.file PipelineFile)
work held (Some (Plan q)) = plan_work held q
work held (Some (Bench q)) = []
work held (Some (Payouts q)) = payouts_work held
work held (Some (Explain q)) = explain_work held q
work held (Some (Verify q)) = verify_work held q
work held (Some (Daily q)) = run_work held q
work held (Some (Cut q)) = run_work held q.table
work held (Some (Windows q)) = windows_work held q
