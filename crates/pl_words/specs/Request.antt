-- What the words ask for.
use Rattle.std.specs.Prelude.{ℕ, ◌≤◌, ⊤, ℤ, List, [], ◌∷◌, Bool, false, ◌==◌, ◌&&◌, nat_le, if◌then◌else◌, Option, Some, None, option_map, option_and_then, is_some, find, length, slice_index_or, bytes_eq, codes}
use Rattle.std.specs.List.{list_all}
use Rattle.std.specs.Option.{option_or}
use Rattle.pl_spec.specs.Limits.{most_chunk, most_window}
use Rattle.pl_spec.specs.Dates.{date_in}
use Rattle.pl_spec.specs.Decimals.{sid_in}
use Rattle.pl_spec.specs.Names.{column_name, is_name}
use Rattle.pl_spec.specs.declared.Column.{Column}
use Rattle.pl_spec.specs.declared.Column.TheVariants.{OpenPrice, High, Low, Close, Volume}
use Rattle.pl_spec.specs.declared.Format as form
use Rattle.pl_spec.specs.declared.Format.TheVariants.{Csv, Fixed, Cells}
use Rattle.pl_words.specs.declared.request.RangeDate.{RangeDate}
use Rattle.pl_words.specs.declared.request.RangeDate.TheVariants.{From, To, AsOf, At}
use Rattle.pl_words.specs.declared.request.WorldPart.{WorldPart}
use Rattle.pl_words.specs.declared.request.WorldPart.TheVariants as piece
use Rattle.pl_words.specs.declared.request.InputFile.{InputFile}
use Rattle.pl_words.specs.declared.request.InputFile.TheVariants as file
use Rattle.pl_words.specs.declared.commands.OptionName.{OptionName}
use Rattle.pl_words.specs.declared.commands.OptionName.TheVariants as option
use Rattle.pl_words.specs.declared.commands.CommandName.{CommandName}
use Rattle.pl_words.specs.declared.commands.CommandName.TheVariants as command
use Rattle.pl_words.specs.Commands.{command_named, places_of, options_of}
use Rattle.pl_words.specs.Parts.{Word, parts, names_of, values_of, is_text, one_value}

-- a date as it is written, and its day
pub record Dated : Type 0 where
  pub text : List ℕ
  pub day : ℤ

-- how many sessions a table is computed of at a time, its form, whether its numbers are told, and the date as
-- of which it is
pub record Options : Type 0 where
  pub chunk : ℕ
  pub format : form.Format
  pub stats : Bool
  pub as_of : Option Dated

-- the names of the files of a world, and those of its labels, numbers, results, adjustments and revisions
-- where it has some; results are numbers of a second file
pub record WorldNames : Type 0 where
  pub sessions : List ℕ
  pub assets : List ℕ
  pub bars : List ℕ
  pub labels : Option (List ℕ)
  pub numbers : Option (List ℕ)
  pub results : Option (List ℕ)
  pub adjustments : Option (List ℕ)
  pub revisions : Option (List ℕ)

-- the table of a pipeline over a world, from a date to a date
pub record RunRequest : Type 0 where
  pub pipeline : List ℕ
  pub world : WorldNames
  pub from : Dated
  pub to : Dated
  pub options : Options

-- the cell of a column for an asset on a date, of a pipeline over a world
pub record ExplainRequest : Type 0 where
  pub pipeline : List ℕ
  pub world : WorldNames
  pub sid : ℕ
  pub date : Dated
  pub column : List ℕ

-- the lines of the derivation of that name, of a pipeline over a world
pub record VerifyRequest : Type 0 where
  pub pipeline : List ℕ
  pub world : WorldNames
  pub derivation : List ℕ

-- a part of what a table reads of its world
pub record CutRequest : Type 0 where
  pub table : RunRequest
  pub part : WorldPart

-- the plan of a pipeline over the sessions of that name, from a date to a date
pub record PlanRequest : Type 0 where
  pub pipeline : List ℕ
  pub sessions : List ℕ
  pub from : Dated
  pub to : Dated

-- the stated pipeline over the stated world of that number, so many sessions at a time
pub record BenchRequest : Type 0 where
  pub number : ℕ
  pub chunk : ℕ

-- the payouts of the file of that name, over the sessions, assets and bars of the others
pub record PayoutsRequest : Type 0 where
  pub sessions : List ℕ
  pub assets : List ℕ
  pub bars : List ℕ
  pub payouts : List ℕ

-- the windows of so many sessions over a bar column of a world, from a date to a date
pub record WindowsRequest : Type 0 where
  pub world : WorldNames
  pub column : Column
  pub from : Dated
  pub to : Dated
  pub window : ℕ

-- the table of a pipeline, the canonical text of a pipeline file, whether it keeps the rules, a plan, the
-- numbers of a run over a stated world, the ratios of payouts, the derivation of a cell, whether a derivation
-- is right, a table that is computed session by session, a part of what a table reads, or the windows of a bar
-- column
pub data Request : Type 0 where
  Run : RunRequest → Request
  Fmt : (pipeline : List ℕ) → Request
  Check : (pipeline : List ℕ) → Request
  Plan : PlanRequest → Request
  Bench : BenchRequest → Request
  Payouts : PayoutsRequest → Request
  Explain : ExplainRequest → Request
  Verify : VerifyRequest → Request
  Daily : RunRequest → Request
  Cut : CutRequest → Request
  Windows : WindowsRequest → Request

abbrev pub dated : Word → Option Dated
dated text = option_map (λ day. record { text = text; day = day }) (date_in text)

abbrev pub name : List Word → ℕ → Word
name names i = slice_index_or names i []

-- ---- parts

abbrev pub all_parts : List WorldPart
all_parts =
    piece.Sessions ∷ piece.Assets ∷ piece.Bars ∷ piece.Labels ∷ piece.Numbers ∷ piece.Splits ∷ piece.Mergers ∷ piece.Dividends
    ∷ piece.Revisions ∷ []

abbrev pub part_text : WorldPart → Word
part_text piece.Sessions = codes "sessions"
part_text piece.Assets = codes "assets"
part_text piece.Bars = codes "bars"
part_text piece.Labels = codes "labels"
part_text piece.Numbers = codes "numbers"
part_text piece.Splits = codes "splits"
part_text piece.Mergers = codes "mergers"
part_text piece.Dividends = codes "dividends"
part_text piece.Revisions = codes "revisions"

-- the values that each option was given
abbrev pub Values : Type 0
Values = OptionName → List Word

-- from 1 to 4096, in digits without sign or leading zeros
abbrev pub chunk_in : Word → Option ℕ
chunk_in text = option_and_then (λ n. if nat_le 1 n && nat_le n most_chunk then Some n else None) (sid_in text)

abbrev pub usual_chunk : ℕ
usual_chunk = 126

abbrev pub chunk_or : Option Word → Option ℕ
chunk_or None = Some usual_chunk
chunk_or (Some text) = chunk_in text

abbrev pub chunk_by : Values → Option ℕ
chunk_by values = option_and_then chunk_or (one_value (values option.Chunk))

abbrev pub format_in : Word → Option form.Format
format_in text =
    if bytes_eq text (codes "csv") then Some Csv
    else if bytes_eq text (codes "fixed") then Some Fixed
    else if bytes_eq text (codes "cells") then Some Cells else None

-- csv where no format is given
abbrev pub format_or : Option Word → Option form.Format
format_or None = Some Csv
format_or (Some text) = format_in text

abbrev pub format_by : Values → Option form.Format
format_by values = option_and_then format_or (one_value (values option.Format))

-- whether the option is given
abbrev pub stats_by : Values → Option Bool
stats_by values = option_map (λ value. is_some value) (one_value (values option.Stats))

-- none where no such date is given
abbrev pub as_of_or : Option Word → Option (Option Dated)
as_of_or None = Some None
as_of_or (Some text) = option_map Some (dated text)

abbrev pub as_of_by : Values → Option (Option Dated)
as_of_by values = option_and_then as_of_or (one_value (values option.AsOf))

abbrev pub options_by : Values → Option Options
options_by values =
    option_and_then (λ chunk. option_and_then (λ format. option_and_then (λ stats. option_map (λ as_of.
    record { chunk = chunk; format = format; stats = stats; as_of = as_of })
    (as_of_by values)) (stats_by values)) (format_by values)) (chunk_by values)

-- of a table whose words give its form alone
abbrev pub usual : form.Format → Options
usual format = record { chunk = usual_chunk; format = format; stats = false; as_of = None }

abbrev pub world_over : List Word → Option Word → Option Word → Option Word → Option Word → Option Word → WorldNames
world_over names labels numbers results adjustments revisions =
    record {
      sessions = name names 1;
      assets = name names 2;
      bars = name names 3;
      labels = labels;
      numbers = numbers;
      results = results;
      adjustments = adjustments;
      revisions = revisions;
    }

-- three names after that of the pipeline, and five options
abbrev pub world_in : List Word → Values → Option WorldNames
world_in names values =
    option_and_then (λ labels. option_and_then (λ numbers. option_and_then (λ results. option_and_then (λ adjustments.
    option_map (λ revisions. world_over names labels numbers results adjustments revisions)
    (one_value (values option.Revisions))) (one_value (values option.Adjustments))) (one_value (values option.Results)))
    (one_value (values option.Numbers))) (one_value (values option.Labels))

abbrev pub table_over : List Word → Options → Dated → Dated → WorldNames → RunRequest
table_over names options from to world =
    record { pipeline = name names 0; world = world; from = from; to = to; options = options }

-- four names and two dates, and the names of the world
abbrev pub table_in : List Word → Values → Options → Option RunRequest
table_in names values options =
    option_and_then (λ from. option_and_then (λ to.
    option_map (table_over names options from to) (world_in names values))
    (dated (name names 5))) (dated (name names 4))

abbrev pub run_in : List Word → Values → Option RunRequest
run_in names values = option_and_then (table_in names values) (options_by values)

abbrev pub daily_in : List Word → Values → Option RunRequest
daily_in names values = option_and_then (λ format. table_in names values (usual format)) (format_by values)

-- the part of a name
abbrev pub part_in : Word → Option WorldPart
part_in text = find (λ part. bytes_eq text (part_text part)) all_parts

-- it has to be given
abbrev pub part_by : Values → Option WorldPart
part_by values = option_and_then (option_and_then part_in) (one_value (values option.Part))

abbrev pub cut_over : WorldPart → RunRequest → CutRequest
cut_over part table = record { table = table; part = part }

abbrev pub cut_in : List Word → Values → Option CutRequest
cut_in names values = option_and_then (λ part. option_map (cut_over part) (table_in names values (usual Csv))) (part_by values)

abbrev pub plan_over : List Word → Dated → Dated → PlanRequest
plan_over names from to = record { pipeline = name names 0; sessions = name names 1; from = from; to = to }

-- two names and two dates
abbrev pub plan_in : List Word → Option PlanRequest
plan_in names =
    option_and_then (λ from. option_map (plan_over names from) (dated (name names 3))) (dated (name names 2))

-- a number from 0 to 4294967295, in digits without sign or leading zeros
abbrev pub bench_in : List Word → Values → Option BenchRequest
bench_in names values =
    option_and_then (λ number. option_map (λ chunk. record { number = number; chunk = chunk }) (chunk_by values))
    (sid_in (name names 0))

-- four names
abbrev pub payouts_over : List Word → PayoutsRequest
payouts_over names =
    record { sessions = name names 0; assets = name names 1; bars = name names 2; payouts = name names 3 }

abbrev pub explain_over : List Word → ℕ → Dated → WorldNames → ExplainRequest
explain_over names sid date world =
    record { pipeline = name names 0; world = world; sid = sid; date = date; column = name names 6 }

-- a word of the form of a column's name
abbrev pub column_in : Word → Option Word
column_in text = if is_name text then Some text else None

-- four names, a sid, a date and the name of a column, and the options
abbrev pub explain_in : List Word → Values → Option ExplainRequest
explain_in names values =
    option_and_then (λ sid. option_and_then (λ date. option_and_then (λ column.
    option_map (explain_over names sid date) (world_in names values))
    (column_in (name names 6))) (dated (name names 5))) (sid_in (name names 4))

-- five names and the options
abbrev pub verify_in : List Word → Values → Option VerifyRequest
verify_in names values =
    option_map (λ world. record { pipeline = name names 0; world = world; derivation = name names 4 }) (world_in names values)

-- the names of a world without labels and numbers: three names, and two options
abbrev pub bars_world_over : List Word → Option Word → Option Word → WorldNames
bars_world_over names adjustments revisions =
    record {
      sessions = name names 0;
      assets = name names 1;
      bars = name names 2;
      labels = None;
      numbers = None;
      results = None;
      adjustments = adjustments;
      revisions = revisions;
    }

abbrev pub bars_world_in : List Word → Values → Option WorldNames
bars_world_in names values =
    option_and_then (λ adjustments. option_map (λ revisions. bars_world_over names adjustments revisions)
    (one_value (values option.Revisions))) (one_value (values option.Adjustments))

-- the bar column of a name
abbrev pub bar_column_in : Word → Option Column
bar_column_in text = find (λ c. bytes_eq text (column_name c)) (OpenPrice ∷ High ∷ Low ∷ Close ∷ Volume ∷ [])

-- from 1 to the most that a window has, in digits without sign or leading zeros
abbrev pub window_in : Word → Option ℕ
window_in text = option_and_then (λ n. if nat_le 1 n && nat_le n most_window then Some n else None) (sid_in text)

abbrev pub windows_over : Column → Dated → Dated → ℕ → WorldNames → WindowsRequest
windows_over column from to window world =
    record { world = world; column = column; from = from; to = to; window = window }

-- three names, a bar column, two dates and how many sessions a window has, and the options
abbrev pub windows_in : List Word → Values → Option WindowsRequest
windows_in names values =
    option_and_then (λ column. option_and_then (λ from. option_and_then (λ to. option_and_then (λ window.
    option_map (windows_over column from to window) (bars_world_in names values))
    (window_in (name names 6))) (dated (name names 5))) (dated (name names 4))) (bar_column_in (name names 3))

-- what a command asks for by its names and its options' values
abbrev pub request_in : CommandName → List Word → Values → Option Request
request_in command.Run names values = option_map Run (run_in names values)
request_in command.Check names values = Some (Check (name names 0))
request_in command.Fmt names values = Some (Fmt (name names 0))
request_in command.Plan names values = option_map Plan (plan_in names)
request_in command.Bench names values = option_map Bench (bench_in names values)
request_in command.Payouts names values = Some (Payouts (payouts_over names))
request_in command.Explain names values = option_map Explain (explain_in names values)
request_in command.Verify names values = option_map Verify (verify_in names values)
request_in command.Daily names values = option_map Daily (daily_in names values)
request_in command.Cut names values = option_map Cut (cut_in names values)
request_in command.Windows names values = option_map Windows (windows_in names values)

-- It takes exactly its number of names.
unfoldable pub counted : CommandName → List Word → Values → Option Request
counted command names values = if length names == places_of command then request_in command names values else None

-- No word after the command is empty or a hyphen alone.
abbrev pub asked : CommandName → List Word → Option Request
asked command words =
    if list_all is_text words then
    option_and_then (λ ps. counted command (names_of ps) (λ option. values_of option ps)) (parts (options_of command) None words)
    else None

-- the first word is the command
unfoldable pub request : List Word → Option Request
request [] = None
request (first ∷ words) = option_and_then (λ command. asked command words) (command_named first)

abbrev pub IsChunk : ℕ → Type 0
IsChunk n = (1 ≤ n) × (n ≤ most_chunk)

abbrev pub IsWindow : ℕ → Type 0
IsWindow n = (1 ≤ n) × (n ≤ most_window)

-- a chunk and a window have a length that is allowed
abbrev pub HasChunk : Request → Type 0
HasChunk (Run q) = IsChunk q.options.chunk
HasChunk (Bench q) = IsChunk q.chunk
HasChunk (Windows q) = IsWindow q.window
HasChunk request = ⊤

-- ---- what words name

-- the pipeline, and the world over which it is
abbrev pub pipeline_of : Request → Option (List ℕ)
pipeline_of (Run q) = Some q.pipeline
pipeline_of (Fmt name) = Some name
pipeline_of (Check name) = Some name
pipeline_of (Plan q) = Some q.pipeline
pipeline_of (Explain q) = Some q.pipeline
pipeline_of (Verify q) = Some q.pipeline
pipeline_of (Daily q) = Some q.pipeline
pipeline_of (Cut q) = Some q.table.pipeline
pipeline_of q = None

abbrev pub world_of : Request → Option WorldNames
world_of (Run q) = Some q.world
world_of (Explain q) = Some q.world
world_of (Verify q) = Some q.world
world_of (Daily q) = Some q.world
world_of (Cut q) = Some q.table.world
world_of (Windows q) = Some q.world
world_of q = None

-- the name of a file of numbers: that of the first one, or else that of the results
abbrev pub numbers_named : WorldNames → Option (List ℕ)
numbers_named w = option_or w.numbers w.results

abbrev pub world_file : WorldNames → InputFile → Option (List ℕ)
world_file w file.Sessions = Some w.sessions
world_file w file.Assets = Some w.assets
world_file w file.Labels = w.labels
world_file w file.Numbers = w.numbers
world_file w file.Results = w.results
world_file w file.Bars = Some w.bars
world_file w file.Revisions = w.revisions
world_file w file = None

-- the name of a file, where the request has it
abbrev pub file_named : Request → InputFile → Option (List ℕ)
file_named (Plan q) file.Sessions = Some q.sessions
file_named (Payouts q) file.Sessions = Some q.sessions
file_named (Payouts q) file.Assets = Some q.assets
file_named (Payouts q) file.Bars = Some q.bars
file_named (Payouts q) file.Payouts = Some q.payouts
file_named (Verify q) file.Derivation = Some q.derivation
file_named q file.Pipeline = pipeline_of q
file_named q file = option_and_then (λ w. world_file w file) (world_of q)

abbrev pub table_date : RunRequest → RangeDate → Option (List ℕ)
table_date q From = Some q.from.text
table_date q To = Some q.to.text
table_date q AsOf = option_map (λ d. d.text) q.options.as_of
table_date q At = None

-- a date as it is written, where the request has it
abbrev pub date_named : Request → RangeDate → Option (List ℕ)
date_named (Run q) date = table_date q date
date_named (Daily q) date = table_date q date
date_named (Cut q) date = table_date q.table date
date_named (Plan q) From = Some q.from.text
date_named (Plan q) To = Some q.to.text
date_named (Explain q) At = Some q.date.text
date_named (Windows q) From = Some q.from.text
date_named (Windows q) To = Some q.to.text
date_named q date = None

abbrev pub column_named : Request → Option (List ℕ)
column_named (Explain q) = Some q.column
column_named q = None

abbrev pub name_asked : Option Request → InputFile → Option (List ℕ)
name_asked asked file = option_and_then (λ q. file_named q file) asked

abbrev pub date_asked : Option Request → RangeDate → Option (List ℕ)
date_asked asked date = option_and_then (λ q. date_named q date) asked

abbrev pub adjustments_of : Option Request → Option (List ℕ)
adjustments_of asked = option_and_then (λ w. w.adjustments) (option_and_then world_of asked)

abbrev pub column_asked : Option Request → Option (List ℕ)
column_asked asked = option_and_then column_named asked
