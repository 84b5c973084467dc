-- The greatest sizes of what is read, computed and written.
use Rattle.std.specs.Prelude.{ℕ, ◌-◌, ◌^◌, min}

-- ---- files, in bytes

abbrev pub most_pipeline_bytes : ℕ
most_pipeline_bytes = 262144

-- of any other file
abbrev pub most_file_bytes : ℕ
most_file_bytes = 536870912

-- a text of a label
abbrev pub most_label_bytes : ℕ
most_label_bytes = 64

-- ---- records

abbrev pub most_sessions : ℕ
most_sessions = 16000

abbrev pub most_assets : ℕ
most_assets = 8000

abbrev pub most_labels : ℕ
most_labels = 200000

abbrev pub most_bars : ℕ
most_bars = 4000000

abbrev pub most_numbers : ℕ
most_numbers = 2000000

-- rows of the three tables of adjustments, all together
abbrev pub most_adjustments : ℕ
most_adjustments = 1000000

abbrev pub most_revisions : ℕ
most_revisions = 200000

abbrev pub most_payouts : ℕ
most_payouts = 200000

-- lines of a derivation
abbrev pub most_lines : ℕ
most_lines = 100000

-- ---- pipelines and runs

abbrev pub most_terms : ℕ
most_terms = 256

abbrev pub most_columns : ℕ
most_columns = 64

-- sessions of a window
abbrev pub most_window : ℕ
most_window = 1260

-- sessions before the first of a range that its terms read
abbrev pub most_extra_rows : ℕ
most_extra_rows = 4096

-- sessions of a chunk
abbrev pub most_chunk : ℕ
most_chunk = 4096

-- ---- steps

-- the number, or the greatest that 64 bits hold
abbrev pub saturated : ℕ → ℕ
saturated n = min n (2 ^ 64 - 1)
